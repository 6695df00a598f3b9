-- The loops of the type check over columns: nodes that are raised until none is left, and the first question that fails. That this
-- leads to the least types is not shown here but over lists (`RaisedLaws`).
use mathlib.Core.Path.{◌≡◌, refl, sym, ap, ap₂, subst, ◌∙◌}
use mathlib.Core.Bool.{Bool, true, false, not, ◌||◌, ◌&&◌, beq, cond, or-false}
use mathlib.Core.List.{List, ◌∷◌}
use mathlib.Core.Logic.{◌⊎◌, inl, inr, ⊎_elim}
use mathlib.Core.Option.{Option}
use Prim.Native.Nat.{ℕ, zero, suc, ◌+◌, ◌-◌, ◌^◌, ◌≤◌, ◌<◌}
use native.Mathlib.Numerals.{add-one}
use native.Mathlib.Omega.{arith}
use native.Mathlib.Nat.{sub-zero}
use lib.Bits.{bit_or, or_zero_r}
use lib.Dec.{eqb}
use lib.ListN.{get_or, set, length, replicate, length-set, get_or-replicate, get_or-eq_default}
use lib.Pow.{pow_pos, pow_mono}
use lib.Seq.{get_or-set_same, get_or-set_other, ext_get_or}
use borrow.Author.Tests.{eq-eqb, ne_eqb}
use Rattle.basics.specs.Bits.{bit, ◌∈◌}
use Rattle.basics.proofs.laws.BitLaws.{bit-or, bit_one, bit-zero, bit-below, lt-pow_self, ∈_cases, ∈_left, ∈_right, ∈_zero, ∈_cond, ∈_when}
use Rattle.basics.specs.Lists.{or_else}
use Rattle.basics.proofs.laws.Order.{compare_cases, lt-or-le}
use Rattle.types.specs.Types.{LanguageType, bottom_type, alternative_type}
use Rattle.types.specs.Nodes.{Node, bottom_node, node_at}
use Rattle.types.specs.LeastTypes.{type_of, node_type, same_type, types_of}
use Rattle.types.specs.Questions as questions
use Rattle.types.specs.Questions.{first_fault}
use Rattle.columns.specs.Tabulate.{tabulate}
use Rattle.columns.proofs.laws.TabulateLaws.{tabulate-length, tabulate-next, tabulate_end}
use Rattle.columns.specs.HeldNodes.{held_nodes, held_type, held_types}
use Rattle.columns.proofs.laws.HeldAt.{nodes-counted, node_held}
use Rattle.sheet.specs.Limits.{most_tokens}
use Rattle.types.specs.laws.NodeRanges.{NodeInRange}
use Rattle.columns.specs.laws.Within.{LinksFit}
use Rattle.columns.specs.declared.NodeLinks.{NodeLinks}
use Rattle.columns.specs.declared.TypeColumns.{TypeColumns}
use Rattle.type_checker.specs.laws.TypeBy.{type_by, fault_by}
use Rattle.type_checker.proofs.laws.TypeBy.{type_of-listed, node_type_by, node_fault_by}
use Rattle.type_checker.specs.Dependents.{GoesBy, DependentsBelow}
use Rattle.type_checker.specs.Raised.{grown, raised_at, RaisedIn}
use Rattle.type_checker.proofs.laws.RaisedLaws.{Settling, steps_left, settling_first, settling_next, settling_falls, settling_done}
use Rattle.type_checker.specs.Found.{language_type, linked_node, type_in, fault_of, asked}
use Rattle.type_checker.specs.declared.NodeType.{NodeType}
use Rattle.std.specs.Prelude as Prelude
use Rattle.std.specs.Prelude.{Some, None}
use Rattle.type_checker.proofs.Sets.{all_in, no_more_in, last_in, was_in, still_in}

-- ---- one node's type is stored

-- A set with node i, if it is to be in it.
with_at : (b : Bool) (s i : ℕ) → bit (cond b (bit_or s (2 ^ i)) s) i ≡ (bit s i || b)
with_at true s i = bit-or s (2 ^ i) i ∙ ap (λ (x : Bool). bit s i || x) (bit_one i i ∙ eq-eqb i i refl)
with_at false s i = sym (or-false (bit s i))

with_other : (b : Bool) (s i q : ℕ) → (q ≡ i → ⊥) → bit (cond b (bit_or s (2 ^ i)) s) q ≡ bit s q
with_other true s i q n =
    bit-or s (2 ^ i) q ∙ ap (λ (x : Bool). bit s q || x) (bit_one i q ∙ ne_eqb i q (λ e. n (sym e))) ∙ or-false (bit s q)
with_other false s i q n = refl

-- Columns with an entry for every node there can be.
pub record Long (c : TypeColumns) : Type 0 where
  pub first_long : length c.first ≡ 64
  pub flast_long : length c.flast ≡ 64

module _ (c : TypeColumns) (i : ℕ) (t : NodeType) (null : ℕ) (null_is : null ≡ cond t.null (bit_or c.null (2 ^ i)) c.null) where
  abbrev pub stored : TypeColumns
  stored = record { null = null; first = set c.first i t.first; flast = set c.flast i t.flast }

  stored_other : (q : ℕ) → (q ≡ i → ⊥) → type_in stored q ≡ type_in c q
  unfolding held_type
  stored_other q n = rw (
    null_is,
    with_other t.null c.null i q n,
    get_or-set_other c.first i q t.first 0 n,
    get_or-set_other c.flast i q t.flast 0 n,
  )

  -- A type that has what the node had: the flag need not be taken away first.
  module _ (x : LanguageType) (small : i < 64) (long : Long c) (is : language_type t ≡ alternative_type (type_in c i) x) where
    pub stored_here : type_in stored i ≡ language_type t
    unfolding held_type alternative_type
    stored_here = rw (
      null_is,
      with_at t.null c.null i,
      get_or-set_same c.first i t.first 0 (omega (arith, long.first_long)),
      get_or-set_same c.flast i t.flast 0 (omega (arith, long.flast_long)),
      had (bit c.null i) x.null t.null (ap (λ (y : LanguageType). y.null) is),
    )
      where
        had : (a b d : Bool) → d ≡ (a || b) → (a || d) ≡ d
        had true b d e = sym e
        had false b d e = refl

pub raised_stored : (links : NodeLinks) (c : TypeColumns) (i : ℕ) (t : NodeType) (null : ℕ)
    (null_is : null ≡ cond t.null (bit_or c.null (2 ^ i)) c.null) → i < 64 → Long c
    → language_type t ≡ alternative_type (type_in c i) (type_by (type_in c) (linked_node links i)) → RaisedIn links c i (stored c i t null null_is)
raised_stored links c i t null null_is small long is = record {
  here = stored_here c i t null null_is (type_by (type_in c) (linked_node links i)) small long is ∙ is;
  others = stored_other c i t null null_is;
}

-- The code's test of two types is the definition's.
pub test_same : (a b : NodeType) → (beq a.null b.null && (eqb a.first b.first && eqb a.flast b.flast)) ≡ same_type (language_type a) (language_type b)
unfolding same_type
test_same a b = refl

-- ---- one node is raised

-- One entry of a list made anew.
tabulate-set : (f g : ℕ → LanguageType) (n i : ℕ) (x : LanguageType) → i < n → g i ≡ x → ((q : ℕ) → (q ≡ i → ⊥) → g q ≡ f q)
    → tabulate g 0 n ≡ set (tabulate f 0 n) i x
tabulate-set f g n i x l here other = ext_get_or bottom_type (tabulate g 0 n) (set (tabulate f 0 n) i x)
    (tabulate-length g 0 n ∙ sym (length-set (tabulate f 0 n) i x ∙ tabulate-length f 0 n))
    (λ q m. go q (omega (arith, tabulate-length g 0 n)) (compare_cases q i))
  where
    away : (q : ℕ) → q < n → (q ≡ i → ⊥) → type_of (tabulate g 0 n) q ≡ type_of (set (tabulate f 0 n) i x) q
    away q m e = type_of-listed g n q m ∙ other q e ∙ sym (get_or-set_other (tabulate f 0 n) i q x bottom_type e ∙ type_of-listed f n q m)

    go : (q : ℕ) → q < n → (q < i) ⊎ ((q ≡ i) ⊎ (i < q)) → type_of (tabulate g 0 n) q ≡ type_of (set (tabulate f 0 n) i x) q
    go q m (inl a) = away q m (λ e. omega arith)
    go q m (inr (inl e)) =
        rw e (type_of-listed g n i l ∙ here ∙ sym (get_or-set_same (tabulate f 0 n) i x bottom_type (omega (arith, tabulate-length f 0 n))))
    go q m (inr (inr a)) = away q m (λ e. omega arith)

-- Node i is raised, as the code does it.
module _ (links : NodeLinks) (fit : LinksFit links) (out new : TypeColumns) (i : ℕ) (more : i < links.count) (r : RaisedIn links out i new) where
  one_grown : grown (held_nodes links) i (held_types links.count out) ≡ type_in new i
  unfolding held_types
  one_grown = ap₂ alternative_type (type_of-listed (type_in out) links.count i more)
      (ap (node_type (tabulate (type_in out) 0 links.count)) (sym (node_held links (held_nodes links) refl i more))
      ∙ node_type_by (type_in out) links.count (linked_node links i) (fit.all_within i more)) ∙ sym r.here

  one_raised : held_types links.count new ≡ raised_at (held_nodes links) i (held_types links.count out)
  unfolding raised_at held_types
  one_raised = tabulate-set (type_in out) (type_in new) links.count i _ more (sym one_grown) r.others

-- ---- all nodes

-- Columns of zeros.
abbrev no_types : TypeColumns
no_types = record { null = 0; first = replicate 64 0; flast = replicate 64 0 }

bottoms : (n i : ℕ) (f : ℕ → LanguageType) → ((k : ℕ) → k < i + n → f k ≡ bottom_type) → tabulate f i n ≡ replicate n bottom_type
unfolding tabulate
bottoms zero i f h = refl
bottoms (suc n) i f h = ap₂ ◌∷◌ (h i (omega arith)) (bottoms n (suc i) f (λ k l. h k (omega arith)))

-- The present types, and the nodes that are left.
pub record Pending (links : NodeLinks) (types : TypeColumns) (left : ℕ) : Type 0 where
  pub within : (n : ℕ) → n ∈ left → n < links.count
  pub settling : Settling (held_nodes links) (λ n. n ∈ left) (held_types links.count types)

-- What falls with each node that is raised.
abbrev pub pending_steps : NodeLinks → TypeColumns → ℕ → ℕ
pending_steps links types left = steps_left (held_nodes links) (held_types links.count types) (2 ^ 64) left

pub last-inside : (links : NodeLinks) (types : TypeColumns) (left i : ℕ) → Pending links types left → 2 ^ i ≤ left → left < 2 ^ suc i
    → i < links.count
last-inside links types left i h low high = h.within i (last_in left i low high)

-- What a turn of the code goes by: the last node that is left, the types once it is raised and whether its type is another one, and the sets.
pub record Turn (links : NodeLinks) (sets : List ℕ) (types new : TypeColumns) (left i : ℕ) (changed : Bool) (own again : ℕ) : Type 0 where
  pub deps : DependentsBelow links links.count sets
  pub pending : Pending links types left
  pub low : 2 ^ i ≤ left
  pub high : left < 2 ^ suc i
  pub raised : RaisedIn links types i new
  pub changed_is : changed ≡ not (same_type (type_in types i) (type_in new i))
  pub own_is : own ≡ 2 ^ i
  pub again_is : again ≡ cond changed (get_or sets i 0) 0

module _ (links : NodeLinks) (fit : LinksFit links) where
  abbrev ns : List Node
  ns = held_nodes links

  counted : length ns ≡ links.count
  counted = nodes-counted links ns refl

  nodes_within : (q : ℕ) → NodeInRange most_tokens links.count (node_at ns q)
  nodes_within q = ⊎_elim
      (λ l. subst (NodeInRange most_tokens links.count) (node_held links ns refl q l) (fit.all_within q l))
      (λ l. rw (get_or-eq_default ns bottom_node {n = q} (omega (arith, counted))) tt)
      (lt-or-le q links.count)

  pub pending_first : (left : ℕ) → left ≡ 2 ^ links.count - 1 → Pending links no_types left
  unfolding held_types held_type bottom_type
  pending_first left e = record {
    within = λ n h. no_more_in links.count n (subst (λ (s : ℕ). n ∈ s) e h);
    settling = subst (Settling ns (λ n. n ∈ left)) (ap (λ (k : ℕ). replicate k bottom_type) counted ∙ sym zeros)
        (settling_first ns (λ n. n ∈ left) (λ n l. rw e (all_in links.count n (omega (arith, counted)))));
  }
    where
      zeros : tabulate (held_type 0 (replicate 64 0) (replicate 64 0)) 0 links.count ≡ replicate links.count bottom_type
      zeros = bottoms links.count 0 (held_type 0 (replicate 64 0) (replicate 64 0))
          (λ k l. rw (bit-zero k, get_or-replicate {A = ℕ} 64 k 0 0 (omega (arith, fit.count_fits))))

  pub pending_done : (types : TypeColumns) (left : ℕ) → Pending links types left → left ≡ 0 → held_types links.count types ≡ types_of ns
  pending_done types left h e =
      settling_done ns (λ n. n ∈ left) (held_types links.count types) (λ n m. ∈_zero n (subst (λ (s : ℕ). n ∈ s) e m)) h.settling

  -- A turn of the code.
  module _ {sets : List ℕ} {types new : TypeColumns} {left i : ℕ} {changed : Bool} {own again : ℕ}
      (w : Turn links sets types new left i changed own again) where
    inside : i < links.count
    inside = last-inside links types left i w.pending w.low w.high

    abbrev later : ℕ
    later = bit_or (left - own) again

    raised_is : held_types links.count new ≡ raised_at ns i (held_types links.count types)
    raised_is = one_raised links fit types new i inside w.raised

    told : changed ≡ not (same_type (type_of (held_types links.count types) i) (grown ns i (held_types links.count types)))
    unfolding held_types
    told = w.changed_is ∙ sym (ap₂ (λ (a b : LanguageType). not (same_type a b)) (type_of-listed (type_in types) links.count i inside)
        (one_grown links fit types new i inside w.raised))

    kept : (n : ℕ) → n ∈ left → (n ≡ i → ⊥) → n ∈ later
    kept n m other = ∈_left (left - own) again n (rw w.own_is (still_in left i w.low w.high n m other))

    joins : changed ≡ true → (n : ℕ) → n < length ns → GoesBy (node_at ns n) i → n ∈ later
    joins e n l g = ∈_right (left - own) again n (rw w.again_is (∈_when changed (get_or sets i 0) n e
        (w.deps.all_in n i (omega (arith, counted)) (subst (λ (x : Node). GoesBy x i) (sym (node_held links ns refl n (omega (arith, counted)))) g))))

    later_within : (n : ℕ) → n ∈ later → n < links.count
    later_within n m = ⊎_elim (λ k. w.pending.within n (was_in left i w.low w.high n (subst (λ (x : ℕ). n ∈ left - x) w.own_is k)))
        (λ k. w.deps.below_count n i (∈_cond changed (get_or sets i 0) n (subst (λ (x : ℕ). n ∈ x) w.again_is k)).1) (∈_cases (left - own) again n m)

    pub pending_next : Pending links new later
    pending_next = record {
      within = later_within;
      settling = rw raised_is (settling_next ns links.count nodes_within (λ n. n ∈ left) (held_types links.count types) w.pending.settling i
          (omega (arith, inside, counted)) changed told (λ n. n ∈ later) kept joins);
    }

    pub pending_falls : pending_steps links new later < pending_steps links types left
    pending_falls = rw raised_is (settling_falls ns links.count nodes_within (λ n. n ∈ left) (held_types links.count types) w.pending.settling i
        (omega (arith, inside, counted)) changed told (2 ^ 64) left later most less)
      where
        most : later < 2 ^ 64
        most = omega (
          arith,
          bit-below links.count later later (lt-pow_self later) later_within,
          pow_mono {i = links.count} {j = 64} fit.count_fits,
        )

        less : changed ≡ false → later < left
        less e =
            let none : again ≡ 0 = w.again_is ∙ ap (λ (b : Bool). cond b (get_or sets i 0) 0) e in
            rw (none, or_zero_r (left - own), w.own_is) (omega (arith, pow_pos i))

-- ---- the first question that fails

abbrev pub faults_from : NodeLinks → TypeColumns → ℕ → Option questions.Fault
faults_from links types k = first_fault (held_types links.count types) (tabulate (linked_node links) k (links.count - k)) k

pub faults_first : (links : NodeLinks) (types : TypeColumns)
    → faults_from links types 0 ≡ first_fault (held_types links.count types) (held_nodes links) 0
unfolding held_nodes
faults_first links types = rw sub-zero

module _ (links : NodeLinks) (types : TypeColumns) (fit : LinksFit links) (i : ℕ) where
  module _ (number : Prelude.Option ℕ) (more : i < links.count) (is : asked number i ≡ fault_by (type_in types) (linked_node links i) i) where
    next_fault : faults_from links types i ≡ or_else (asked number i) (faults_from links types (i + 1))
    unfolding first_fault held_types
    next_fault = rw (tabulate-next (linked_node links) links.count i more)
        (ap₂ or_else (node_fault_by (type_in types) links.count (linked_node links i) i (fit.all_within i more) ∙ sym is)
        (ap (first_fault (held_types links.count types) (tabulate (linked_node links) (i + 1) (links.count - (i + 1)))) (sym (add-one i))))

    pub fault_here : (question : ℕ) → number ≡ Some question → fault_of (Some (record { question = question; node = i })) ≡ faults_from links types i
    unfolding fault_of asked
    fault_here question e = sym (next_fault ∙ rw e)

    pub fault_later : number ≡ None → faults_from links types (i + 1) ≡ faults_from links types i
    unfolding asked
    fault_later e = sym (next_fault ∙ rw e)

  pub fault_none : links.count ≤ i → fault_of None ≡ faults_from links types i
  unfolding fault_of first_fault
  fault_none l = rw (tabulate_end (linked_node links) links.count i l)
