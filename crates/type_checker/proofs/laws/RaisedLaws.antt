-- Raising nodes one after another, in any order, leads to the least types, if a node is raised again once a type that it goes by has
-- changed. Columns and code are not spoken of.
use Rattle.std.specs.Prelude.{◌≡◌, Bool, not, ◌⊎◌, ℕ, ◌+◌, ◌-◌, ◌*◌, ◌≤◌, ◌<◌, get_or, replicate, set}
use Rattle.std.proofs.Math.Path.{refl, ap, subst}
use Rattle.std.proofs.Common.{sym, ap₂, ◌∙◌, true≢false, inl, inr, ⊎_elim, arith, get_or-set_other}
use Rattle.std.proofs.Math.Bool.{true, false}
use mathlib.Core.List.{List}
use Rattle.std.proofs.Math.Nat.{mul-le-mul_left}
use Rattle.std.proofs.Math.ListN.{length, length-set, get_or-eq_default}
use Rattle.std.proofs.lemmas.List.{length-replicate}
use Rattle.std.proofs.Math.Seq.{get_or-set_same, set_out, ext_get_or}
use Rattle.std.proofs.lemmas.Bool.{not-true, not-false}
use Rattle.basics.specs.Lists.{sum}
use Rattle.basics.proofs.laws.Order.{compare_cases, lt-or-le}
use Rattle.basics.proofs.laws.RoundLaws.{weights_most, weights_full}
use Rattle.sheet.specs.Limits.{most_tokens}
use Rattle.types.specs.Types.{LanguageType, bottom_type, sequence_type, alternative_type, repetition_type}
use Rattle.types.specs.Nodes.{Node, epsilon_node, bottom_node, token_node, sequence_node, alternative_node, fixed_point_node, variable_node, repetition_node, node_at}
use Rattle.types.specs.laws.NodeRanges.{NodeInRange}
use Rattle.types.specs.LeastTypes.{type_of, node_type, node_type_with, same_type, type_height, types_of}
use Rattle.types.specs.LeastSolution.{◌⊑◌}
use Rattle.types.specs.Solutions.{AllBelow}
use Rattle.types.proofs.laws.TypeWeight.{Fits, below_fits, weight}
use Rattle.types.proofs.laws.TypeLaws.{⊑_refl, ⊑_trans, bottom_least, above_left, above_right, above_least}
use Rattle.types.proofs.laws.LeastTypeLaws.{same_type_equal, same_type_self, type_equations, type_of-next, bottoms_below, step-below, types_unique, types_fit, types_solve}
use Rattle.type_checker.specs.Dependents.{GoesBy}
use Rattle.type_checker.specs.Raised.{grown, raised_at}

-- What holds of every entry of a list, and of one that is stored, holds of every entry afterwards.
pub set_entry : {A : Type 0} (d : A) (P : ℕ → A → Type 0) (xs : List A) (k : ℕ) (x : A) → ((n : ℕ) → P n (get_or xs n d)) → P k x
    → (n : ℕ) → P n (get_or (set xs k x) n d)
set_entry d P xs k x f h n = go (compare_cases n k)
  where
    here : P k (get_or (set xs k x) k d)
    here = ⊎_elim (λ l. rw (get_or-set_same xs k x d l) h) (λ l. rw (set_out xs k x l) (f k)) (lt-or-le k (length xs))

    go : (n < k) ⊎ ((n ≡ k) ⊎ (k < n)) → P n (get_or (set xs k x) n d)
    go (inl l) = rw (get_or-set_other xs k n x d (λ e. omega arith)) (f n)
    go (inr (inl e)) = rw e here
    go (inr (inr l)) = rw (get_or-set_other xs k n x d (λ e. omega arith)) (f n)

-- ---- one node is raised

-- An equation that does not go by node k has the same side after its type is stored.
node_type_away : (types : List LanguageType) (k : ℕ) (t : LanguageType) (x : Node) → (GoesBy x k → ⊥)
    → node_type (set types k t) x ≡ node_type types x
unfolding node_type_with GoesBy
node_type_away types k t epsilon_node gone = refl
node_type_away types k t bottom_node gone = refl
node_type_away types k t (token_node a) gone = refl
node_type_away types k t (sequence_node l r) gone = ap₂ sequence_type
    (get_or-set_other types k l t bottom_type (λ e. gone (inl (sym e)))) (get_or-set_other types k r t bottom_type (λ e. gone (inr (sym e))))
node_type_away types k t (alternative_node l r) gone = ap₂ alternative_type
    (get_or-set_other types k l t bottom_type (λ e. gone (inl (sym e)))) (get_or-set_other types k r t bottom_type (λ e. gone (inr (sym e))))
node_type_away types k t (fixed_point_node b) gone = get_or-set_other types k b t bottom_type (λ e. gone (sym e))
node_type_away types k t (variable_node v guarded) gone = get_or-set_other types k v t bottom_type (λ e. gone (sym e))
node_type_away types k t (repetition_node b self) gone = ap₂ repetition_type
    (get_or-set_other types k b t bottom_type (λ e. gone (inl (sym e)))) (get_or-set_other types k self t bottom_type (λ e. gone (inr (sym e))))

module _ (ns : List Node) (k : ℕ) (types : List LanguageType) where
  at_long : length (raised_at ns k types) ≡ length types
  unfolding raised_at
  at_long = length-set types k _

  at_rises : AllBelow types (raised_at ns k types)
  unfolding raised_at
  at_rises = set_entry bottom_type (λ n t. type_of types n ⊑ t) types k _ (λ n. ⊑_refl (type_of types n)) (above_left _ _)

  at_grown : k < length types → type_of (raised_at ns k types) k ≡ grown ns k types
  unfolding raised_at
  at_grown l = get_or-set_same types k (grown ns k types) bottom_type l

  at_next : k < length types → node_type types (node_at ns k) ⊑ type_of (raised_at ns k types) k
  at_next l = rw (at_grown l) (above_right _ _)

  at_same : same_type (type_of types k) (grown ns k types) ≡ true → raised_at ns k types ≡ types
  unfolding raised_at
  at_same e = ext_get_or bottom_type (raised_at ns k types) types (length-set types k (grown ns k types))
      (λ n l. set_entry bottom_type (λ m t. t ≡ type_of types m) types k (grown ns k types) (λ m. refl)
      (sym (same_type_equal (type_of types k) (grown ns k types) e)) n)

-- ---- nodes in a row

-- Types on the way to the least ones: no equation but those of the nodes that are left gives more than its node has.
pub record Settling (ns : List Node) (Left : ℕ → Type 0) (types : List LanguageType) : Type 0 where
  pub as_many : length types ≡ length ns
  pub below : AllBelow types (types_of ns)
  pub settled : (n : ℕ) → n < length ns → (Left n → ⊥) → node_type types (node_at ns n) ⊑ type_of types n

-- A number that falls with each node that is raised. Where its type changes, the types can grow less from then on; where it does not, the
-- set of the nodes that are left is a smaller number. That number stays below the limit.
pub steps_left : List Node → List LanguageType → ℕ → ℕ → ℕ
steps_left ns types limit left = limit * (type_height * length ns - sum weight types) + left

module _ (ns : List Node) where
  pub settling_first : (Left : ℕ → Type 0) → ((n : ℕ) → n < length ns → Left n) → Settling ns Left (replicate (length ns) bottom_type)
  settling_first Left all = record {
    as_many = length-replicate (length ns) bottom_type;
    below = bottoms_below (length ns) (types_of ns);
    settled = λ n l gone. absurd (gone (all n l));
  }

  pub settling_done : (Left : ℕ → Type 0) (types : List LanguageType) → ((n : ℕ) → Left n → ⊥) → Settling ns Left types → types ≡ types_of ns
  unfolding node_type_with
  settling_done Left types none s = types_unique ns types s.as_many s.below
      (λ n. rw (type_of-next ns types n) (⊎_elim (λ l. s.settled n l (none n))
      (λ l. rw (get_or-eq_default ns bottom_node {n = n} l) (bottom_least (type_of types n))) (lt-or-le n (length ns))))

  module _ (count : ℕ) (in_range : (n : ℕ) → NodeInRange most_tokens count (node_at ns n)) (Left : ℕ → Type 0) (types : List LanguageType)
      (s : Settling ns Left types) (k : ℕ) (inside : k < length ns) (changed : Bool)
      (told : changed ≡ not (same_type (type_of types k) (grown ns k types))) where
    abbrev next : List LanguageType
    next = raised_at ns k types

    there : k < length types
    there = omega (arith, s.as_many)

    same : changed ≡ false → next ≡ types
    same e = at_same ns k types (not-false _ (sym told ∙ e))

    other : changed ≡ true → next ≡ types → ⊥
    other e q =
        let here : type_of types k ≡ grown ns k types = ap (λ (l : List LanguageType). type_of l k) (sym q) ∙ at_grown ns k types there in
        true≢false (sym (same_type_self (type_of types k)) ∙ ap (same_type (type_of types k)) here ∙ not-true _ (sym told ∙ e))

    next_below : AllBelow next (types_of ns)
    unfolding raised_at
    next_below = set_entry bottom_type (λ n t. t ⊑ type_of (types_of ns) n) types k _ s.below
        (above_least (s.below k) (step-below ns types (types_of ns) (types_solve ns count in_range) s.below k))

    -- What is left afterwards: what was left but for this node, and those that go by it if its type changed.
    module _ (Later : ℕ → Type 0) (kept : (n : ℕ) → Left n → (n ≡ k → ⊥) → Later n)
        (joined : changed ≡ true → (n : ℕ) → n < length ns → GoesBy (node_at ns n) k → Later n) where
      unmoved : (n : ℕ) → n < length ns → (Later n → ⊥) → (b : Bool) → changed ≡ b
          → node_type next (node_at ns n) ≡ node_type types (node_at ns n)
      unfolding raised_at
      unmoved n l gone true e = node_type_away types k (grown ns k types) (node_at ns n) (λ g. gone (joined e n l g))
      unmoved n l gone false e = ap (λ (xs : List LanguageType). node_type xs (node_at ns n)) (same e)

      pub settling_next : Settling ns Later next
      settling_next = record {
        as_many = at_long ns k types ∙ s.as_many;
        below = next_below;
        settled = λ n l gone. rw (unmoved n l gone changed refl) (holds n l gone (compare_cases n k));
      }
        where
          away : (n : ℕ) → n < length ns → (Later n → ⊥) → (n ≡ k → ⊥) → node_type types (node_at ns n) ⊑ type_of next n
          away n l gone ne = ⊑_trans (s.settled n l (λ h. gone (kept n h ne))) (at_rises ns k types n)

          holds : (n : ℕ) → n < length ns → (Later n → ⊥) → (n < k) ⊎ ((n ≡ k) ⊎ (k < n)) → node_type types (node_at ns n) ⊑ type_of next n
          holds n l gone (inl i) = away n l gone (λ e. omega arith)
          holds n l gone (inr (inl e)) = rw e (at_next ns k types there)
          holds n l gone (inr (inr i)) = away n l gone (λ e. omega arith)

    fits : (xs : List LanguageType) → AllBelow xs (types_of ns) → (n : ℕ) → Fits (type_of xs n)
    fits xs below n = below_fits (below n) (types_fit ns count in_range n)

    heavier : changed ≡ true → sum weight types < sum weight next
    heavier e = ⊎_elim (λ l. l)
        (λ l. absurd (other e (sym
        (weights_full type_equations types next (sym (at_long ns k types)) (at_rises ns k types) (fits types s.below) (fits next next_below) l))))
        (lt-or-le (sum weight types) (sum weight next))

    pub settling_falls : (limit left later : ℕ) → later < limit → (changed ≡ false → later < left)
        → steps_left ns next limit later < steps_left ns types limit left
    unfolding steps_left
    settling_falls limit left later most less = go changed refl
      where
        go : (b : Bool) → changed ≡ b → steps_left ns next limit later < steps_left ns types limit left
        go true e =
            let room : sum weight next ≤ type_height * length ns =
            subst (λ (n : ℕ). sum weight next ≤ type_height * n) (at_long ns k types ∙ s.as_many) (weights_most type_equations next) in
            let fewer : 1 + (type_height * length ns - sum weight next) ≤ type_height * length ns - sum weight types = omega (arith, heavier e) in
            omega (arith, most, mul-le-mul_left limit fewer)
        go false e = rw (same e) (omega (arith, less e))
