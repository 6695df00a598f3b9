-- One turn of the sweep: an item before the regexes on the stack makes the stack and the follow sets of one more place.
use mathlib.Core.Path.{◌≡◌, refl, sym, ap, ap₂, ◌∙◌, subst}
use mathlib.Core.Bool.{Bool, cond}
use mathlib.Core.List.{List, [], ◌∷◌}
use Prim.Native.Nat.{ℕ, suc, ◌+◌, ◌-◌, ◌≤◌, ◌<◌}
use native.Mathlib.Omega.{arith}
use native.Mathlib.Nat.{add-zero, add_assoc}
use lib.Bits.{bit_or, or_zero_r, or_comm}
use lib.ListN.{length, get_or, set}
use Rattle.basics.specs.Bits.{bit}
use Rattle.basics.proofs.laws.BitLaws.{or_assoc, bit-zero}
use Rattle.sheet.specs.Regex.{Regex, empty, class, concat, union, star, class_count}
use Rattle.sheet.specs.Items.{RegexItem, empty_item, class_item, concat_item, union_item, star_item}
use Rattle.sheet.specs.Items.{regex_parts, item_classes, regex_before}
use Rattle.sheet.specs.laws.RegexItems.{regex_tag}
use Rattle.lexer.specs.Positions.{nullable, first, last, follow}
use Rattle.position_finder.specs.declared.Sets.{Sets}
use Rattle.position_finder.specs.declared.Node.{Node}
use Rattle.columns.specs.Tags.{parts_of}
use Rattle.position_finder.specs.Stacks.{Stacked}
use Rattle.position_finder.specs.Nodes.{sets_of, node_of, empty_node, class_node, concat_node, union_node, star_node}
use Rattle.position_finder.specs.Forests.{all_sets, all_follow, joined, unused}
use Rattle.position_finder.proofs.Changes.{changed-length, joined-at}
use Rattle.position_finder.proofs.Stacks.{Piled, piled_more, top_member, next_member}

-- What the arrays hold: these regexes, whose positions start at a base.
pub record Sweeping (rs : List Regex) (stack : List Sets) (follow : List ℕ) (top base : ℕ) : Type 0 where
  pub piled : Piled unused stack (all_sets rs base) top
  pub follow_size : length follow ≡ 64
  pub follows : (p : ℕ) → p < 64 → get_or follow p 0 ≡ all_follow rs base p

-- One entry for each regex.
pub all_sets-length : (rs : List Regex) (base : ℕ) → length (all_sets rs base) ≡ length rs
unfolding all_sets
all_sets-length [] base = refl
all_sets-length (r ∷ rs) base = ap suc (all_sets-length rs (base + class_count r))

-- Follow sets to which nothing is joined.
joined-none : (x next p : ℕ) → bit_or x (cond (bit 0 p) next 0) ≡ x
joined-none x next p = ap (λ (b : Bool). bit_or x (cond b next 0)) (bit-zero p) ∙ or_zero_r x

-- Orders in which sets are joined.
swap_last : (a b c : ℕ) → bit_or (bit_or a b) c ≡ bit_or (bit_or a c) b
swap_last a b c = or_assoc a b c ∙ ap (bit_or a) (or_comm b c) ∙ sym (or_assoc a c b)

concat_order : (a b c d : ℕ) → bit_or (bit_or a (bit_or b c)) d ≡ bit_or (bit_or (bit_or a b) d) c
concat_order a b c d = ap (λ (x : ℕ). bit_or x d) (sym (or_assoc a b c)) ∙ swap_last (bit_or a b) c d

-- The sets of a node of regexes are those that the node makes of their sets.
empty_sets_of : (base : ℕ) → (empty_node base).sets ≡ sets_of empty base
unfolding sets_of nullable first last class_count
empty_sets_of base = rw (add-zero base)

class_sets_of : (low high base : ℕ) → 1 ≤ base → (class_node base).sets ≡ sets_of (class low high) (base - 1)
unfolding sets_of nullable first last class_count
class_sets_of low high base h = let e : base - 1 + 1 ≡ base = omega arith in rw e

star_sets_of : (r : Regex) (base : ℕ) → (star_node (sets_of r base) base).sets ≡ sets_of (star r) base
unfolding sets_of nullable first last class_count
star_sets_of r base = refl

concat_sets_of : (r s : Regex) (base : ℕ)
    → (concat_node (sets_of r base) (sets_of s (base + class_count r)) base).sets ≡ sets_of (concat r s) base
unfolding sets_of nullable first last class_count
concat_sets_of r s base = rw (add_assoc base (class_count r) (class_count s))

union_sets_of : (r s : Regex) (base : ℕ)
    → (union_node (sets_of r base) (sets_of s (base + class_count r)) base).sets ≡ sets_of (union r s) base
unfolding sets_of nullable first last class_count
union_sets_of r s base = rw (add_assoc base (class_count r) (class_count s))

-- After an item: the node that it makes, with its sets on the stack, where i is now the topmost place, and its follows joined.
abbrev pub After : List Regex → List Sets → List ℕ → ℕ → Node → Type 0
After rs stack follow i n = Sweeping rs (set stack i n.sets) (joined n.from n.next follow) i n.base

module _ (stack : List Sets) (flow : List ℕ) (top base : ℕ) where
  pub sweep_height : (rs : List Regex) → Sweeping rs stack flow top base → top ≡ 1 + length rs
  sweep_height rs w = omega (arith, w.piled.height, all_sets-length rs base)

  -- The parts of the record that are the same for every item.
  after : (r : Regex) (rs qs : List Regex) (i : ℕ) (n : Node) → Sweeping qs stack flow top base → i ≤ 257 → i ≡ 2 + length rs
      → n.sets ≡ sets_of r n.base → Stacked unused stack (all_sets rs (n.base + class_count r))
      → ((p : ℕ) → p < 64 → bit_or (all_follow qs base p) (cond (bit n.from p) n.next 0) ≡ all_follow (r ∷ rs) n.base p)
      → After (r ∷ rs) stack flow i n
  unfolding all_sets
  after r rs qs i n w l e g s f =
      let later = all_sets rs (n.base + class_count r) in
      record {
        piled = piled_more unused stack top n.sets (sets_of r n.base) i later w.piled.size
            (omega (arith, all_sets-length rs (n.base + class_count r))) l s g;
        follow_size = changed-length 0 64 (λ i x. bit_or x (cond (bit n.from i) n.next 0)) 0 flow ∙ w.follow_size;
        follows = λ p h. joined-at n.from n.next flow w.follow_size p h
            ∙ ap (λ (x : ℕ). bit_or x (cond (bit n.from p) n.next 0)) (w.follows p h) ∙ f p h;
      }

  -- The two regexes that a node reads.
  top_part : (r : Regex) (rs : List Regex) → Sweeping (r ∷ rs) stack flow top base → get_or stack top unused ≡ sets_of r base
  unfolding all_sets
  top_part r rs w = top_member unused stack top (sets_of r base) (all_sets rs (base + class_count r)) w.piled

  next_part : (r s : Regex) (rs : List Regex) → Sweeping (r ∷ s ∷ rs) stack flow top base
      → get_or stack (top - 1) unused ≡ sets_of s (base + class_count r)
  unfolding all_sets
  next_part r s rs w =
      next_member unused stack top (sets_of r base) (sets_of s (base + class_count r)) (all_sets rs (base + class_count r + class_count s))
      w.piled

  after_empty : (rs : List Regex) → top ≤ 256 → Sweeping rs stack flow top base
      → After (empty ∷ rs) stack flow (top + 1 - 0) (empty_node base)
  unfolding all_follow follow class_count all_sets
  after_empty rs l w =
      let e : base ≡ base + 0 = omega arith in
      after empty rs rs (top + 1 - 0) (empty_node base) w (omega arith) (omega (arith, sweep_height rs w)) (empty_sets_of base)
      (subst (λ (b : ℕ). Stacked unused stack (all_sets rs b)) e w.piled.stacked)
      (λ p h. joined-none (all_follow rs base p) 0 p ∙ ap (λ (b : ℕ). all_follow rs b p) e)

  after_class : (low high : ℕ) (rs : List Regex) → 1 ≤ base → top ≤ 256 → Sweeping rs stack flow top base
      → After (class low high ∷ rs) stack flow (top + 1 - 0) (class_node base)
  unfolding all_follow follow class_count all_sets
  after_class low high rs b l w =
      let e : base ≡ base - 1 + 1 = omega arith in
      after (class low high) rs rs (top + 1 - 0) (class_node base) w (omega arith) (omega (arith, sweep_height rs w))
      (class_sets_of low high base b) (subst (λ (b : ℕ). Stacked unused stack (all_sets rs b)) e w.piled.stacked)
      (λ p h. joined-none (all_follow rs base p) 0 p ∙ ap (λ (b : ℕ). all_follow rs b p) e)

  after_concat : (r s : Regex) (rs : List Regex) → top ≤ 256 → Sweeping (r ∷ s ∷ rs) stack flow top base
      → After (concat r s ∷ rs) stack flow (top + 1 - 2) (concat_node (get_or stack top unused) (get_or stack (top - 1) unused) base)
  unfolding all_follow follow class_count sets_of all_sets
  after_concat r s rs l w =
      let e = add_assoc base (class_count r) (class_count s) in
      subst (After (concat r s ∷ rs) stack flow (top + 1 - 2))
      (sym (ap₂ (λ (x y : Sets). concat_node x y base) (top_part r (s ∷ rs) w) (next_part r s rs w)))
      (after (concat r s) rs (r ∷ s ∷ rs) (top + 1 - 2) (concat_node (sets_of r base) (sets_of s (base + class_count r)) base) w (omega arith)
      (omega (arith, sweep_height (r ∷ s ∷ rs) w)) (concat_sets_of r s base) (subst (λ (b : ℕ). Stacked unused stack (all_sets rs b)) e w.piled.stacked.1.1)
      (λ p h.
      concat_order (follow r base p) (follow s (base + class_count r) p) (all_follow rs (base + class_count r + class_count s) p)
      (cond (bit (last r base) p) (first s (base + class_count r)) 0)
      ∙ ap (λ (b : ℕ). bit_or (follow (concat r s) base p) (all_follow rs b p)) e))

  after_union : (r s : Regex) (rs : List Regex) → top ≤ 256 → Sweeping (r ∷ s ∷ rs) stack flow top base
      → After (union r s ∷ rs) stack flow (top + 1 - 2) (union_node (get_or stack top unused) (get_or stack (top - 1) unused) base)
  unfolding all_follow follow class_count sets_of all_sets
  after_union r s rs l w =
      let e = add_assoc base (class_count r) (class_count s) in
      subst (After (union r s ∷ rs) stack flow (top + 1 - 2))
      (sym (ap₂ (λ (x y : Sets). union_node x y base) (top_part r (s ∷ rs) w) (next_part r s rs w)))
      (after (union r s) rs (r ∷ s ∷ rs) (top + 1 - 2) (union_node (sets_of r base) (sets_of s (base + class_count r)) base) w (omega arith)
      (omega (arith, sweep_height (r ∷ s ∷ rs) w)) (union_sets_of r s base) (subst (λ (b : ℕ). Stacked unused stack (all_sets rs b)) e w.piled.stacked.1.1)
      (λ p h.
      joined-none (all_follow (r ∷ s ∷ rs) base p) 0 p
      ∙ sym (or_assoc (follow r base p) (follow s (base + class_count r) p) (all_follow rs (base + class_count r + class_count s) p))
      ∙ ap (λ (b : ℕ). bit_or (follow (union r s) base p) (all_follow rs b p)) e))

  after_star : (r : Regex) (rs : List Regex) → top ≤ 256 → Sweeping (r ∷ rs) stack flow top base
      → After (star r ∷ rs) stack flow (top + 1 - 1) (star_node (get_or stack top unused) base)
  unfolding all_follow follow class_count sets_of all_sets
  after_star r rs l w =
      subst (After (star r ∷ rs) stack flow (top + 1 - 1)) (sym (ap (λ (x : Sets). star_node x base) (top_part r rs w)))
      (after (star r) rs (r ∷ rs) (top + 1 - 1) (star_node (sets_of r base) base) w (omega arith) (omega (arith, sweep_height (r ∷ rs) w)) (star_sets_of r base) w.piled.stacked.1
      (λ p h. swap_last (follow r base p) (all_follow rs (base + class_count r) p) (cond (bit (last r base) p) (first r base) 0)))

  -- The node that the code makes of an item.
  abbrev pub made : RegexItem → Node
  made i = node_of (regex_tag i) (get_or stack top unused) (get_or stack (top - 1) unused) base

  pub swept_next : (i : RegexItem) (rs : List Regex) → regex_parts i ≤ length rs → item_classes i ≤ base → top ≤ 256
      → Sweeping rs stack flow top base → After (regex_before i rs) stack flow (top + 1 - parts_of (regex_tag i)) (made i)
  unfolding regex_parts item_classes regex_before regex_tag parts_of node_of
  swept_next empty_item rs a b l w = after_empty rs l w
  swept_next (class_item low high) rs a b l w = after_class low high rs b l w
  swept_next concat_item [] a b l w = absurd (omega arith)
  swept_next concat_item (r ∷ []) a b l w = absurd (omega arith)
  swept_next concat_item (r ∷ s ∷ rs) a b l w = after_concat r s rs l w
  swept_next union_item [] a b l w = absurd (omega arith)
  swept_next union_item (r ∷ []) a b l w = absurd (omega arith)
  swept_next union_item (r ∷ s ∷ rs) a b l w = after_union r s rs l w
  swept_next star_item [] a b l w = absurd (omega arith)
  swept_next star_item (r ∷ rs) a b l w = after_star r rs l w
