-- The sweep's loop: what holds before the item at each place, where it starts and what it ends with.
use mathlib.Core.Path.{◌≡◌, refl, sym, ap, ◌∙◌, subst}
use mathlib.Core.List.{List, [], ◌∷◌, flat_map}
use Prim.Native.Nat.{ℕ, zero, suc, ◌+◌, ◌-◌, ◌≤◌, ◌<◌}
use native.Mathlib.Omega.{arith}
use lib.ListN.{length, take, drop, get_or, set, replicate, length-replicate, get_or-replicate, drop_of_length-le}
use lib.Seq.{take_all}
use Rattle.basics.specs.Lists.{sum}
use Rattle.sheet.specs.Regex.{Regex}
use Rattle.sheet.specs.Items.{RegexItem, empty_item, class_item, concat_item, union_item, star_item}
use Rattle.sheet.specs.Items.{item_classes, regexes}
use Rattle.sheet.specs.laws.RegexItems.{regex_items_of, regex_tag}
use Rattle.position_finder.specs.declared.Sets.{Sets}
use Rattle.position_finder.specs.declared.Node.{Node}
use Rattle.position_finder.specs.declared.RuleSets.{RuleSets}
use Rattle.columns.specs.Tags.{parts_of}
use Rattle.position_finder.specs.Stacks.{Stacked}
use Rattle.position_finder.specs.Nodes.{node_of}
use Rattle.position_finder.specs.Forests.{all_sets, all_follow, joined, unused, RegexesHeld, RulesStacked, RuleSetsOf, ForestOf}
use Rattle.position_finder.proofs.Items.{regexes-all, classes-all, item_before, Top, turn-top}
use Rattle.position_finder.proofs.Stacks.{piled_none}
use Rattle.position_finder.proofs.Sweeping.{Sweeping, After, sweep_height, swept_next}

-- The items from place `at` on are done; as many classes as the base are left.
pub record Swept (rs : List Regex) (at : ℕ) (stack : List Sets) (follow : List ℕ) (top base : ℕ) : Type 0 where
  pub state : Sweeping (regexes (drop at (flat_map regex_items_of rs))) stack follow top base
  pub classes_left : base ≡ sum item_classes (take at (flat_map regex_items_of rs))

pub swept-start : (tags : List ℕ) (items classes : ℕ) (rs : List Regex) → RegexesHeld tags items classes rs
    → Swept rs items (replicate 258 unused) (replicate 64 0) 1 classes
unfolding regexes all_follow all_sets
swept-start tags items classes rs h =
    let is = flat_map regex_items_of rs in
    let e : drop items is ≡ [] = drop_of_length-le is {i = items} (omega (arith, h.held.nodes)) in
    record {
      state = subst (λ (l : List RegexItem). Sweeping (regexes l) (replicate 258 unused) (replicate 64 0) 1 classes) (sym e)
          record {
            piled = piled_none unused;
            follow_size = length-replicate {A = ℕ} 64 0;
            follows = λ p l. get_or-replicate {A = ℕ} 64 p 0 0 l;
          };
      classes_left = h.classes_counted ∙ sym (classes-all rs)
          ∙ ap (sum item_classes) (sym (ap (λ (n : ℕ). take n is) h.held.nodes ∙ take_all (length is) is (omega arith)));
    }

-- What an item's node takes from the classes left.
made_base : (i : RegexItem) (r s : Sets) (base : ℕ) → (node_of (regex_tag i) r s base).base ≡ base - item_classes i
unfolding node_of regex_tag item_classes
made_base empty_item r s base = omega arith
made_base (class_item low high) r s base = refl
made_base concat_item r s base = omega arith
made_base union_item r s base = omega arith
made_base star_item r s base = omega arith

class_tag : (i : RegexItem) → regex_tag i ≡ 1 → item_classes i ≡ 1
unfolding regex_tag item_classes
class_tag empty_item e = absurd (omega arith)
class_tag (class_item low high) e = refl
class_tag concat_item e = absurd (omega arith)
class_tag union_item e = absurd (omega arith)
class_tag star_item e = absurd (omega arith)

sum-front : (is : List RegexItem) (n : ℕ) → sum item_classes (take n is) ≤ sum item_classes is
sum-front is zero = omega arith
sum-front [] (suc n) = omega arith
sum-front (i ∷ is) (suc n) = omega (arith, sum-front is n)

-- The node that a turn makes.
abbrev pub turn_node : List ℕ → ℕ → List Sets → ℕ → ℕ → Node
turn_node tags at stack top base = node_of (get_or tags (at - 1) 0) (get_or stack top unused) (get_or stack (top - 1) unused) base

-- What a turn may ask of the numbers.
pub record Turn (tags : List ℕ) (at : ℕ) (stack : List Sets) (follow : List ℕ) (top base : ℕ) : Type 0 where
  pub at_top : Top tags at top
  pub base_most : base ≤ 64
  pub base_least : get_or tags (at - 1) 0 ≡ 1 → 0 < base
  pub follow_size : length follow ≡ 64

-- A turn: what it may ask, and where it leads.
module _ (tags : List ℕ) (items classes : ℕ) (rs : List Regex) (at : ℕ) (stack : List Sets) (flow : List ℕ) (top base : ℕ)
    (held : RegexesHeld tags items classes rs) (least : 0 < at) (most : at ≤ items) (w : Swept rs at stack flow top base) where
  pub turn : Turn tags at stack flow top base
  turn =
      let is = flat_map regex_items_of rs in
      let i = item_before rs tags items at held.held least most in
      record {
        at_top = turn-top tags items rs at top held.held least most (sweep_height stack flow top base (regexes (drop at is)) w.state);
        base_most = omega (arith, w.classes_left, sum-front is at, classes-all rs, held.classes_counted, held.classes_fit);
        base_least = λ e. omega (arith, class_tag i.0 (sym i.1.tag ∙ e), i.1.classes, w.classes_left);
        follow_size = w.state.follow_size;
      }

  pub swept_more : (n : Node) (f : List ℕ) (m : ℕ) → n ≡ turn_node tags at stack top base → f ≡ joined n.from n.next flow
      → m ≡ parts_of (get_or tags (at - 1) 0) → Swept rs (at - 1) (set stack (top + 1 - m) n.sets) f (top + 1 - m) n.base
  swept_more n f m e g h =
      let is = flat_map regex_items_of rs in
      let i = item_before rs tags items at held.held least most in
      let r = get_or stack top unused in
      let s = get_or stack (top - 1) unused in
      let c : item_classes i.0 ≤ base = omega (arith, i.1.classes, w.classes_left) in
      let k : n ≡ node_of (regex_tag i.0) r s base = e ∙ ap (λ (t : ℕ). node_of t r s base) i.1.tag in
      let p : m ≡ parts_of (regex_tag i.0) = h ∙ ap parts_of i.1.tag in
      subst (λ (f : List ℕ). Swept rs (at - 1) (set stack (top + 1 - m) n.sets) f (top + 1 - m) n.base) (sym g)
      (subst
      (λ (n : Node).
      Swept rs (at - 1) (set stack (top + 1 - m) n.sets) (joined n.from n.next flow) (top + 1 - m) n.base)
      (sym k)
      record {
        state = subst (λ (m : ℕ). After (regexes (drop (at - 1) is)) stack flow (top + 1 - m) (node_of (regex_tag i.0) r s base)) (sym p)
            (subst
            (λ (l : List Regex). After l stack flow (top + 1 - parts_of (regex_tag i.0)) (node_of (regex_tag i.0) r s base))
            (sym i.1.made)
            (swept_next stack flow top base i.0 (regexes (drop at is)) i.1.parts c turn.at_top.most w.state));
        classes_left = made_base i.0 r s base ∙ omega (arith, i.1.classes, w.classes_left);
      })

module _ (rs : List Regex) (at : ℕ) (stack : List Sets) (flow : List ℕ) (top base : ℕ) (done : at ≤ 0) (w : Swept rs at stack flow top base)
  where
    all_swept : Swept rs 0 stack flow top base
    all_swept = let e : at ≡ 0 = omega arith in subst (λ (n : ℕ). Swept rs n stack flow top base) e w

    pub swept_stack : (tags : List ℕ) (items classes count : ℕ) → RegexesHeld tags items classes rs → count ≡ length rs
        → RulesStacked stack count rs
    swept_stack tags items classes count held counted = record {
      stacked = subst (λ (l : List Regex). Stacked unused stack (all_sets l 0)) (regexes-all rs)
          (subst (λ (b : ℕ). Stacked unused stack (all_sets (regexes (flat_map regex_items_of rs)) b)) all_swept.classes_left all_swept.state.piled.stacked);
      rules = counted;
      classes_fit = omega (arith, held.classes_counted, held.classes_fit);
    }

    pub swept_end : (sets : RuleSets) → RuleSetsOf rs sets → ForestOf rs (record { sets = sets; follow = flow })
    swept_end sets g = record {
      gathered = g;
      follows = λ p h. all_swept.state.follows p h ∙ ap (λ (b : ℕ). all_follow (regexes (flat_map regex_items_of rs)) b p) all_swept.classes_left
          ∙ ap (λ (l : List Regex). all_follow l 0 p) (regexes-all rs);
    }
