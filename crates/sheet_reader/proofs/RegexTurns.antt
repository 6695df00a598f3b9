-- The laws of a regex node's turn: each way through it, what it leaves, and how the turns make up the definition's items.
use mathlib.Core.Path.{◌≡◌, refl, ap, ◌∙◌}
use mathlib.Core.Bool.{Bool, true, false, cond}
use mathlib.Core.List.{List, []}
use Prim.Native.Nat.{ℕ, zero, suc, ◌+◌, ◌-◌, ◌≤◌, ◌<◌}
use native.Mathlib.Omega.{arith}
use lib.Dec.{eqb, eqb-suc-zero}
use lib.ListN.{length}
use Rattle.std.specs.Prelude.{Result, Ok}
use borrow.Author.Tests.{eq-eqb, ne_eqb}
use Rattle.sheet.specs.Field.{Reading, stop, got, and_then, between}
use Rattle.sheet.proofs.laws.FieldLaws.{Outcome, refused, accepted, then_outcome, outcome_got, true-between}
use Rattle.sheet.specs.Items.{RegexItem, empty_item, class_item, concat_item, union_item, star_item, regex_parts, item_classes}
use Rattle.sheet.specs.Reading.{sheet_field, class_after, regex_item, regex_items}
use Rattle.columns.specs.declared.RuleColumns.{RuleColumns}
use Rattle.sheet_reader.specs.Put.{with_tag, with_item}
use Rattle.sheet_reader.specs.Turns.{node_answer, regex_turn}
use Rattle.sheet_reader.specs.Answers.{RulesFit}
use Rattle.sheet_reader.specs.declared.Refusal.{Refusal}
use Rattle.sheet_reader.specs.declared.RuleTurn.{RuleTurn}
use Rattle.sheet_reader.specs.declared.RuleTurn.TheVariants.{Class, Plain}
use Rattle.sheet_reader.proofs.Leading.{in_front}
use Rattle.sheet_reader.proofs.Fields.{field-kept, Any, field-inside, pred_suc}

-- ---- what the answer tells of the node

-- A node that is only its tag, with so many parts.
pub record PlainNode (tag parts : ℕ) (m : Reading RegexItem) (next : ℕ) : Type 0 where
  pub item : RegexItem
  pub read : m ≡ got item next
  pub parts_are : regex_parts item ≡ parts
  pub put : (c : RuleColumns) → with_tag c tag ≡ with_item c item

plain_node : (item : RegexItem) (t k n : ℕ) {tag parts next : ℕ} → regex_parts item ≡ k → ((c : RuleColumns) → with_tag c t ≡ with_item c item)
    → ◌≡◌ {A = Result RuleTurn Refusal} (Ok (Plain t k n)) (Ok (Plain tag parts next)) → PlainNode tag parts (got item n) next
plain_node item t k n {tag} {parts} {next} h w e =
    let i : tag ≡ t = cc in
    let j : k ≡ parts = cc in
    let l : n ≡ next = cc in
    record { item = item; read = ap (got item) l; parts_are = h ∙ j; put = λ c. ap (with_tag c) i ∙ w c }

pub plain_told : (m : Reading RegexItem) {tag parts next : ℕ} → node_answer m ≡ Ok (Plain tag parts next) → PlainNode tag parts m next
unfolding node_answer regex_parts with_item
plain_told (stop q p) e = cc
plain_told (got empty_item n) e = plain_node empty_item 0 0 n refl (λ c. refl) e
plain_told (got (class_item low high) n) e = cc
plain_told (got concat_item n) e = plain_node concat_item 2 2 n refl (λ c. refl) e
plain_told (got union_item n) e = plain_node union_item 3 2 n refl (λ c. refl) e
plain_told (got star_item n) e = plain_node star_item 4 1 n refl (λ c. refl) e

pub class_told : (m : Reading RegexItem) {low high next : ℕ} → node_answer m ≡ Ok (Class low high next) → m ≡ got (class_item low high) next
unfolding node_answer
class_told (stop q p) e = cc
class_told (got empty_item n) e = cc
class_told (got (class_item low high) n) e = cc
class_told (got concat_item n) e = cc
class_told (got union_item n) e = cc
class_told (got star_item n) e = cc

-- ---- the ways through a byte class

module _ (bytes : List ℕ) (n at next : ℕ) where
  pub class_full : 64 ≤ n → class_after bytes (64 - n) at next ≡ stop 5 at
  unfolding class_after
  class_full h = rw (eq-eqb (64 - n) 0 (omega arith))

  module _ (h : n < 64) where
    pub class_low : {question place : ℕ} → sheet_field (between 0 255) bytes next ≡ stop question place
        → class_after bytes (64 - n) at next ≡ stop question place
    unfolding class_after
    class_low e = rw (ne_eqb (64 - n) 0 (λ z. omega arith), e)

    module _ {low after : ℕ} (e : sheet_field (between 0 255) bytes next ≡ got low after) where
      pub class_high : {question place : ℕ} → sheet_field (between low 255) bytes after ≡ stop question place
          → class_after bytes (64 - n) at next ≡ stop question place
      unfolding class_after
      class_high f = rw (ne_eqb (64 - n) 0 (λ z. omega arith), e, f)

      pub class_whole : {high end : ℕ} → sheet_field (between low 255) bytes after ≡ got high end
          → class_after bytes (64 - n) at next ≡ got (class_item low high) end
      unfolding class_after
      class_whole f = rw (ne_eqb (64 - n) 0 (λ z. omega arith), e, f)

-- ---- the ways through a regex node

module _ (bytes : List ℕ) (items classes at : ℕ) where
  pub node_unfit : {question place : ℕ} → sheet_field (between 0 4) bytes at ≡ stop question place
      → regex_turn bytes (256 - items) classes at ≡ stop question place
  unfolding regex_turn
  node_unfit e = rw e

  module _ {tag next : ℕ} (e : sheet_field (between 0 4) bytes at ≡ got tag next) where
    pub node_full : 256 ≤ items → regex_turn bytes (256 - items) classes at ≡ stop 5 at
    unfolding regex_turn
    node_full h = rw (e, eq-eqb (256 - items) 0 (omega arith))

    node_tag : items < 256 → regex_turn bytes (256 - items) classes at ≡ regex_item bytes classes at tag next
    unfolding regex_turn
    node_tag h = rw (e, ne_eqb (256 - items) 0 (λ z. omega arith))

    pub node_class : items < 256 → tag ≡ 1 → regex_turn bytes (256 - items) classes at ≡ class_after bytes classes at next
    unfolding regex_item
    node_class h t = node_tag h ∙ rw t

    module _ (h : items < 256) where
      pub node_empty : tag ≡ 0 → Ok (Plain 0 0 next) ≡ node_answer (regex_turn bytes (256 - items) classes at)
      unfolding regex_item node_answer
      node_empty t = rw (node_tag h, t)

      pub node_star : tag ≡ 4 → Ok (Plain 4 1 next) ≡ node_answer (regex_turn bytes (256 - items) classes at)
      unfolding regex_item node_answer
      node_star t = rw (node_tag h, t)

      -- The tags that are left are those of two parts.
      pub node_two : (tag ≡ 0 → ⊥) → (tag ≡ 1 → ⊥) → (tag ≡ 4 → ⊥)
          → Ok (Plain tag 2 next) ≡ node_answer (regex_turn bytes (256 - items) classes at)
      unfolding regex_item node_answer
      node_two n0 n1 n4 = go tag refl
        where
          most : tag ≤ 4
          most = (true-between 0 4 tag (field-kept (between 0 4) bytes at e).holds).1

          go : (t : ℕ) → tag ≡ t → Ok (Plain tag 2 next) ≡ node_answer (regex_turn bytes (256 - items) classes at)
          go zero s = absurd (n0 s)
          go (suc zero) s = absurd (n1 s)
          go (suc (suc zero)) s = rw (node_tag h, s)
          go (suc (suc (suc zero))) s = rw (node_tag h, s)
          go (suc (suc (suc (suc zero)))) s = absurd (n4 s)
          go (suc (suc (suc (suc (suc t))))) s = absurd (omega (arith, most))

-- ---- what a node that was read keeps

-- A node and its classes were still allowed, and the place after it lies within the bytes.
pub record NodeKept (bytes : List ℕ) (left classes : ℕ) (item : RegexItem) (next : ℕ) : Type 0 where
  pub node_allowed : 0 < left
  pub class_allowed : item_classes item ≤ classes
  pub inside : next ≤ length bytes

module _ (bytes : List ℕ) where
  class_keeps : (left classes at next : ℕ) → Outcome Any (NodeKept bytes (suc left) classes) (class_after bytes classes at next)
  unfolding class_after item_classes
  class_keeps left zero at next = refused 5 at tt
  class_keeps left (suc classes) at next =
      rw (eqb-suc-zero classes)
      (then_outcome (field-inside (between 0 255) bytes next)
      (λ low after f. then_outcome (field-inside (between low 255) bytes after)
      (λ high end g. accepted (class_item low high) end
      (record { node_allowed = omega arith; class_allowed = omega arith; inside = g.inside }))))

  item_keeps : (left classes at tag next : ℕ) → next ≤ length bytes
      → Outcome Any (NodeKept bytes (suc left) classes) (regex_item bytes classes at tag next)
  unfolding regex_item item_classes
  item_keeps left classes at tag next h = go (eqb tag 0) (eqb tag 1) (eqb tag 2) (eqb tag 3) (eqb tag 4)
    where
      plain : (item : RegexItem) → item_classes item ≡ 0 → Outcome Any (NodeKept bytes (suc left) classes) (got item next)
      plain item e = accepted item next (record { node_allowed = omega arith; class_allowed = omega arith; inside = h })

      go : (a b d f g : Bool) → Outcome Any (NodeKept bytes (suc left) classes)
          (cond a (got empty_item next) (cond b (class_after bytes classes at next)
          (cond d (got concat_item next) (cond f (got union_item next) (cond g (got star_item next) (stop 4 at))))))
      go true b d f g = plain empty_item refl
      go false true d f g = class_keeps left classes at next
      go false false true f g = plain concat_item refl
      go false false false true g = plain union_item refl
      go false false false false true = plain star_item refl
      go false false false false false = refused 4 at tt

  turn_keeps : (left classes at : ℕ) → Outcome Any (NodeKept bytes left classes) (regex_turn bytes left classes at)
  unfolding regex_turn
  turn_keeps zero classes at = then_outcome (field-inside (between 0 4) bytes at) (λ tag next f. refused 5 at tt)
  turn_keeps (suc left) classes at =
      rw (eqb-suc-zero left)
      (then_outcome (field-inside (between 0 4) bytes at) (λ tag next f. item_keeps left classes at tag next f.inside))

  pub node_kept : (left classes at : ℕ) {item : RegexItem} {next : ℕ} → regex_turn bytes left classes at ≡ got item next
      → NodeKept bytes left classes item next
  node_kept left classes at e = outcome_got (turn_keeps left classes at) e

-- ---- the turns make up the definition's items

items_turn : (bytes : List ℕ) (left classes due at : ℕ) → regex_items bytes left classes (suc due) at
    ≡ and_then (regex_turn bytes left classes at)
    (λ item after. and_then (regex_items bytes (left - 1) (classes - item_classes item) (regex_parts item + due) after) (in_front item))
unfolding regex_items regex_turn
items_turn bytes zero classes due at = go (sheet_field (between 0 4) bytes at)
  where
    go : (m : Reading ℕ) → ◌≡◌ {A = Reading (List RegexItem)} (and_then m (λ tag next. stop 5 at))
        (and_then (and_then m (λ tag next. stop 5 at))
        (λ item after. and_then (regex_items bytes (zero - 1) (classes - item_classes item) (regex_parts item + due) after) (in_front item)))
    go (stop q p) = refl
    go (got tag next) = refl
items_turn bytes (suc left) classes due at = simp (eqb-suc-zero, pred_suc) (go (sheet_field (between 0 4) bytes at))
  where
    go : (m : Reading ℕ) → and_then m (λ tag next. and_then (regex_item bytes classes at tag next)
        (λ item after. and_then (regex_items bytes left (classes - item_classes item) (regex_parts item + due) after) (in_front item)))
        ≡ and_then (and_then m (λ tag next. regex_item bytes classes at tag next))
        (λ item after. and_then (regex_items bytes left (classes - item_classes item) (regex_parts item + due) after) (in_front item))
    go (stop q p) = refl
    go (got tag next) = refl

pub items_put : (c : RuleColumns) (item : RegexItem) → (with_item c item).items ≡ c.items + 1
unfolding with_item
items_put c empty_item = refl
items_put c (class_item low high) = refl
items_put c concat_item = refl
items_put c union_item = refl
items_put c star_item = refl

pub classes_put : (c : RuleColumns) (item : RegexItem) → (with_item c item).classes ≡ c.classes + item_classes item
unfolding with_item item_classes
classes_put c empty_item = omega arith
classes_put c (class_item low high) = refl
classes_put c concat_item = omega arith
classes_put c union_item = omega arith
classes_put c star_item = omega arith

pub count_put : (c : RuleColumns) (item : RegexItem) → (with_item c item).count ≡ c.count
unfolding with_item
count_put c empty_item = refl
count_put c (class_item low high) = refl
count_put c concat_item = refl
count_put c union_item = refl
count_put c star_item = refl

module _ (bytes : List ℕ) (c : RuleColumns) (at : ℕ) where
  abbrev pub turn_from : Reading RegexItem
  turn_from = regex_turn bytes (256 - c.items) (64 - c.classes) at

  abbrev pub items_from : ℕ → Reading (List RegexItem)
  items_from due = regex_items bytes (256 - c.items) (64 - c.classes) due at

  pub items_stop : (due : ℕ) {question place : ℕ} → 0 < due → turn_from ≡ stop question place → items_from due ≡ stop question place
  items_stop zero l e = absurd (omega arith)
  items_stop (suc due) l e = items_turn bytes (256 - c.items) (64 - c.classes) due at ∙ rw e

  pub items_end : (due : ℕ) → due ≡ 0 → items_from due ≡ got [] at
  unfolding regex_items
  items_end due e = go (256 - c.items)
    where
      go : (left : ℕ) → regex_items bytes left (64 - c.classes) due at ≡ got [] at
      go zero = rw e
      go (suc left) = rw e

  items_next : (due : ℕ) {item : RegexItem} {next : ℕ} → 0 < due → turn_from ≡ got item next
      → items_from due ≡ and_then (regex_items bytes (256 - (with_item c item).items) (64 - (with_item c item).classes)
      (due - 1 + regex_parts item) next) (in_front item)
  items_next zero l e = absurd (omega arith)
  items_next (suc due) {item} {next} l e =
      let i : 256 - c.items - 1 ≡ 256 - (with_item c item).items = omega (arith, items_put c item) in
      let k : 64 - c.classes - item_classes item ≡ 64 - (with_item c item).classes = omega (arith, classes_put c item) in
      let d : regex_parts item + due ≡ suc due - 1 + regex_parts item = omega arith in
      items_turn bytes (256 - c.items) (64 - c.classes) due at ∙ rw (e, i, k, d)

  fit_put : {item : RegexItem} {next : ℕ} → RulesFit c → turn_from ≡ got item next → RulesFit (with_item c item)
  fit_put {item} {next} f e =
      let n = node_kept bytes (256 - c.items) (64 - c.classes) at e in record {
        rules = omega (arith, f.rules, count_put c item);
        nodes = omega (arith, n.node_allowed, items_put c item);
        classes = omega (arith, n.class_allowed, f.classes, classes_put c item);
      }

pub parts_most : (item : RegexItem) → regex_parts item ≤ 2
unfolding regex_parts
parts_most empty_item = omega arith
parts_most (class_item low high) = omega arith
parts_most concat_item = omega arith
parts_most union_item = omega arith
parts_most star_item = omega arith

-- How it goes on after a node, from the columns p with d regexes due.
pub record Again (bytes : List ℕ) (c : RuleColumns) (at due : ℕ) (item : RegexItem) (p : RuleColumns) (d next : ℕ) : Type 0 where
  pub inside : next ≤ length bytes
  pub due_few : d ≤ p.items + 1
  pub fits : RulesFit p
  pub rest : items_from bytes c at due ≡ and_then (items_from bytes p next d) (in_front item)

pub turn_again : (bytes : List ℕ) (c : RuleColumns) (at due : ℕ) {item : RegexItem} {next d : ℕ} {p : RuleColumns} → 0 < due
    → due ≤ c.items + 1 → RulesFit c → turn_from bytes c at ≡ got item next → p ≡ with_item c item → d ≡ due - 1 + regex_parts item
    → Again bytes c at due item p d next
turn_again bytes c at due {item} l few f e h k =
    let i = items_put c item in
    let m = parts_most item in
    rw (h, k) record {
      inside = (node_kept bytes (256 - c.items) (64 - c.classes) at e).inside;
      due_few = omega arith;
      fits = fit_put bytes c at f e;
      rest = items_next bytes c at due l e;
    }
