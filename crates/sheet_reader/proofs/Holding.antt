-- Columns that were filled hold what they were filled with: one thing more is held at the end. Pure: no reading is named here.
use mathlib.Core.Path.{◌≡◌, refl, sym, ap, ◌∙◌}
use mathlib.Core.List.{List, [], ◌∷◌, ◌++◌, append_assoc, append-nil, map, flat_map}
use Prim.Native.Nat.{ℕ, ◌+◌, ◌≤◌, ◌<◌}
use native.Mathlib.Numerals.{add-one}
use native.Mathlib.Omega.{arith}
use lib.ListN.{length, take, set, length-append, length-set}
use lib.Seq.{take-suc-set}
use Rattle.basics.specs.Lists.{sum}
use Rattle.sheet.proofs.laws.ListLaws.{flat_map-append}
use Rattle.sheet.specs.Items.{RegexItem, empty_item, class_item, concat_item, union_item, star_item, item_classes, ExpressionItem}
use Rattle.sheet.specs.Reading.{ReadRule, ReadNode}
use Rattle.sheet.specs.laws.RegexItems.{regex_tag}
use Rattle.sheet.specs.laws.ExpressionItems.{expression_tag}
use Rattle.columns.specs.Holds.{low_of, high_of, number_after, RulesHold, NodesHold}
use Rattle.columns.specs.declared.RuleColumns.{RuleColumns}
use Rattle.columns.specs.declared.NodeColumns.{NodeColumns}
use Rattle.sheet_reader.specs.Put.{with_tag, with_class, with_action, with_node, with_item, with_all, with_rule, with_read_node, no_rules, no_nodes}
use Rattle.sheet_reader.specs.Answers.{RulesFit}
use Rattle.sheet_reader.proofs.RegexTurns.{items_put, classes_put}
use Rattle.sheet_reader.proofs.RuleTurns.{all_items, all-classes, rule_count}

-- ---- lists with one more at the end

grown : (l : List ℕ) (n x : ℕ) {xs : List ℕ} → n < length l → take n l ≡ xs → take (n + 1) (set l n x) ≡ xs ++ (x ∷ [])
grown l n x h e = rw (add-one n) (take-suc-set l n x h ∙ ap (λ (k : List ℕ). k ++ (x ∷ [])) e)

map-append : {A B : Type 0} (f : A → B) (k l : List A) → map f (k ++ l) ≡ map f k ++ map f l
map-append f [] l = refl
map-append f (a ∷ k) l = ap (λ r. f a ∷ r) (map-append f k l)

one_longer : {A : Type 0} (l : List A) (a : A) → length (l ++ (a ∷ [])) ≡ length l + 1
one_longer l a = length-append l (a ∷ [])

-- ---- rules

-- The columns hold these actions, places and items, and are as long as declared.
pub record RulesHeld (c : RuleColumns) (actions places : List ℕ) (items : List RegexItem) : Type 0 where
  pub held : RulesHold c actions places items
  action_long : length c.action ≡ 32
  place_long : length c.place ≡ 32
  tag_long : length c.tag ≡ 256
  low_long : length c.low ≡ 64
  high_long : length c.high ≡ 64

pub none-held : RulesHeld no_rules [] [] []
unfolding flat_map
none-held = record {
  held = record {
    rules = refl;
    rules_fit = omega arith;
    actions_held = refl;
    places_held = refl;
    nodes = refl;
    nodes_fit = omega arith;
    tags_held = refl;
    classes_fit = omega arith;
    lows_held = refl;
    highs_held = refl;
    classes_counted = refl;
  };
  action_long = refl;
  place_long = refl;
  tag_long = refl;
  low_long = refl;
  high_long = refl;
}

module _ {c : RuleColumns} {actions places : List ℕ} {items : List RegexItem} (h : RulesHeld c actions places items) where
  action_held : (action place : ℕ) → c.count < 32
      → RulesHeld (with_action c action place) (actions ++ (action ∷ [])) (places ++ (place ∷ [])) items
  action_held action place l = record {
    held = record {
      rules = omega (arith, h.held.rules, one_longer actions action);
      rules_fit = omega arith;
      actions_held = grown c.action c.count action (omega (arith, h.action_long)) h.held.actions_held;
      places_held = grown c.place c.count place (omega (arith, h.place_long)) h.held.places_held;
      nodes = h.held.nodes;
      nodes_fit = h.held.nodes_fit;
      tags_held = h.held.tags_held;
      classes_fit = h.held.classes_fit;
      lows_held = h.held.lows_held;
      highs_held = h.held.highs_held;
      classes_counted = h.held.classes_counted;
    };
    action_long = length-set c.action c.count action ∙ h.action_long;
    place_long = length-set c.place c.count place ∙ h.place_long;
    tag_long = h.tag_long;
    low_long = h.low_long;
    high_long = h.high_long;
  }

  module _ (room : c.items < 256) where
    -- An item that is only its tag.
    tag_held : (item : RegexItem) → low_of item ≡ [] → high_of item ≡ []
        → RulesHeld (with_tag c (regex_tag item)) actions places (items ++ (item ∷ []))
    unfolding flat_map
    tag_held item low high =
        let lows : flat_map low_of (items ++ (item ∷ [])) ≡ flat_map low_of items =
        flat_map-append low_of items (item ∷ []) ∙ rw low (append-nil (flat_map low_of items)) in
        let highs : flat_map high_of (items ++ (item ∷ [])) ≡ flat_map high_of items =
        flat_map-append high_of items (item ∷ []) ∙ rw high (append-nil (flat_map high_of items)) in
        record {
          held = record {
            rules = h.held.rules;
            rules_fit = h.held.rules_fit;
            actions_held = h.held.actions_held;
            places_held = h.held.places_held;
            nodes = omega (arith, h.held.nodes, one_longer items item);
            nodes_fit = omega arith;
            tags_held = grown c.tag c.items (regex_tag item) (omega (arith, h.tag_long)) h.held.tags_held
                ∙ sym (map-append regex_tag items (item ∷ []));
            classes_fit = h.held.classes_fit;
            lows_held = h.held.lows_held ∙ sym lows;
            highs_held = h.held.highs_held ∙ sym highs;
            classes_counted = h.held.classes_counted ∙ ap length (sym lows);
          };
          action_long = h.action_long;
          place_long = h.place_long;
          tag_long = length-set c.tag c.items (regex_tag item) ∙ h.tag_long;
          low_long = h.low_long;
          high_long = h.high_long;
        }

    class_held : (low high : ℕ) → c.classes < 64
        → RulesHeld (with_class (with_tag c 1) low high) actions places (items ++ (class_item low high ∷ []))
    unfolding flat_map regex_tag low_of high_of
    class_held low high l =
        let item = class_item low high in
        let lows : flat_map low_of (items ++ (item ∷ [])) ≡ flat_map low_of items ++ (low ∷ []) = flat_map-append low_of items (item ∷ []) in
        let highs : flat_map high_of (items ++ (item ∷ [])) ≡ flat_map high_of items ++ (high ∷ []) = flat_map-append high_of items (item ∷ []) in
        record {
          held = record {
            rules = h.held.rules;
            rules_fit = h.held.rules_fit;
            actions_held = h.held.actions_held;
            places_held = h.held.places_held;
            nodes = omega (arith, h.held.nodes, one_longer items item);
            nodes_fit = omega arith;
            tags_held = grown c.tag c.items 1 (omega (arith, h.tag_long)) h.held.tags_held ∙ sym (map-append regex_tag items (item ∷ []));
            classes_fit = omega arith;
            lows_held = grown c.low c.classes low (omega (arith, h.low_long)) h.held.lows_held ∙ sym lows;
            highs_held = grown c.high c.classes high (omega (arith, h.high_long)) h.held.highs_held ∙ sym highs;
            classes_counted = omega (arith, h.held.classes_counted, ap length lows, one_longer (flat_map low_of items) low);
          };
          action_long = h.action_long;
          place_long = h.place_long;
          tag_long = length-set c.tag c.items 1 ∙ h.tag_long;
          low_long = length-set c.low c.classes low ∙ h.low_long;
          high_long = length-set c.high c.classes high ∙ h.high_long;
        }

    item_held : (item : RegexItem) → c.classes + item_classes item ≤ 64
        → RulesHeld (with_item c item) actions places (items ++ (item ∷ []))
    unfolding with_item item_classes regex_tag low_of high_of
    item_held empty_item l = tag_held empty_item refl refl
    item_held (class_item low high) l = class_held low high (omega arith)
    item_held concat_item l = tag_held concat_item refl refl
    item_held union_item l = tag_held union_item refl refl
    item_held star_item l = tag_held star_item refl refl

items_held : {c : RuleColumns} {actions places : List ℕ} {items : List RegexItem} (more : List RegexItem)
    → RulesHeld c actions places items
    → c.items + length more ≤ 256 → c.classes + sum item_classes more ≤ 64
    → RulesHeld (with_all with_item c more) actions places (items ++ more)
unfolding with_all
items_held {c} {actions} {places} {items} [] h n k = rw (append-nil items) h
items_held {c} {actions} {places} {items} (i ∷ more) h n k =
    rw (← append_assoc items (i ∷ []) more)
    (items_held {c = with_item c i} more (item_held h (omega arith) i (omega arith)) (omega (arith, items_put c i)) (omega (arith, classes_put c i)))

-- What the items of all rules count.
abbrev node_sum : List ReadRule → ℕ
node_sum = sum (λ r. length r.items)

abbrev class_sum : List ReadRule → ℕ
class_sum = sum (λ r. sum item_classes r.items)

rules_held : {c : RuleColumns} {actions places : List ℕ} {items : List RegexItem} (rules : List ReadRule)
    → RulesHeld c actions places items
    → c.count + length rules ≤ 32 → c.items + node_sum rules ≤ 256 → c.classes + class_sum rules ≤ 64
    → RulesHeld (with_all with_rule c rules) (actions ++ map (λ r. r.action) rules) (places ++ map (λ r. r.place) rules)
    (items ++ flat_map (λ r. r.items) rules)
unfolding with_all with_rule flat_map
rules_held {c} {actions} {places} {items} [] h l n k = rw (append-nil actions, append-nil places, append-nil items) h
rules_held {c} {actions} {places} {items} (r ∷ rules) h l n k =
    let p = with_action c r.action r.place in
    let i = all_items p r.items in
    let j = all-classes p r.items in
    let m = rule_count c r in
    rw (
      ← append_assoc actions (r.action ∷ []) (map (λ s. s.action) rules),
      ← append_assoc places (r.place ∷ []) (map (λ s. s.place) rules),
      ← append_assoc items r.items (flat_map (λ s. s.items) rules),
    )
    (rules_held {c = with_rule c r} rules (items_held r.items (action_held h r.action r.place (omega arith)) (omega arith) (omega arith))
    (omega arith) (omega arith) (omega arith))

-- ---- what is held in the end

sums : (c : RuleColumns) (rules : List ReadRule)
    → ((with_all with_rule c rules).count ≡ c.count + length rules) × ((with_all with_rule c rules).items ≡ c.items + node_sum rules)
    × ((with_all with_rule c rules).classes ≡ c.classes + class_sum rules)
unfolding with_all with_rule
sums c [] = (omega arith, omega arith, omega arith)
sums c (r ∷ rules) =
    let p = with_action c r.action r.place in
    let i = all_items p r.items in
    let j = all-classes p r.items in
    let m = rule_count c r in
    let s = sums (with_rule c r) rules in
    (omega (arith, s.0), omega (arith, s.1), omega (arith, s.2))

pub all_rules-held : (rules : List ReadRule) → RulesFit (with_all with_rule no_rules rules)
    → RulesHold (with_all with_rule no_rules rules) (map (λ r. r.action) rules) (map (λ r. r.place) rules) (flat_map (λ r. r.items) rules)
all_rules-held rules f =
    let s = sums no_rules rules in
    (rules_held rules none-held (omega (arith, s.0, f.rules)) (omega (arith, s.1, f.nodes)) (omega (arith, s.2, f.classes))).held

-- ---- expression nodes

record NodesHeld (c : NodeColumns) (items : List ExpressionItem) (places : List ℕ) : Type 0 where
  held : NodesHold c items places
  tag_long : length c.tag ≡ 64
  number_long : length c.number ≡ 64
  place_long : length c.place ≡ 64

node_held : {c : NodeColumns} {items : List ExpressionItem} {places : List ℕ} (item : ExpressionItem) (place : ℕ)
    → NodesHeld c items places → c.count < 64
    → NodesHeld (with_node c (expression_tag item) (number_after item) place) (items ++ (item ∷ [])) (places ++ (place ∷ []))
node_held {c} {items} {places} item place h l = record {
  held = record {
    nodes = omega (arith, h.held.nodes, one_longer items item);
    nodes_fit = omega arith;
    tags_held = grown c.tag c.count (expression_tag item) (omega (arith, h.tag_long)) h.held.tags_held
        ∙ sym (map-append expression_tag items (item ∷ []));
    numbers_held = grown c.number c.count (number_after item) (omega (arith, h.number_long)) h.held.numbers_held
        ∙ sym (map-append number_after items (item ∷ []));
    places_held = grown c.place c.count place (omega (arith, h.place_long)) h.held.places_held;
  };
  tag_long = length-set c.tag c.count (expression_tag item) ∙ h.tag_long;
  number_long = length-set c.number c.count (number_after item) ∙ h.number_long;
  place_long = length-set c.place c.count place ∙ h.place_long;
}

nodes_held : {c : NodeColumns} {items : List ExpressionItem} {places : List ℕ} (nodes : List ReadNode) → NodesHeld c items places
    → c.count + length nodes ≤ 64
    → NodesHeld (with_all with_read_node c nodes) (items ++ map (λ n. n.item) nodes) (places ++ map (λ n. n.place) nodes)
unfolding with_all with_read_node
nodes_held {c} {items} {places} [] h l = rw (append-nil items, append-nil places) h
nodes_held {c} {items} {places} (n ∷ nodes) h l =
    rw (← append_assoc items (n.item ∷ []) (map (λ m. m.item) nodes), ← append_assoc places (n.place ∷ []) (map (λ m. m.place) nodes))
    (nodes_held {c = with_node c (expression_tag n.item) (number_after n.item) n.place} nodes (node_held n.item n.place h (omega arith)) (omega arith))

pub all-nodes-held : (nodes : List ReadNode) → length nodes ≤ 64
    → NodesHold (with_all with_read_node no_nodes nodes) (map (λ n. n.item) nodes) (map (λ n. n.place) nodes)
all-nodes-held nodes l = (nodes_held nodes start (omega arith)).held
  where
    start : NodesHeld no_nodes [] []
    start = record {
      held = record { nodes = refl; nodes_fit = omega arith; tags_held = refl; numbers_held = refl; places_held = refl };
      tag_long = refl;
      number_long = refl;
      place_long = refl;
    }
