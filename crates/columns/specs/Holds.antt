-- When columns hold lists of items, and so a sheet's rules and expression. Entries past the counts are not spoken of.
use Rattle.std.specs.Prelude.{◌≡◌, ℕ, ◌≤◌, length, take}
use mathlib.Core.List.{List, [], ◌∷◌, map, flat_map}
use Rattle.sheet.specs.Items.{RegexItem, empty_item, class_item, concat_item, union_item, star_item, ExpressionItem, epsilon_item, bottom_item, token_item, sequence_item, alternative_item, fixed_point_item, variable_item, repetition_item}
use Rattle.sheet.specs.laws.RegexItems.{regex_items_of, regex_tag}
use Rattle.sheet.specs.laws.ExpressionItems.{expression_items_of, expression_tag}
use Rattle.sheet.specs.Expression.{Expression}
use Rattle.sheet.specs.Sheet.{Rule}
use Rattle.columns.specs.declared.RuleColumns.{RuleColumns}
use Rattle.columns.specs.declared.NodeColumns.{NodeColumns}

-- A class's low byte, and its high byte: one entry for a class, none for any other item.
unfoldable pub low_of : RegexItem → List ℕ
low_of empty_item = []
low_of (class_item low high) = low ∷ []
low_of concat_item = []
low_of union_item = []
low_of star_item = []

unfoldable pub high_of : RegexItem → List ℕ
high_of empty_item = []
high_of (class_item low high) = high ∷ []
high_of concat_item = []
high_of union_item = []
high_of star_item = []

-- The number after an item's tag, or 0.
unfoldable pub number_after : ExpressionItem → ℕ
number_after epsilon_item = 0
number_after bottom_item = 0
number_after (token_item k) = k
number_after sequence_item = 0
number_after alternative_item = 0
number_after fixed_point_item = 0
number_after (variable_item n) = n
number_after repetition_item = 0

-- The columns hold these actions with their places, and these items over all rules.
pub record RulesHold (c : RuleColumns) (actions places : List ℕ) (items : List RegexItem) : Type 0 where
  pub rules : c.count ≡ length actions
  pub rules_fit : c.count ≤ 32
  pub actions_held : take c.count c.action ≡ actions
  pub places_held : take c.count c.place ≡ places
  pub nodes : c.items ≡ length items
  pub nodes_fit : c.items ≤ 256
  pub tags_held : take c.items c.tag ≡ map regex_tag items
  pub classes_fit : c.classes ≤ 64
  pub lows_held : take c.classes c.low ≡ flat_map low_of items
  pub highs_held : take c.classes c.high ≡ flat_map high_of items
  pub classes_counted : c.classes ≡ length (flat_map low_of items)

-- The items of all rules, in their order.
unfoldable pub items_of_rules : List Rule → List RegexItem
items_of_rules rules = flat_map (λ r. regex_items_of r.regex) rules

-- The columns hold a sheet's rules, whose actions stand at the places.
abbrev pub RulesOf : RuleColumns → List Rule → List ℕ → Type 0
RulesOf c rules places = RulesHold c (map (λ r. r.action) rules) places (items_of_rules rules)

-- The columns hold these items, whose tags stand at the places.
pub record NodesHold (c : NodeColumns) (items : List ExpressionItem) (places : List ℕ) : Type 0 where
  pub nodes : c.count ≡ length items
  pub nodes_fit : c.count ≤ 64
  pub tags_held : take c.count c.tag ≡ map expression_tag items
  pub numbers_held : take c.count c.number ≡ map number_after items
  pub places_held : take c.count c.place ≡ places

-- The columns hold an expression, whose nodes' tags stand at the places.
abbrev pub NodesOf : NodeColumns → Expression → List ℕ → Type 0
NodesOf c e places = NodesHold c (expression_items_of e) places
