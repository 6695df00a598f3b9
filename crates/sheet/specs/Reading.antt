-- Reading a sheet from bytes, as the code does it: from the left, one number after the other, with the items of its trees and their
-- places. What questions 3 to 6 ask is said in SheetFormat, and that this is what they ask in SheetAgreement.
use Rattle.std.specs.Prelude.{Bool, cond, List, [], ◌∷◌, ◌++◌, map, ℕ, zero, suc, ◌+◌, ◌-◌, length, get_or, eqb, ltb}
use Rattle.basics.specs.Lists.{sum}
use Rattle.number.specs.Number.{decode}
use Rattle.sheet.specs.Limits.{most_tokens, most_rules, most_classes, most_regex_nodes, most_expression_nodes}
use Rattle.sheet.specs.Regex.{empty}
use Rattle.sheet.specs.Expression.{bottom}
pub use Rattle.sheet.specs.SheetFormat.{Contents}
use Rattle.sheet.specs.Field.{Reading, stop, got, and_then, between, read_field, read_many}
use Rattle.sheet.specs.Items.{RegexItem, empty_item, class_item, concat_item, union_item, star_item}
use Rattle.sheet.specs.Items.{regex_parts, item_classes, regexes, part_depths, expressions}
use Rattle.sheet.specs.Items.{ExpressionItem, epsilon_item, bottom_item, token_item, sequence_item, alternative_item, fixed_point_item, variable_item, repetition_item}

-- A number of a sheet, padded or not: 3 where it is not readable, 4 where its value is not allowed.
unfoldable pub sheet_field : (ℕ → Bool) → List ℕ → ℕ → Reading ℕ
sheet_field = read_field decode 3 4

-- A class's low and high bytes follow its tag, which is where 5 stands if no class is left.
unfoldable pub class_after : List ℕ → ℕ → ℕ → ℕ → Reading RegexItem
class_after bytes classes at next =
    cond (eqb classes 0) (stop 5 at)
    (and_then (sheet_field (between 0 255) bytes next)
    (λ low after. and_then (sheet_field (between low 255) bytes after) (λ high end. got (class_item low high) end)))

-- The item of a tag, with what follows the tag. Every tag has its own test; past the last one, which its field does not let through,
-- a tag is not allowed.
unfoldable pub regex_item : List ℕ → ℕ → ℕ → ℕ → ℕ → Reading RegexItem
regex_item bytes classes at tag next =
    cond (eqb tag 0) (got empty_item next)
    (cond (eqb tag 1) (class_after bytes classes at next)
    (cond (eqb tag 2) (got concat_item next)
    (cond (eqb tag 3) (got union_item next) (cond (eqb tag 4) (got star_item next) (stop 4 at)))))

-- The items of so many regexes in a row, from a place on, while so many nodes and classes are still allowed. A tag is asked
-- for 3, then 4, then 5; the limits count "over all rules".
unfoldable pub regex_items : List ℕ → ℕ → ℕ → ℕ → ℕ → Reading (List RegexItem)
regex_items bytes zero classes zero at = got [] at
regex_items bytes zero classes (suc due) at = and_then (sheet_field (between 0 4) bytes at) (λ tag next. stop 5 at)
regex_items bytes (suc left) classes zero at = got [] at
regex_items bytes (suc left) classes (suc due) at =
    and_then (sheet_field (between 0 4) bytes at)
    (λ tag next. and_then (regex_item bytes classes at tag next)
    (λ item after. and_then (regex_items bytes left (classes - item_classes item) (regex_parts item + due) after)
    (λ items end. got (item ∷ items) end)))

-- A rule as read: the place of its action, its action, and its regex's items.
pub record ReadRule : Type 0 where
  pub place : ℕ
  pub action : ℕ
  pub items : List RegexItem

-- The regex nodes and byte classes that are still allowed.
pub record Allowance : Type 0 where
  pub nodes : ℕ
  pub classes : ℕ

unfoldable pub less_rule : Allowance → ReadRule → Allowance
less_rule a r = record { nodes = a.nodes - length r.items; classes = a.classes - sum item_classes r.items }

-- "per rule: action (0 skips, k + 1 returns token k, k below T), then a regex"
unfoldable pub read_rule : List ℕ → ℕ → Allowance → ℕ → Reading ReadRule
read_rule bytes tokens allowed at =
    and_then (sheet_field (between 0 tokens) bytes at)
    (λ action next. and_then (regex_items bytes allowed.nodes allowed.classes 1 next)
    (λ items end. got (record { place = at; action = action; items = items }) end))

-- An expression's node as read: the place of its tag, and its item.
pub record ReadNode : Type 0 where
  pub place : ℕ
  pub item : ExpressionItem

-- The item of a tag, where so many fixed points are open, as for regexes.
unfoldable pub expression_item : List ℕ → ℕ → ℕ → ℕ → ℕ → ℕ → Reading ExpressionItem
expression_item bytes tokens opened at tag next =
    cond (eqb tag 0) (got epsilon_item next)
    (cond (eqb tag 1) (got bottom_item next)
    (cond (eqb tag 2) (and_then (sheet_field (λ k. ltb k tokens) bytes next) (λ k end. got (token_item k) end))
    (cond (eqb tag 3) (got sequence_item next)
    (cond (eqb tag 4) (got alternative_item next)
    (cond (eqb tag 5) (got fixed_point_item next)
    (cond (eqb tag 6) (and_then (sheet_field (λ n. ltb n opened) bytes next) (λ n end. got (variable_item n) end))
    (cond (eqb tag 7) (got repetition_item next) (stop 4 at))))))))

-- The nodes of the expressions still to come, while so many nodes are allowed. For each expression still to come the list
-- has how many fixed points are open where it stands.
unfoldable pub expression_nodes : List ℕ → ℕ → ℕ → List ℕ → ℕ → Reading (List ReadNode)
expression_nodes bytes tokens zero [] at = got [] at
expression_nodes bytes tokens zero (opened ∷ due) at = and_then (sheet_field (between 0 7) bytes at) (λ tag next. stop 5 at)
expression_nodes bytes tokens (suc left) [] at = got [] at
expression_nodes bytes tokens (suc left) (opened ∷ due) at =
    and_then (sheet_field (between 0 7) bytes at)
    (λ tag next. and_then (expression_item bytes tokens opened at tag next)
    (λ item after. and_then (expression_nodes bytes tokens left (part_depths item opened ++ due) after)
    (λ nodes end. got (record { place = at; item = item } ∷ nodes) end)))

-- The sheet that was read: its trees made of the items.
unfoldable pub contents : ℕ → List ReadRule → List ReadNode → Contents
contents tokens rules nodes = record {
  sheet = record {
    tokens = tokens;
    rules = map (λ r. record { action = r.action; regex = get_or (regexes r.items) 0 empty }) rules;
    expression = get_or (expressions (map (λ n. n.item) nodes)) 0 bottom;
  };
  action_places = map (λ r. r.place) rules;
  node_places = map (λ n. n.place) nodes;
}

-- "Does the sheet end after its expression? No: 6, at the first byte left over."
unfoldable pub at_end : List ℕ → Contents → ℕ → Reading Contents
at_end bytes c end = cond (eqb end (length bytes)) (got c end) (stop 6 end)

-- "version, 1; token count T, 1 to 24; rule count R, 1 to 32; per rule ..; one expression", and nothing after it.
unfoldable pub read_sheet : List ℕ → Reading Contents
read_sheet bytes =
    and_then (sheet_field (between 1 1) bytes 0)
    (λ version at_tokens. and_then (sheet_field (between 1 most_tokens) bytes at_tokens)
    (λ tokens at_count. and_then (sheet_field (between 1 most_rules) bytes at_count)
    (λ count at_rules.
    and_then (read_many (read_rule bytes tokens) less_rule (record { nodes = most_regex_nodes; classes = most_classes }) count at_rules)
    (λ rules at_expression. and_then (expression_nodes bytes tokens most_expression_nodes (0 ∷ []) at_expression)
    (λ nodes end. at_end bytes (contents tokens rules nodes) end)))))
