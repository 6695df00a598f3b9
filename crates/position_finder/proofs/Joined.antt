-- The two answers for columns that hold a sheet's rules, question 7's and the positions, from the answers of the steps.
use mathlib.Core.Path.{◌≡◌, refl, sym, ap, ◌∙◌}
use mathlib.Core.Bool.{Bool, false, cond}
use mathlib.Core.List.{List, [], ◌∷◌, ◌++◌, map, flat_map}
use mathlib.Core.Option.{Option, some}
use Prim.Native.Nat.{ℕ, suc, ◌+◌}
use native.Mathlib.Omega.{arith}
use lib.Bits.{bit_or}
use Rattle.std.specs.Prelude as Prelude
use lib.ListN.{length, length-map, take, drop, take-append-drop}
use Rattle.basics.specs.Bits.{bit}
use Rattle.basics.specs.Lists.{sum}
use Rattle.sheet.specs.Regex.{Regex, class_count}
use Rattle.sheet.specs.Sheet.{Rule}
use Rattle.sheet.specs.Items.{RegexItem, item_classes}
use Rattle.sheet.specs.laws.RegexItems.{regex_items_of, regex_tag}
use Rattle.columns.specs.declared.RuleColumns.{RuleColumns}
use Rattle.columns.specs.Holds.{low_of, high_of, items_of_rules, RulesOf}
use Rattle.lexer.specs.Positions.{nullable, first, first_from, first_positions, empty_match, positions}
use Rattle.lexer.proofs.laws.PositionBounds.{class_total, positions-length}
use Rattle.columns.specs.declared.PositionColumns.{PositionColumns}
use Rattle.columns.specs.HeldPositions.{held_from, held_positions}
use Rattle.position_finder.specs.declared.Forest.{Forest}
use Rattle.position_finder.specs.Stacks.{TagsHeld, Stacked, first_up}
use Rattle.position_finder.specs.Forests.{all_first, RegexesHeld, ForestOf}
use Rattle.position_finder.specs.Answer.{empty_rule, PositionsOf}
use Rattle.position_finder.proofs.Items.{classes-all}
use Rattle.columns.proofs.laws.ColumnLaws.{Starts, low_one, entries}
use Rattle.position_finder.proofs.Holding.{rules_held}

-- The rules' regexes, and what the definitions over rules say of them.
abbrev pub regexes_of : List Rule → List Regex
regexes_of rules = map (λ r. r.regex) rules

items_same : (rules : List Rule) → items_of_rules rules ≡ flat_map regex_items_of (regexes_of rules)
unfolding items_of_rules flat_map
items_same [] = refl
items_same (r ∷ rules) = ap (λ (l : List RegexItem). regex_items_of r.regex ++ l) (items_same rules)

classes_same : (rules : List Rule) → sum class_count (regexes_of rules) ≡ class_total rules
classes_same [] = refl
classes_same (r ∷ rules) = ap (λ (n : ℕ). class_count r.regex + n) (classes_same rules)

first_same : (rules : List Rule) (base : ℕ) → all_first (regexes_of rules) base ≡ first_from rules base
unfolding all_first first_from
first_same [] base = refl
first_same (r ∷ rules) base = ap (bit_or (first r.regex base)) (first_same rules (base + class_count r.regex))

empty_same : (rules : List Rule) (k : ℕ) → first_up (map nullable (regexes_of rules)) k ≡ empty_match rules k
unfolding first_up empty_match
empty_same [] k = refl
empty_same (r ∷ rules) k = ap (λ (o : Option ℕ). cond (nullable r.regex) (some k) o) (empty_same rules (suc k))

module _ (c : RuleColumns) (rules : List Rule) (places : List ℕ) (held : RulesOf c rules places) where
  classes_are : c.classes ≡ class_total rules
  classes_are =
      held.classes_counted ∙ entries low_of low_one (items_of_rules rules) ∙ ap (sum item_classes) (items_same rules)
      ∙ classes-all (regexes_of rules) ∙ classes_same rules

  pub tags_held : TagsHeld c.tag c.items (regexes_of rules)
  tags_held = record {
    nodes = held.nodes ∙ ap length (items_same rules);
    nodes_fit = held.nodes_fit;
    tags_held = held.tags_held ∙ ap (map regex_tag) (items_same rules);
  }

  pub rules-counted : c.count ≡ length (regexes_of rules)
  rules-counted = held.rules ∙ length-map rules (λ r. r.action) ∙ sym (length-map rules (λ r. r.regex))

  -- Question 7, where the stack has the rules' flags.
  pub empty_answered : (flags : List Bool) (e : Prelude.Option ℕ) → Stacked false flags (map nullable (regexes_of rules))
      → ((up : List Bool) → Stacked false flags up → c.count ≡ length up → empty_rule e ≡ first_up up 0) → empty_rule e ≡ empty_match rules 0
  empty_answered flags e s f =
      f (map nullable (regexes_of rules)) s (rules-counted ∙ sym (length-map (regexes_of rules) nullable)) ∙ empty_same rules 0

  pub regexes-held : RegexesHeld c.tag c.items c.classes (regexes_of rules)
  regexes-held = record {
    held = tags_held;
    classes_counted = classes_are ∙ sym (classes_same rules);
    classes_fit = held.classes_fit;
  }

  -- What stands first in a column, with what comes after.
  starts : (g : RegexItem → List ℕ) (l : List ℕ) → take c.classes l ≡ flat_map g (items_of_rules rules)
      → Starts g l 0 (items_of_rules rules)
  starts g l e = (drop c.classes l, sym (take-append-drop c.classes l) ∙ ap (λ (x : List ℕ). x ++ drop c.classes l) e)

  -- The columns that are handed back.
  abbrev pub answer : Forest → PositionColumns
  answer f = record {
    count = c.classes;
    low = c.low;
    high = c.high;
    rule = f.sets.rule;
    follow = f.follow;
    last = f.sets.last;
    first = f.sets.first;
  }

  pub answered : (f : Forest) → ForestOf (regexes_of rules) f → PositionsOf rules (answer f)
  unfolding held_positions positions first_positions
  answered f h = record {
    positions_held =
        ap (held_from c.low c.high f.sets.rule f.follow f.sets.last 0) classes_are
        ∙ rules_held c.low c.high f.sets.rule f.follow f.sets.last rules 0 0 (starts low_of c.low held.lows_held)
        (starts high_of c.high held.highs_held)
        (λ j b l.
        let n = classes_same rules in
        (h.gathered.owners j (omega arith), ap (λ (x : ℕ). bit x j) h.gathered.lasts, h.follows j (omega (arith, classes_are, held.classes_fit))));
    count_held = classes_are ∙ sym (positions-length rules);
    first_held = h.gathered.firsts ∙ first_same rules 0;
  }
