-- `position_finder::rule_sets` meets its contract. The invariant: for all regexes that the stack may hold, the first k of them are done.
use mathlib.Core.List.{List}
use lib.ListN.{drop}
use Rattle.sheet.specs.Regex.{Regex}
use Rattle.position_finder.specs.Forests.{RulesStacked}
use Rattle.position_finder.proofs.RuleLoops.{Gathering}
use Rattle.position_finder.proofs.rule_sets.Given as goal

abbrev pub invariant-loop-k : goal.invariant-loop-k
invariant-loop-k l =
    (rs : List Regex) → RulesStacked l.stack l.count rs → Gathering rs (drop l.k rs) l.stack l.k l.base l.first l.last l.rule
