-- `position_finder::sweep` meets its contract. The invariant: for all regexes that the tags may be those of, the stack and the follow
-- sets are those of the regexes of the items done.
use mathlib.Core.List.{List}
use Rattle.sheet.specs.Regex.{Regex}
use Rattle.position_finder.specs.Forests.{RegexesHeld}
use Rattle.position_finder.proofs.SweepLoop.{Swept}
use Rattle.position_finder.proofs.sweep.Given as goal

abbrev pub invariant-loop-at : goal.invariant-loop-at
invariant-loop-at l =
    (rs : List Regex) → RegexesHeld l.tag l.items l.classes rs → Swept rs l.at l.stack l.follow l.top l.base
