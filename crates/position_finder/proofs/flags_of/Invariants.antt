-- `position_finder::flags_of` meets its contract. The invariant: for all regexes that the tags may be those of, the stack has the flags
-- of the regexes of the items done.
use mathlib.Core.List.{List}
use Rattle.sheet.specs.Regex.{Regex}
use Rattle.position_finder.specs.Stacks.{TagsHeld}
use Rattle.position_finder.proofs.Flags.{Flagged}
use Rattle.position_finder.proofs.flags_of.Given as goal

abbrev pub invariant-loop-at : goal.invariant-loop-at
invariant-loop-at l =
    (rs : List Regex) → TagsHeld l.tag l.items rs → Flagged rs l.at l.flags l.top
