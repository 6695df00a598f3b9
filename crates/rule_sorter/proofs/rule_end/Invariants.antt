-- `rule_sorter::rule_end` meets its contract. The invariant: whatever regex may stand there, the regexes due end where it ends.
use Prim.Native.Nat.{◌+◌, ◌-◌, ◌≤◌}
use Rattle.sheet.specs.Regex.{Regex}
use Rattle.sheet.specs.laws.RegexItems.{regex_items_of}
use Rattle.rule_sorter.specs.Ends.{ItemsAt}
use Rattle.rule_sorter.proofs.Ends.{Due}
use Rattle.rule_sorter.proofs.rule_end.Given as goal

abbrev pub invariant-loop-due : goal.invariant-loop-due
invariant-loop-due l =
    (l.due ≤ l.i + 1) × (l.c ≤ 64)
    × ((r : Regex) → ItemsAt l.tag l.low l.high l.item l.class (regex_items_of r) → Due l.tag l.low l.high r l.item l.class l.word l.i l.c l.due)

abbrev pub decreases-loop-due : goal.decreases-loop-due
decreases-loop-due l = 256 - l.i
