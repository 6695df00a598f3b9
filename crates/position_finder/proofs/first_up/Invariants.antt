-- `position_finder::first_up` meets its contract. The invariant: the answer is that of the flags from number k on.
use mathlib.Core.Path.{◌≡◌}
use mathlib.Core.Bool.{Bool, false}
use mathlib.Core.List.{List}
use lib.ListN.{length, drop}
use Rattle.position_finder.specs.Stacks.{Stacked, first_up}
use Rattle.position_finder.proofs.first_up.Given as goal

abbrev pub invariant-loop-k : goal.invariant-loop-k
invariant-loop-k l =
    (up : List Bool) → Stacked false l.flags up → l.count ≡ length up → first_up (drop l.k up) l.k ≡ first_up up 0
