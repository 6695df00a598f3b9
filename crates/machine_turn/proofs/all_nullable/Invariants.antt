-- `all_nullable` meets its contract. The loop's invariant: those before the ones that are left are nullable.
use mathlib.Core.Path.{◌≡◌}
use Prim.Native.Nat.{◌≤◌, ◌<◌}
use lib.ListN.{length}
use Rattle.basics.specs.Lists.{All}
use Rattle.machine_turn.specs.Stack.{pending}
use Rattle.machine_turn.specs.Steps.{all_members}
use Rattle.machine_turn.proofs.all_nullable.Given as goal

abbrev pub invariant-loop-below : goal.invariant-loop-below
invariant-loop-below l =
    (l.below ≤ length l.stack)
    × All (λ m. m < 64) (pending l.stack l.below l.nonterminal)
    × (all_members l.empty (pending l.stack l.below l.nonterminal) ≡ all_members l.empty (pending l.stack l.depth l.first))
