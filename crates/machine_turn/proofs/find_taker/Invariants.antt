-- `find_taker` meets its contract. The loop's invariant: the taker among those that are left is the taker.
use mathlib.Core.Path.{◌≡◌}
use Prim.Native.Nat.{◌≤◌, ◌<◌}
use lib.ListN.{length}
use Rattle.basics.specs.Lists.{All}
use Rattle.machine_turn.specs.Stack.{pending}
use Rattle.machine_turn.specs.Steps.{taker}
use Rattle.machine_turn.proofs.find_taker.Given as goal

abbrev pub invariant-loop-below : goal.invariant-loop-below
invariant-loop-below l =
    (l.below ≤ length l.stack)
    × All (λ m. m < 64) (pending l.stack l.below l.nonterminal)
    × (taker l.productions l.empty l.stack l.below l.nonterminal l.rule ≡ taker l.productions l.empty l.stack l.depth l.first l.rule)
