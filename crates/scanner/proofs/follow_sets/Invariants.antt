-- `scanner::follow_sets` meets its contract. The loop's invariant: the positions met so far and those of the set that is left are
-- the ones that the walk meets, and their follow sets were joined. Its measure: the ones left.
use Prim.Native.Nat.{◌<◌, ◌^◌}
use lib.Count.{ones}
use lib.ListN.{drop}
use Rattle.scanner.proofs.Walked.{Walked}
use Rattle.scanner.proofs.follow_sets.Given as goal

abbrev pub invariant-loop-left : goal.invariant-loop-left
invariant-loop-left l = (l.left < 2 ^ 64) × Walked (drop 256 l.tables) l.kept l.left l.next

abbrev pub decreases-loop-left : goal.decreases-loop-left
decreases-loop-left l = ones l.left
