-- `position_finder::join_follow` meets its contract. The invariant: `next` follows each of the positions that are not left. Its
-- measure: the ones left.
use mathlib.Core.Path.{◌≡◌}
use Prim.Native.Nat.{◌<◌, ◌^◌}
use lib.Count.{ones}
use lib.ListN.{length}
use Rattle.position_finder.proofs.Changes.{PartlyJoined}
use Rattle.position_finder.proofs.join_follow.Given as goal

abbrev pub invariant-loop-left : goal.invariant-loop-left
invariant-loop-left l = (length l.initial.follow ≡ 64) × (l.left < 2 ^ 64) × PartlyJoined l.from l.next l.left l.initial.follow l.follow

abbrev pub decreases-loop-left : goal.decreases-loop-left
decreases-loop-left l = ones l.left
