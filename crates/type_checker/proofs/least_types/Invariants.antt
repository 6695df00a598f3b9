-- `type_checker::least_types` meets its contract. The loop's invariant: no equation but those of the nodes that are left gives
-- more than its node has, and no type is above the least one.
use Rattle.type_checker.proofs.Loops.{Pending, pending_steps}
use Rattle.type_checker.proofs.least_types.Given as goal

abbrev pub invariant-loop-left : goal.invariant-loop-left
invariant-loop-left l = Pending l.links l.types l.left

abbrev pub decreases-loop-left : goal.decreases-loop-left
decreases-loop-left l = pending_steps l.links l.types l.left
