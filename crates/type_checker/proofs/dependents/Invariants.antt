-- `type_checker::dependents` meets its contract. The loop's invariant: the sets are those of the nodes before the present one.
use Rattle.type_checker.proofs.Sets.{Joining}
use Rattle.type_checker.proofs.dependents.Given as goal

abbrev pub invariant-loop-i : goal.invariant-loop-i
invariant-loop-i l = Joining l.links l.i l.sets
