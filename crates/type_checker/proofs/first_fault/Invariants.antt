-- `type_checker::first_fault` meets its contract. The loop's invariant: the first fault from
-- the present node on is the first of all.
use mathlib.Core.Path.{◌≡◌}
use Rattle.types.specs.Questions.{first_fault}
use Rattle.columns.specs.HeldNodes.{held_nodes, held_types}
use Rattle.type_checker.proofs.Loops.{faults_from}
use Rattle.type_checker.proofs.first_fault.Given as goal

abbrev pub invariant-loop-node : goal.invariant-loop-node
invariant-loop-node l =
    faults_from l.links l.types l.node ≡ first_fault (held_types l.links.count l.types) (held_nodes l.links) 0
