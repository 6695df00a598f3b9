use mathlib.Core.Path.{◌∙◌}
use Rattle.type_checker.proofs.Loops.{faults_first, fault_here, fault_later, fault_none}
use Rattle.type_checker.proofs.first_fault.Goals as goal

pub loop-node-init : goal.loop-node-init
loop-node-init c = faults_first c.args.links c.args.types

pub returns-in-Some : goal.returns-in-Some
returns-in-Some c =
    let l = c.loop-node in
    fault_here c.args.links c.args.types c.requires l.node _ c.loop-node-test.true c.node_fault.ensures c.in-Some.question c.in-Some.is
    ∙ l.invariant

pub loop-node-preserved : goal.loop-node-preserved
loop-node-preserved c =
    let l = c.loop-node in
    fault_later c.args.links c.args.types c.requires l.node _ c.loop-node-test.true c.node_fault.ensures c.in_default.is ∙ l.invariant

pub returns : goal.returns
returns c =
    let l = c.loop-node in
    fault_none c.args.links c.args.types c.requires l.node c.loop-node-test.false ∙ l.invariant
