-- `run_on` meets its contract: the answer that the turns gave, or that of the rest.
use mathlib.Core.Path.{subst}
use Rattle.machine_loop.specs.Turning.{PlainLead}
use Rattle.machine_loop.proofs.run_on.Goals as goal

pub returns-in-Ok : goal.returns-in-Ok
returns-in-Ok c =
    let a = c.args in
    λ i whole w l. (subst (PlainLead i a.machine.now a.text.now whole a.stack.now) c.in-Ok.is l).0

pub run_rest-requires : goal.run_rest-requires
run_rest-requires c =
    let a = c.args in
    let w = c.requires.1 in
    (c.requires.0, (w.0, w.1, w.2, (subst (PlainLead w.0 a.machine.now a.text.now w.1 a.stack.now) c.in-Err.is w.3).0))

pub returns-in-Err : goal.returns-in-Err
returns-in-Err c =
    let a = c.args in
    λ i whole w l. c.run_rest.ensures i whole w (subst (PlainLead i a.machine.now a.text.now whole a.stack.now) c.in-Err.is l).0
