use Rattle.type_checker.proofs.Sets.{joining_first, joining_next}
use Rattle.type_checker.proofs.dependents.Goals as goal

pub loop-i-init : goal.loop-i-init
loop-i-init c = joining_first c.args.links.now

pub loop-i-preserved : goal.loop-i-preserved
loop-i-preserved c =
    let l = c.loop-i in
    joining_next c.args.links.now c.requires l.i l.sets l.invariant c.loop-i-test.true _ _ c.with.ensures c.with-in-loop-i.ensures
