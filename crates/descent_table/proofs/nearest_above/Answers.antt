use native.Mathlib.Omega.{arith}
use Rattle.descent_table.proofs.Storing.{storing_first, column_fits, storing_next, all_stored}
use Rattle.descent_table.proofs.nearest_above.Goals as goal

pub loop-n-init : goal.loop-n-init
loop-n-init c = storing_first c.args.links.now c.requires

pub set_parts-requires : goal.set_parts-requires
set_parts-requires c = column_fits c.args.links.now c.requires c.loop-n.n c.loop-n-test.true

pub loop-n-preserved : goal.loop-n-preserved
loop-n-preserved c =
    storing_next c.args.links.now c.requires c.loop-n.n c.loop-n.up c.loop-n.invariant c.loop-n-test.true c.set_parts.new.up
    c.set_parts.ensures

pub returns : goal.returns
returns c = all_stored c.args.links.now c.requires c.loop-n.n c.loop-n.up c.loop-n.invariant (omega arith)
