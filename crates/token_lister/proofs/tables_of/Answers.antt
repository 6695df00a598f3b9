-- `tables_of` meets its contract, since there are at most 64 positions.
use native.Mathlib.Omega.{arith}
use mathlib.Core.Path.{refl}
use Rattle.basics.proofs.laws.BitLaws.{shl_one}
use Rattle.class_table.proofs.laws.HoldingLaws.{holding_none}
use Rattle.token_lister.proofs.Tables.{few, held-more, all-swept}
use Rattle.token_lister.proofs.tables_of.Goals as goal

pub loop-i-init : goal.loop-i-init
loop-i-init c = (few c.args.positions c.requires.0 c.requires.1 c.requires.2, refl, holding_none)

pub loop-i-preserved : goal.loop-i-preserved
loop-i-preserved c =
    let w = c.requires in
    let i = c.loop-i.invariant in
    let joins = c.hold_position.ensures in (
      i.0,
      joins.size,
      held-more c.args.positions w.0 w.1 w.2 _ _ _ _ c.loop-i-test.true (shl_one _ (omega arith)) joins i.2,
    )

pub returns : goal.returns
returns c =
    let w = c.requires in
    all-swept c.args.positions w.0 w.1 w.2 c.loop-i.i _ _ (omega arith) c.loop-i.invariant.2 c.sweep.ensures
