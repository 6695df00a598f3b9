use borrow.Author.Rules.{rules}
use native.Mathlib.Omega.{arith}
use Rattle.descent_table.proofs.laws.TableLaws.{links_fit}
use Rattle.descent_table.proofs.Rows.{filled_first, filled_next, all_filled}
use Rattle.descent_table.proofs.descent_table.Goals as goal

pub nearest_above-up-requires : goal.nearest_above-up-requires
nearest_above-up-requires c = links_fit c.args.links c.args.types c.requires.0 c.requires.1

pub loop-n-init : goal.loop-n-init
loop-n-init c = filled_first c.args.links c.args.types c.nearest_above-up.result

pub loop-n-preserved : goal.loop-n-preserved
loop-n-preserved c =
    filled_next c.args.links c.args.types c.nearest_above-up.result c.loop-n.n c.loop-n.table c.loop-n.invariant
    c.requires.1.links_most c.loop-n-test.true c.from.result (rw (← c.has-null.ensures) (search rules)) c.put_row.new.table
    c.put_row.ensures

pub returns : goal.returns
returns c e h =
    all_filled c.args.links c.args.types c.nearest_above-up.result c.loop-n.n c.loop-n.table c.loop-n.invariant
    (omega arith) e h (c.nearest_above-up.ensures e h.linked)
