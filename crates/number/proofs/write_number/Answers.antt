-- `number::write_number` meets its contract: the width tells whether the part is too short.
use borrow.Author.Rules.{rules}
use native.Mathlib.Omega.{arith}
use Rattle.number.proofs.Writing.{number_fits, number_short}
use Rattle.number.proofs.write_number.Goals as goal

pub number_width-width-requires : goal.number_width-width-requires
number_width-width-requires c = search rules

pub returns-then-part-width : goal.returns-then-part-width
returns-then-part-width c = number_short c.args.part.now _ c.number_width-width.ensures c.if-part-width.true

pub write_groups-requires : goal.write_groups-requires
write_groups-requires c = search rules

pub shape_of-part : goal.shape_of-part
shape_of-part c = search rules

pub returns : goal.returns
returns c = let z = c.before.before.before.before.before.before.before.before in
    let w = c.before.before.before.before.before in
    let e = c.write_groups.ensures in
    number_fits z.args.part.now z.args.n w.number_width-width.ensures e (omega (arith, w))
