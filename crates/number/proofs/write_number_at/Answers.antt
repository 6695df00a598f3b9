-- `number::write_number_at` meets its contract: the part from the cursor on is lent, and comes back written.
use borrow.Author.Rules.{rules}
use native.Mathlib.Omega.{arith}
use Rattle.number.proofs.Writing.{cursor_past, cursor_within}
use Rattle.number.proofs.write_number_at.Goals as goal

pub returns-then-image-at : goal.returns-then-image-at
returns-then-image-at c = cursor_past c.args.image.now _ _ c.if-image-at.true

pub slice_bounds-write_number-count : goal.slice_bounds-write_number-count
slice_bounds-write_number-count c = search rules

pub slice_bounds-write_number-start : goal.slice_bounds-write_number-start
slice_bounds-write_number-start c = search rules

pub slice_bounds-write_number-end : goal.slice_bounds-write_number-end
slice_bounds-write_number-end c = search rules

pub write_number-requires : goal.write_number-requires
write_number-requires c = search rules

pub shape_of-image : goal.shape_of-image
shape_of-image c = search rules

pub returns : goal.returns
returns c = let z = c.before.before.before.before.before.before.before in
    let e = c.write_number.ensures in
    cursor_within z.args.image.now z.args.at z.args.n (omega (arith, c.before.before.before.before.before.before)) e.0 e.1
