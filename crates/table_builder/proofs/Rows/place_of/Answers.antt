use borrow.Author.Rules.{rules}
use native.Mathlib.Omega.{arith}
use Rattle.table_builder.proofs.Meeting.{place_here, place_later, place_none}
use Rattle.table_builder.proofs.Rows.place_of.Goals as goal

pub returns-then-self-i : goal.returns-then-self-i
returns-then-self-i c =
    let s = c.args.self.now in
    let here = place_here s.sets s.count c.args.set c.loop-i.i (search rules) c.loop-i-test.true c.if-self-i.true in
    omega (arith, c.loop-i.invariant, here)

pub loop-i-preserved : goal.loop-i-preserved
loop-i-preserved c =
    let s = c.args.self.now in
    let later = place_later s.sets s.count c.args.set c.loop-i.i (search rules) c.loop-i-test.true c.if-self-i.false in
    omega (arith, c.loop-i.invariant, later)

pub returns : goal.returns
returns c =
    let s = c.args.self.now in
    let none = place_none s.sets s.count c.args.set c.loop-i.i (search rules) c.loop-i-test.false in
    omega (arith, c.loop-i.invariant, none)
