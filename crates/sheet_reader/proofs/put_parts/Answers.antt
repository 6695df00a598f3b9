-- `sheet_reader::put_parts` meets its contract.
use borrow.Author.Tests.{eq-eqb, ne_eqb, lt-ltb, le-ltb}
use Rattle.sheet_reader.specs.Put.{with_parts}
use Rattle.sheet_reader.proofs.put_parts.Goals as goal

pub returns-then-tag-eq5 : goal.returns-then-tag-eq5
unfolding with_parts
returns-then-tag-eq5 c = let t = c.args.tag in simp (eq-eqb t 5 c.if-tag-eq5.true)

pub returns-then-tag-eq7 : goal.returns-then-tag-eq7
unfolding with_parts
returns-then-tag-eq7 c = let t = c.args.tag in simp (ne_eqb t 5 c.if-tag-eq5.false, eq-eqb t 7 c.if-tag-eq7.true)

pub returns-then-tag-lt3 : goal.returns-then-tag-lt3
unfolding with_parts
returns-then-tag-lt3 c =
    let t = c.args.tag in
    simp (ne_eqb t 5 c.if-tag-eq5.false, ne_eqb t 7 c.if-tag-eq7.false, lt-ltb t 3 c.if-tag-lt3.true)

pub returns-then-tag-eq6 : goal.returns-then-tag-eq6
unfolding with_parts
returns-then-tag-eq6 c =
    let t = c.args.tag in
    simp (ne_eqb t 5 c.if-tag-eq5.false, ne_eqb t 7 c.if-tag-eq7.false, le-ltb t 3 c.if-tag-lt3.false, eq-eqb t 6 c.if-tag-eq6.true)

pub returns : goal.returns
unfolding with_parts
returns c =
    let t = c.args.tag in
    simp (ne_eqb t 5 c.if-tag-eq5.false, ne_eqb t 7 c.if-tag-eq7.false, le-ltb t 3 c.if-tag-lt3.false, ne_eqb t 6 c.if-tag-eq6.false)
