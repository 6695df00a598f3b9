-- `build_table` meets its contract: the rows tell whether there are too many, and nothing is written before.
use mathlib.Core.Path.{refl, sym}
use native.Mathlib.Omega.{arith}
use borrow.Author.Tests.{le-leb, lt-leb}
use Rattle.table_builder.proofs.Meeting.{few_rows, many_rows}
use Rattle.table_builder.proofs.build_table.Goals as goal

pub returns-then-rows-ge256 : goal.returns-then-rows-ge256
returns-then-rows-ge256 c = λ ps h.
    (sym (lt-leb _ 256 (many_rows _ _ _ _ (omega arith) (c.reach-rows.ensures ps h))), refl, refl)

pub fill_table-requires : goal.fill_table-requires
fill_table-requires c =
    let p = c.requires.0 in
    ((p.0, p.1, (few_rows _ _ _ _ c.if-rows-ge256.false (c.reach-rows.ensures p.0 p.1)).0), c.requires.1)

pub fill_winners-requires : goal.fill_winners-requires
fill_winners-requires c =
    let p = c.requires.0 in
    ((p.0, p.1, (few_rows _ _ _ _ c.if-rows-ge256.false (c.reach-rows.ensures p.0 p.1)).0), c.requires.2)

pub returns : goal.returns
returns c = λ ps h.
    let few = few_rows _ _ _ _ c.if-rows-ge256.false (c.reach-rows.ensures ps h) in
    (sym (le-leb _ 256 few.1), c.fill_table.ensures ps h few.0, c.fill_winners.ensures ps h few.0)
