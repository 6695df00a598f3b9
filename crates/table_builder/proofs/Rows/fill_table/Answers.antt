use borrow.Author.Rules.{rules}
use mathlib.Core.Path.{◌∙◌}
use native.Mathlib.Omega.{arith}
use Rattle.table_builder.proofs.Filling.{empty_first, first-written, next-written, all-written}
use Rattle.table_builder.proofs.Rows.fill_table.Goals as goal

pub fill_row-requires : goal.fill_row-requires
fill_row-requires c =
    let w = c.requires.0 in
    (empty_first w.0 _ c.args.first _ w.1 _ _ w.2 (search rules), omega (arith, c.requires.1))

pub fill_row-requires-in-loop-i : goal.fill_row-requires-in-loop-i
fill_row-requires-in-loop-i c =
    let w = c.requires.0 in (
      empty_first w.0 _ c.args.first _ w.1 _ _ w.2 (search rules),
      omega (arith, w.2.few, c.loop-i-test.true, c.loop-i.invariant.0, c.fill_row.auto.table, c.requires.1),
    )

pub loop-i-preserved : goal.loop-i-preserved
loop-i-preserved c =
    let l = c.loop-i in (
      c.fill_row-in-loop-i.auto.table ∙ l.invariant.0,
      λ ps h k buffer w. next-written ps _ c.args.first _ h _ _ k (search rules) buffer l.table _ l.i _ c.loop-i-test.true
          c.follow_sets-held.ensures (l.invariant.1 ps h k buffer w) c.fill_row-in-loop-i.ensures,
    )

pub returns : goal.returns
returns c = λ ps h k.
    let l = c.loop-i in
    let table = c.args.table.now in
    all-written ps _ c.args.first _ h _ _ k (search rules) table l.table l.i (omega arith) c.loop-i-test.false
    (l.invariant.1 ps h k table
    (first-written ps _ c.args.first _ h _ _ k (search rules) table _ (omega (arith, c.requires.1)) c.fill_row.ensures))
