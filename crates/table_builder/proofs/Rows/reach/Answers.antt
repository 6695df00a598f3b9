use mathlib.Core.Path.{refl}
use mathlib.Core.Logic.{inl, inr}
use native.Mathlib.Omega.{arith}
use Rattle.table_builder.proofs.Reaching.{reached_start, reached_next, reached_end}
use Rattle.table_builder.proofs.Rows.reach.Goals as goal

pub loop-i-init : goal.loop-i-init
loop-i-init c = λ ps h.
    reached_start ps _ c.args.first _ h _ _ _ refl refl (λ so_far below m k. c.meet_row.ensures _ so_far below m k)

pub loop-i-preserved : goal.loop-i-preserved
loop-i-preserved c = λ ps h.
    let l = c.loop-i in
    reached_next ps _ c.args.first _ h l.rows.sets _ l.rows.count _ l.i (omega arith) c.loop-i-test.true c.if-rows-ge256.false
    (l.invariant ps h) _ c.follow_sets-held.ensures (λ so_far below m k. c.meet_row-in-loop-i.ensures _ so_far below m k)

pub returns-after-loop-i : goal.returns-after-loop-i
returns-after-loop-i c = λ ps h.
    let l = c.loop-i in
    reached_end ps _ c.args.first _ h l.rows.sets l.rows.count l.i (omega arith) (inl c.loop-i-test.false) (l.invariant ps h)

pub returns-then-rows-ge256 : goal.returns-then-rows-ge256
returns-then-rows-ge256 c = λ ps h.
    let l = c.loop-i in
    reached_end ps _ c.args.first _ h l.rows.sets l.rows.count l.i (omega arith) (inr c.if-rows-ge256.true) (l.invariant ps h)
