-- `run_table` meets its contract: 18, what reading answers, 19, or the run by the table that was built.
use mathlib.Core.Path.{refl, sym, ap, ◌∙◌}
use mathlib.Core.Logic.{inl, inr}
use Rattle.machine.specs.Lent.{with_scanner}
use Rattle.machine.specs.Runs.{Short}
use Rattle.machine.proofs.laws.RunsLaws.{run_short}
use Rattle.machine_turn.specs.Steps.{answer_held}
use Rattle.image_runner.proofs.Laws.{left_alone, long_both, built_from, run_over_rows, run_few_rows, with_rows}
use Rattle.image_runner.proofs.run_table.Goals as goal
use Rattle.image_runner.proofs.run_table.Goals.{then-table-lt-TABLE_ENTRIES-via-then-table-lt-TABLE_ENTRIES, then-table-lt-TABLE_ENTRIES-via-else-table-lt-TABLE_ENTRIES+then-winners-lt-WINNER_ENTRIES}

pub returns-then-table-lt-TABLE_ENTRIES : goal.returns-then-table-lt-TABLE_ENTRIES
unfolding answer_held
returns-then-table-lt-TABLE_ENTRIES c =
    let lent = with_scanner c.args.stack.now c.args.table.now c.args.winners.now in
    let short = elim c.then-table-lt-TABLE_ENTRIES.branch as (λ b. Short lent.scanner) [
      | then-table-lt-TABLE_ENTRIES-via-then-table-lt-TABLE_ENTRIES w ↦ inl w.if-table-lt-TABLE_ENTRIES.true
      | then-table-lt-TABLE_ENTRIES-via-else-table-lt-TABLE_ENTRIES+then-winners-lt-WINNER_ENTRIES w ↦ inr w.if-winners-lt-WINNER_ENTRIES.true
    ] in
    left_alone _ _ lent 18 0 (run_short _ _ lent short) c.answer.result (ap answer_held c.answer.ensures)

pub returns-then-not-few : goal.returns-then-not-few
unfolding answer_held
returns-then-not-few c =
    let r = c.in-Ok.ensures in
    let enough = long_both c.args.stack.now _ _ c.if-table-lt-TABLE_ENTRIES.false c.if-winners-lt-WINNER_ENTRIES.false in
    let x = built_from r.image r.decoded.first (c.build_table-few.ensures r.image.positions (r.decoded.positions r.in_range.never_falling)) in
    run_over_rows x _ _ c.if-not-few.true c.answer-then-not-few.result (ap answer_held c.answer-then-not-few.ensures)
    ∙ sym (r.runs _ enough)

pub run_read-requires : goal.run_read-requires
run_read-requires c =
    let r = c.in-Ok.ensures in
    let x = built_from r.image r.decoded.first (c.build_table-few.ensures r.image.positions (r.decoded.positions r.in_range.never_falling)) in (
      r.within,
      (
        r.image,
        with_rows _ _ r refl x c.if-not-few.false c.if-table-lt-TABLE_ENTRIES.false c.if-winners-lt-WINNER_ENTRIES.false
            c.build_table-few.auto.table c.build_table-few.auto.winners,
      ),
    )

pub returns : goal.returns
returns c =
    let r = c.in-Ok.ensures in
    let x = built_from r.image r.decoded.first (c.build_table-few.ensures r.image.positions (r.decoded.positions r.in_range.never_falling)) in
    let enough = long_both c.args.stack.now _ _ c.if-table-lt-TABLE_ENTRIES.false c.if-winners-lt-WINNER_ENTRIES.false in
    let held = with_rows _ _ r refl x c.if-not-few.false c.if-table-lt-TABLE_ENTRIES.false c.if-winners-lt-WINNER_ENTRIES.false
    c.build_table-few.auto.table c.build_table-few.auto.winners in
    let ran = c.run_read.ensures in
    run_few_rows x _ _ c.if-not-few.false c.run_read.result _ (ran.1 r.image held) ran.0 ∙ sym (r.runs _ enough)
