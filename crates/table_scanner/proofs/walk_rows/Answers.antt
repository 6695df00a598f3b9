use mathlib.Core.Path.{◌≡◌, sym, ◌∙◌}
use mathlib.Core.Logic.{⊎_elim}
use Prim.Native.Nat.{◌+◌, ◌*◌}
use native.Mathlib.Omega.{arith}
use lib.ListN.{get_or}
use Rattle.lexer.specs.Table.{row_entries, match_by_rows}
use Rattle.lexer.specs.Alive.{row_bytes}
use Rattle.scanner.specs.Meaning.{told_of}
use Rattle.table_scanner.proofs.Front.{front_match, row-first, row-more, first_below, winner_read, winner_most}
use Rattle.table_scanner.proofs.Front.{match_all, match_stops, match_never}
use Rattle.table_scanner.proofs.Told.{behind_first, behind-more, behind-all, behind_stops, never_begins}
use Rattle.table_scanner.proofs.Told.{tells_nothing, tells_match, tells_vain}
use Rattle.table_scanner.proofs.walk_rows.Goals as goal
use Rattle.table_scanner.proofs.walk_rows.Lts as lts
use Rattle.table_scanner.proofs.walk_rows.Reads as reads

abbrev Lts-After-shared_slice_known-1 : Type 0
Lts-After-shared_slice_known-1 = lts.After-shared_slice_known reads.Pre reads.Post goal.the-invariant-loop-n goal.the-decreases-loop-n

abbrev Lts-At-loop-n : Type 0
Lts-At-loop-n = lts.At-loop reads.Pre reads.Post goal.the-invariant-loop-n goal.the-decreases-loop-n

abbrev Lts-Joined-next-row : Type 0
Lts-Joined-next-row = lts.Joined2 reads.Pre reads.Post goal.the-invariant-loop-n goal.the-decreases-loop-n

abbrev Lts-Left-loop-n : Type 0
Lts-Left-loop-n = lts.Left-loop reads.Pre reads.Post goal.the-invariant-loop-n goal.the-decreases-loop-n

pub returns-then-row-eq1 : goal.returns-then-row-eq1
unfolding told_of
returns-then-row-eq1 c =
    let a = c.args in
    tells_nothing a.table.now a.winners.now a.text.now (never_begins a.table.now a.text.now (omega arith) c.if-row-eq1.true)
    (match_never a.table.now a.winners.now a.text.now c.requires.1 (λ i. (c.shared_slice_known-1.given i).fits) (omega arith)
    c.if-row-eq1.true)

pub loop-n-init : goal.loop-n-init
loop-n-init c =
    let a = c.args in (
      row-first a.table.now a.text.now (omega arith),
      omega arith,
      omega arith,
      λ k. first_below k _ (c.shared_slice_known-1.given 0).fits,
      c.if-row-eq1.false,
      behind_first a.table.now a.text.now (omega arith) c.if-row-eq1.false,
    )

-- The row after the byte is the one that it leads to, also where that is the same. It is not row 1.
step-here : (c : Lts-Joined-next-row)
    → let l = c.loop-n in
    let a = c.args in
    (c.if-next-row.row ≡ get_or a.table.now (l.row * row_entries + get_or a.text.now l.n 0) 0) × (c.if-next-row.row ≡ 1 → ⊥)
step-here c =
    let l = c.loop-n in
    ⊎_elim (λ w. (w.row-is, λ e. w.if-next-eq1.false (sym w.row-is ∙ e))) (λ w. (w.row-is ∙ sym w.if-next-row.false, λ e. l.invariant.4 (sym w.row-is ∙ e))) c.if-next-row.branch-raw

pub loop-n-preserved : goal.loop-n-preserved
loop-n-preserved c =
    let l = c.loop-n in
    let a = c.args in
    let more = c.loop-n-test.true in
    let step = step-here c.before in (
      step.0 ∙ row-more a.table.now a.text.now l.row l.n more l.invariant.0,
      omega arith,
      omega arith,
      λ k. rw step.0 (k.next_row l.row _ (l.invariant.3 k) (c.shared_slice_known-1.given l.n).fits),
      step.1,
      behind-more a.table.now a.text.now l.row l.n _ more step.0 step.1 l.invariant.5,
    )

-- The walk has come to its end: the text's, or a byte that leads to row 1.
ended-here : (c : Lts-Left-loop-n)
    → let l = c.loop-n in
    let a = c.args in
    (l.n ≡ row_bytes a.table.now 0 a.text.now)
    × (front_match a.table.now a.winners.now a.text.now l.n
    ≡ match_by_rows a.table.now a.winners.now a.text.now)
ended-here c =
    let l = c.loop-n in
    let a = c.args in
    ⊎_elim
    (λ w. (
      behind-all a.table.now a.text.now l.row l.n w.loop-n-test.false l.invariant.5,
      match_all a.table.now a.winners.now a.text.now l.n w.loop-n-test.false,
    ))
    (λ w. (
      behind_stops a.table.now a.text.now l.row l.n w.loop-n-test.true w.if-next-eq1.true l.invariant.5,
      match_stops a.table.now a.winners.now a.text.now c.requires.1 (λ i. (c.shared_slice_known-1.given i).fits)
          l.row l.n w.loop-n-test.true l.invariant.0 w.if-next-eq1.true,
    ))
    c.loop-n-test.branch-raw

pub returns-then-winner-ne32 : goal.returns-then-winner-ne32
unfolding told_of
returns-then-winner-ne32 c =
    let l = c.loop-n in
    let a = c.args in
    let ended = ended-here c.before.before.before in
    tells_match a.table.now a.winners.now a.text.now l.row l.n l.invariant.1 l.invariant.2 l.invariant.0 ended.0 ended.1 _
    (winner_read c.requires.1 l.row (l.invariant.3 c.requires.1)) c.if-winner-ne32.true

pub returns : goal.returns
unfolding told_of
returns c =
    let l = c.loop-n in
    let a = c.args in
    let ended = ended-here c.before.before.before in
    tells_vain a.table.now a.winners.now a.text.now l.row l.n l.invariant.1 l.invariant.2 l.invariant.0 ended.0 ended.1 _
    (winner_read c.requires.1 l.row (l.invariant.3 c.requires.1)) c.if-winner-ne32.false

pub overflow_cast-result : goal.overflow_cast-result
overflow_cast-result c =
    let l = c.loop-n in
    let k = c.requires.1 in
    omega (arith, winner_most k l.row (l.invariant.3 k))
