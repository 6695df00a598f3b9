use mathlib.Core.Path.{◌≡◌, refl, sym, ap, ◌∙◌}
use Prim.Native.Nat.{ℕ, ◌+◌, ◌*◌, ◌<◌}
use native.Mathlib.Omega.{arith}
use lib.ListN.{get_or}
use Rattle.lexer.specs.Match.{no_match, longer}
use Rattle.lexer.specs.Table.{row_entries, winning}
use Rattle.scanner.specs.Meaning.{match_of}
use Rattle.table_scanner.specs.Rows.{RowsIn}
use Rattle.table_scanner.proofs.Front.{front_row, front_match, row-none, row-more, match_none, match_all, match_more}
use Rattle.table_scanner.proofs.Front.{winner_read, winner_most, noted-none, noted_new, noted-old}
use Rattle.table_scanner.proofs.match_by_rows.Goals as goal
use Rattle.table_scanner.proofs.match_by_rows.Lts as lts
use Rattle.table_scanner.proofs.match_by_rows.Reads as reads

abbrev Lts-After-shared_slice_known-1 : Type 0
Lts-After-shared_slice_known-1 = lts.After-shared_slice_known reads.Pre reads.Post goal.the-invariant-loop-n goal.the-decreases-loop-n

pub loop-n-init : goal.loop-n-init
loop-n-init c =
    let a = c.args in (
      noted-none ∙ match_none a.table.now a.winners.now a.text.now,
      row-none a.table.now a.text.now,
      omega arith,
      λ k. omega (arith, k.two_rows),
      omega arith,
    )

-- The row that the byte leads to is one of the rows.
next_below : (c : Lts-After-shared_slice_known-1)
    → let l = c.loop-n in
    let a = c.args in
    (k : RowsIn a.table.now a.winners.now)
    → get_or a.table.now (l.row * row_entries + get_or a.text.now l.n 0) 0 < k.row_count
next_below c k =
    let l = c.loop-n in
    k.next_row l.row _ (l.invariant.3 k) (c.shared_slice_known-1.given l.n).fits

-- The match with the byte's, by the winner as it is read.
match-next : (c : Lts-After-shared_slice_known-1)
    → let l = c.loop-n in
    let a = c.args in
    let next = get_or a.table.now (l.row * row_entries + get_or a.text.now l.n 0) 0 in
    longer (winning (get_or a.winners.now next 0)) (l.n + 1) (front_match a.table.now a.winners.now a.text.now l.n)
    ≡ front_match a.table.now a.winners.now a.text.now (l.n + 1)
match-next c =
    let l = c.loop-n in
    let s = c.before.before.before in
    let a = s.args in
    ap (λ (w : ℕ). longer (winning w) (l.n + 1) (front_match a.table.now a.winners.now a.text.now l.n))
    (winner_read s.requires _ (next_below c s.requires))
    ∙ match_more a.table.now a.winners.now a.text.now l.row l.n _ c.loop-n-test.true l.invariant.1 refl

row_next : (c : Lts-After-shared_slice_known-1)
    → let l = c.loop-n in
    let a = c.args in
    get_or a.table.now (l.row * row_entries + get_or a.text.now l.n 0) 0 ≡ front_row a.table.now a.text.now (l.n + 1)
row_next c =
    let l = c.loop-n in
    let a = c.args in
    row-more a.table.now a.text.now l.row l.n c.loop-n-test.true l.invariant.1

pub loop-n-preserved-then-latest-ne32 : goal.loop-n-preserved-then-latest-ne32
loop-n-preserved-then-latest-ne32 c =
    let known = c.before.before.before.before in
    let k = known.requires in (
      sym (noted_new _ _ no_match c.if-latest-ne32.true) ∙ noted_new _ _ _ c.if-latest-ne32.true ∙ match-next known,
      row_next known,
      omega arith,
      next_below known,
      winner_most k _ (next_below known k),
    )

pub loop-n-preserved : goal.loop-n-preserved
loop-n-preserved c =
    let known = c.before.before.before.before in
    let l = known.loop-n in (
      l.invariant.0 ∙ noted-old _ _ _ c.if-latest-ne32.false ∙ match-next known,
      row_next known,
      omega arith,
      next_below known,
      l.invariant.4,
    )

pub returns : goal.returns
unfolding match_of
returns c = noted_new _ _ no_match c.if-winner-eq32.false ∙ (c.loop-n.invariant.0 ∙ match_all c.args.table.now c.args.winners.now c.args.text.now _ c.loop-n-test.false)

pub returns-then-winner-eq32 : goal.returns-then-winner-eq32
unfolding match_of
returns-then-winner-eq32 c = noted-old _ _ no_match c.if-winner-eq32.true ∙ (c.loop-n.invariant.0 ∙ match_all c.args.table.now c.args.winners.now c.args.text.now _ c.loop-n-test.false)
