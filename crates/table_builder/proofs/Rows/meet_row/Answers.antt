use mathlib.Core.Path.{◌≡◌, subst}
use Prim.Native.Nat.{ℕ}
use native.Mathlib.Omega.{arith}
use Rattle.basics.specs.Meeting.{meet_all}
use Rattle.table_builder.specs.Rows.{RowsHeld, sets_by}
use Rattle.table_builder.proofs.Meeting.{joined_start, joined_same, joined_other}
use Rattle.table_builder.proofs.Rows.meet_row.Goals as goal
use Rattle.table_builder.proofs.Rows.meet_row.Goals.{then-set-before, else-set-before}

pub loop-byte-init : goal.loop-byte-init
loop-byte-init c = λ start met below m h. joined_start start met _ _ _ _ m h

pub loop-byte-preserved : goal.loop-byte-preserved
loop-byte-preserved c =
    let l = c.loop-byte in
    elim c.if-set-before.branch [
      | then-set-before w ↦ rw (w.self-is, w.before-is) (λ start met below m h.
          joined_other start met _ _ _ _ _ _ _ l.byte
          (λ r. w.meet_set.ensures start _ (below l.byte c.loop-byte-test.true) r) (l.invariant start met below m h))
      | else-set-before w ↦ rw (w.self-is, w.before-is) (λ start met below m h.
          joined_same start met _ _ _ _ _ l.byte w.if-set-before.false (l.invariant start met below m h))
    ]

pub returns : goal.returns
returns c = λ start met below m h.
    let l = c.loop-byte in
    let a = c.args in
    subst (λ (k : ℕ). RowsHeld start l.self.sets l.self.count (meet_all met (sets_by a.tables.now a.held k)))
    (let z : l.byte ≡ 256 = omega arith in z) (l.invariant start met below m h).rows
