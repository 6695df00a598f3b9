use mathlib.Core.Path.{ap}
use mathlib.Core.List.{List}
use Prim.Native.Nat.{ℕ}
use native.Mathlib.Omega.{arith}
use lib.ListN.{length}
use lib.Seq.{get_or-drop}
use Rattle.lexer.proofs.laws.SetWalkLaws.{ones_members, first_member-below}
use Rattle.scanner.proofs.Walked.{walked_start, walked_step, walked_end}
use Rattle.scanner.proofs.follow_sets.Goals as goal

pub loop-left-init : goal.loop-left-init
loop-left-init c = (omega arith, walked_start _ _ (omega arith))

pub overflow_add-next : goal.overflow_add-next
overflow_add-next c = omega (arith, first_member-below _ _ _ c.lowest_first-step.ensures)

pub offset_bounds-tables-i : goal.offset_bounds-tables-i
offset_bounds-tables-i c = omega (arith, first_member-below _ _ _ c.lowest_first-step.ensures)

pub bounds-tables-i : goal.bounds-tables-i
bounds-tables-i c = omega (arith, first_member-below _ _ _ c.lowest_first-step.ensures)

pub loop-left-smaller : goal.loop-left-smaller
loop-left-smaller c =
    let s = c.loop-left.left in
    let u = c.lowest_first-step.result.others in
    omega (
      arith,
      ones_members s c.loop-left.invariant.0,
      ones_members u (omega arith),
      ap (λ (l : List ℕ). length l) c.lowest_first-step.ensures,
    )

pub loop-left-preserved : goal.loop-left-preserved
loop-left-preserved c =
    let l = c.loop-left in
    let a = c.args in (
      omega arith,
      rw (← get_or-drop 256 a.tables.now c.lowest_first-step.result.position 0)
          (walked_step _ _ l.left l.next _ _ c.lowest_first-step.ensures l.invariant.1),
    )

pub returns : goal.returns
returns c =
    let l = c.loop-left in
    walked_end _ _ l.left l.next c.loop-left-test.false l.invariant.1
