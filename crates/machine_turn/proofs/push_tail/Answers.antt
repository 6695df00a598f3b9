use mathlib.Core.Path.{◌≡◌, ap, ◌∙◌}
use mathlib.Core.List.{List}
use Prim.Native.Nat.{ℕ, ◌+◌, ◌-◌}
use native.Mathlib.Omega.{arith}
use lib.ListN.{length, set, get_or}
use Rattle.machine_turn.proofs.laws.StackLaws.{length-pushed}
use Rattle.machine_turn.proofs.Pushing.{push_start, push_more, push_end}
use Rattle.machine_turn.proofs.push_tail.Goals as goal
use Rattle.machine_turn.proofs.push_tail.Goals.{At-loop-left}

pub loop-left-init : goal.loop-left-init
loop-left-init c = (omega arith, omega arith, push_start c.args.image.now _ c.args.at c.args.size c.args.base)

pub overflow_add-stack : goal.overflow_add-stack
overflow_add-stack c = omega arith

pub bounds-image-at : goal.bounds-image-at
bounds-image-at c = omega arith

-- The stack keeps its length.
kept : (c : At-loop-left) → length c.loop-left.stack ≡ length c.args.stack.now
kept c = ap length c.loop-left.invariant.2 ∙ length-pushed c.args.stack.now _ _

pub loop-left-preserved : goal.loop-left-preserved
loop-left-preserved c =
    let turn = c.before.before in
    let l = turn.loop-left in
    let start = turn.before.before in
    let byte = get_or start.args.image.now (start.args.at + (l.left - 1)) 0 in (
      omega (arith, l.invariant.0),
      omega (arith, l.invariant.1, turn.loop-left-test.true),
      ap (λ (s : List ℕ). set s l.top byte) l.invariant.2
          ∙ push_more start.args.image.now _ _ _ _ l.left l.top turn.loop-left-test.true l.invariant.0 start.requires.0 l.invariant.1,
    )

pub returns : goal.returns
returns c = c.loop-left.invariant.2 ∙ push_end c.args.image.now _ _ _ _ c.loop-left.left c.loop-left-test.false
