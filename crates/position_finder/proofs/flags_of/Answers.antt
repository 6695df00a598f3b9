use native.Mathlib.Omega.{arith}
use mathlib.Core.Path.{◌≡◌, subst}
use Prim.Native.Nat.{ℕ}
use Rattle.position_finder.proofs.Items.{Top}
use Rattle.position_finder.proofs.Flags.{Flagged, flagged_start, flag_turn, flagged_more, flagged_end}
use Rattle.position_finder.proofs.flags_of.Goals as goal
use Rattle.position_finder.proofs.flags_of.Goals.{In-loop-at}

-- What the witness tells at the start of a turn.
turn_at : (c : In-loop-at) → let l = c.loop-at in Top c.args.tag.now l.at l.top
turn_at c =
    let z = c.before.before in
    let l = c.loop-at in
    let w = z.requires in
    flag_turn _ _ w.0 _ l.flags _ w.1 c.loop-at-test.true l.auto.at (l.invariant w.0 w.1)

pub loop-at-init : goal.loop-at-init
loop-at-init c = λ rs h. flagged_start c.args.tag.now c.args.items rs h

pub bounds-flags-top : goal.bounds-flags-top
bounds-flags-top c = omega (arith, (turn_at c.before.before.before).most)

pub bounds-flags-top-in-loop-at : goal.bounds-flags-top-in-loop-at
bounds-flags-top-in-loop-at c = omega (arith, (turn_at c.before.before.before).most)

pub overflow_add-top : goal.overflow_add-top
overflow_add-top c = omega (arith, (turn_at c.before.before.before.before).most)

pub overflow_sub-top-in-loop-at : goal.overflow_sub-top-in-loop-at
overflow_sub-top-in-loop-at c = omega (arith, (turn_at c.before.before.before.before.before.before).parts_most, c.parts_of.ensures)

pub bounds-flags-top-in-loop-at-2 : goal.bounds-flags-top-in-loop-at-2
bounds-flags-top-in-loop-at-2 c = omega (arith, (turn_at c.before.before.before.before.before.before).most)

pub loop-at-preserved : goal.loop-at-preserved
loop-at-preserved c =
    let f = c.before.before.before in
    let i = f.before.before in
    let l = i.loop-at in
    let z = i.args in
    λ rs h. flagged_more z.tag.now z.items rs _ l.flags _ h i.loop-at-test.true l.auto.at (l.invariant rs h) _ _
    f.flag_of-flag.ensures c.parts_of.ensures

pub returns : goal.returns
returns c =
    let l = c.loop-at in
    let e : l.at ≡ 0 = omega arith in
    λ rs h. flagged_end rs l.flags l.top (subst (λ (n : ℕ). Flagged rs n l.flags l.top) e (l.invariant rs h))
