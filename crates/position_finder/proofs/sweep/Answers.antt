use native.Mathlib.Omega.{arith}
use Rattle.position_finder.proofs.SweepLoop.{swept-start, Turn, turn, swept_more, swept_stack, swept_end}
use Rattle.position_finder.proofs.sweep.Goals as goal
use Rattle.position_finder.proofs.sweep.Goals.{In-loop-at, After-loop-at}

-- What the witness tells at the start of a turn.
turn_at : (c : In-loop-at)
    → let l = c.loop-at in Turn c.args.tag.now l.at l.stack l.follow l.top l.base
turn_at c =
    let z = c.before.before in
    let l = c.loop-at in
    let w = z.requires in
    turn _ _ _ w.0 _ _ _ _ _ w.1 c.loop-at-test.true l.auto.at (l.invariant w.0 w.1)

pub loop-at-init : goal.loop-at-init
loop-at-init c = λ rs h. swept-start c.args.tag.now c.args.items c.args.classes rs h

pub offset_bounds-stack-top : goal.offset_bounds-stack-top
offset_bounds-stack-top c = omega (arith, (turn_at c.before.before.before).at_top.most)

pub bounds-stack-top : goal.bounds-stack-top
bounds-stack-top c = omega (arith, (turn_at c.before.before.before).at_top.most)

pub offset_bounds-stack-top-in-loop-at : goal.offset_bounds-stack-top-in-loop-at
offset_bounds-stack-top-in-loop-at c = omega (arith, (turn_at c.before.before.before.before).at_top.most)

pub bounds-stack-top-in-loop-at : goal.bounds-stack-top-in-loop-at
bounds-stack-top-in-loop-at c = omega (arith, (turn_at c.before.before.before.before).at_top.most)

pub node_of-node-requires : goal.node_of-node-requires
node_of-node-requires c = let t = turn_at c.before.before.before.before.before in (t.base_most, t.base_least)

pub overflow_add-top : goal.overflow_add-top
overflow_add-top c = omega (arith, (turn_at c.before.before.before.before.before.before.before.before).at_top.most)

pub overflow_sub-top-in-loop-at : goal.overflow_sub-top-in-loop-at
overflow_sub-top-in-loop-at c =
    let t = (turn_at c.before.before.before.before.before.before.before.before.before.before).at_top in
    omega (arith, t.parts_most, c.parts_of.ensures)

pub offset_bounds-stack-top-in-loop-at-2 : goal.offset_bounds-stack-top-in-loop-at-2
offset_bounds-stack-top-in-loop-at-2 c = omega (arith, (turn_at c.before.before.before.before.before.before.before.before.before.before.before).at_top.most)

pub bounds-stack-top-in-loop-at-2 : goal.bounds-stack-top-in-loop-at-2
bounds-stack-top-in-loop-at-2 c = omega (arith, (turn_at c.before.before.before.before.before.before.before.before.before.before.before).at_top.most)

pub loop-at-preserved : goal.loop-at-preserved
loop-at-preserved c =
    let p = c.before.before in
    let f = p.before.before in
    let n = f.before.before in
    let i = n.before.before.before.before in
    let l = i.loop-at in
    let z = i.args in
    λ rs h. swept_more z.tag.now z.items z.classes rs _ _ _ _ _ h i.loop-at-test.true l.auto.at (l.invariant rs h)
    n.node_of-node.result _ _ n.node_of-node.ensures f.join_follow.ensures p.parts_of.ensures

pub rule_sets-sets-requires : goal.rule_sets-sets-requires
rule_sets-sets-requires c =
    let l = c.loop-at in
    let w = c.requires in
    (w.0, swept_stack w.0 l.at l.stack l.follow l.top l.base (omega arith) (l.invariant w.0 w.1) _ _ _ _ w.1 w.2)

pub returns : goal.returns
returns c =
    let l = c.loop-at in
    λ rs h counted.
    swept_end rs l.at l.stack l.follow l.top l.base (omega arith) (l.invariant rs h) c.rule_sets-sets.result
    (c.rule_sets-sets.ensures rs (swept_stack rs l.at l.stack l.follow l.top l.base (omega arith) (l.invariant rs h) _ _ _ _ h counted))
