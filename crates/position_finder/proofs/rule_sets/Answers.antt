use native.Mathlib.Omega.{arith}
use mathlib.Core.Path.{refl}
use Rattle.position_finder.proofs.Changes.{filled_part}
use Rattle.position_finder.proofs.RuleLoops.{end_least, end_most, gathering_more, gathering_end}
use Rattle.position_finder.proofs.rule_sets.Goals as goal

pub slice_bounds-fill-count : goal.slice_bounds-fill-count
slice_bounds-fill-count c =
    let l = c.loop-k in
    let w = c.requires in
    end_least c.args.stack.now c.args.count w.0 _ _ _ _ _ w.1 c.loop-k-test.true (l.invariant w.0 w.1)

pub slice_bounds-rule-start : goal.slice_bounds-rule-start
slice_bounds-rule-start c =
    let l = c.loop-k in
    let w = c.requires in
    end_least c.args.stack.now c.args.count w.0 _ _ _ _ _ w.1 c.loop-k-test.true (l.invariant w.0 w.1)

pub slice_bounds-rule-end : goal.slice_bounds-rule-end
slice_bounds-rule-end c =
    let l = c.loop-k in
    let w = c.requires in
    let most = end_most c.args.stack.now c.args.count w.0 _ _ _ _ _ w.1 c.loop-k-test.true (l.invariant w.0 w.1) in
    omega (arith, most, c.type_inv.rule)

pub loop-k-preserved : goal.loop-k-preserved
loop-k-preserved c =
    let z = c.args in
    let l = c.loop-k in
    let t = c.loop-k-test.true in
    λ rs h.
    let g = l.invariant rs h in
    let least = end_least z.stack.now z.count rs _ _ _ _ _ h t g in
    let most = end_most z.stack.now z.count rs _ _ _ _ _ h t g in
    gathering_more z.stack.now z.count rs _ _ _ _ _ h t g _ _ refl
    (filled_part _ _ l.k _ c.fill.new.self least (omega (arith, most, g.rule_size)) (c.fill.ensures.after (λ y e. e)))

pub returns : goal.returns
returns c =
    let z = c.args in
    let l = c.loop-k in
    λ rs h. gathering_end z.stack.now z.count rs _ _ _ _ _ h c.loop-k-test.false (l.invariant rs h)
