use mathlib.Core.Path.{◌∙◌}
use Rattle.position_finder.proofs.Flags.{up-here, up_later, up_nowhere}
use Rattle.position_finder.proofs.first_up.Goals as goal

pub returns-then-flags-top : goal.returns-then-flags-top
returns-then-flags-top c =
    let z = c.args in
    let l = c.loop-k in
    λ up h n. up-here z.flags.now z.count up l.k h n c.loop-k-test.true c.if-flags-top.true ∙ l.invariant up h n

pub loop-k-preserved : goal.loop-k-preserved
loop-k-preserved c =
    let z = c.args in
    let l = c.loop-k in
    λ up h n. up_later z.flags.now z.count up l.k h n c.loop-k-test.true c.if-flags-top.false ∙ l.invariant up h n

pub returns : goal.returns
returns c =
    let z = c.args in
    let l = c.loop-k in
    λ up h n. up_nowhere z.flags.now z.count up l.k h n c.loop-k-test.false ∙ l.invariant up h n
