-- `vinzagew::vinzagew_write` meets its contract: writing's promise, and three stores.
use mathlib.Core.Path.{ap, ◌∙◌}
use mathlib.Core.List.{List}
use Prim.Native.Nat.{ℕ}
use Rattle.image.specs.Answer.{numbers_of}
use Rattle.vinzagew.specs.Out.{out_after}
use Rattle.vinzagew.proofs.Laws.{out_short, same_short, after_long}
use Rattle.vinzagew.proofs.vinzagew_write.Goals as goal

pub returns-then-out-lt3 : goal.returns-then-out-lt3
returns-then-out-lt3 c =
    let z = c.args in
    let short = c.if-out-lt3.true in
    (out_short z.out.now _ short, same_short z.out.now _ z.image.now short, same_short z.out.now _ z.work.now short)

pub returns : goal.returns
returns c =
    let z = c.args in
    let k = c.write-written.ensures in
    let n = c.from.ensures ∙ ap numbers_of k.3 in (
      c.put.ensures ∙ ap (λ (l : List ℕ). out_after l z.out.now) n,
      k.1 ∙ after_long z.out.now _ z.image.now c.if-out-lt3.false,
      k.2 ∙ after_long z.out.now _ z.work.now c.if-out-lt3.false,
    )
