-- `vinzagew::vinzagew_run` meets its contract: the machine's promise, and three stores.
use mathlib.Core.Path.{ap, ◌∙◌}
use mathlib.Core.List.{List}
use Prim.Native.Nat.{ℕ}
use Rattle.machine.specs.Lent.{stack_alone, Ran}
use Rattle.image.specs.Answer.{numbers_of}
use Rattle.vinzagew.specs.Out.{out_after}
use Rattle.vinzagew.proofs.Laws.{out_short, same_short, after_long}
use Rattle.vinzagew.proofs.vinzagew_run.Goals as goal

pub returns-then-out-lt3 : goal.returns-then-out-lt3
returns-then-out-lt3 c =
    let z = c.args in
    let short = c.if-out-lt3.true in (out_short z.out.now _ short, same_short z.out.now _ (stack_alone z.stack.now) short)

pub returns : goal.returns
returns c =
    let z = c.args in
    let e = c.run-ran.ensures in
    let n = c.from.ensures ∙ ap (λ (r : Ran). numbers_of r.answer) e in (
      c.put.ensures ∙ ap (λ (l : List ℕ). out_after l z.out.now) n,
      ap (λ (r : Ran). r.left) e ∙ after_long z.out.now _ (stack_alone z.stack.now) c.if-out-lt3.false,
    )
