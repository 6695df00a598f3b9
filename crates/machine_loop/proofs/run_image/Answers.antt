-- `run_image` meets its contract: the turns by walks, the rest, and then the stack is cleared.
use mathlib.Core.Path.{ap, ◌∙◌}
use Prim.Native.Nat.{ℕ}
use native.Mathlib.Omega.{arith}
use lib.ListN.{length, replicate}
use Rattle.machine.specs.Run.{trace}
use Rattle.buffers.proofs.laws.ClearedLaws.{cleared-all}
use Rattle.machine_loop.proofs.run_image.Goals as goal

pub run_on-ran-requires : goal.run_on-ran-requires
run_on-ran-requires c =
    let plain = c.before.before.before.before in
    let s = c.before.before.before.before.before.before.before.before in
    let a = s.args in
    let w = s.requires.1 in
    (s.requires.0, (w.0, trace w.0 (length a.stack.now) a.text.now, w.1, plain.run_plain-turned.ensures w.0 w.1))

pub returns : goal.returns
returns c =
    let cleared = c.before.before.before in
    let on = cleared.before.before.before.before in
    let plain = on.before.before.before.before in
    let left = on.run_on-ran.new.stack in (
      cleared.clear_front.ensures
          ∙ cleared-all (length left) left (omega arith)
          ∙ ap (λ (k : ℕ). replicate k 0) (on.run_on-ran.auto.stack ∙ plain.run_plain-turned.auto.stack),
      λ i w. on.run_on-ran.ensures i _ w (plain.run_plain-turned.ensures i w),
    )
