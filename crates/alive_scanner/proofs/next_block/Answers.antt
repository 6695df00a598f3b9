-- `next_block` meets its contract.
use mathlib.Core.Path.{sym, ap, ◌∙◌}
use Prim.Native.Nat.{ℕ, ◌+◌, ◌*◌, ◌/◌}
use native.Mathlib.Omega.{arith}
use lib.ListN.{drop}
use Rattle.lexer.specs.Alive.{alive}
use Rattle.alive_scanner.proofs.Passes.{alive-min}
use Rattle.alive_scanner.proofs.next_block.Goals as goal

pub returns : goal.returns
returns c =
    let a = c.args in
    let e = c.fill_block.ensures in
    let to = c.min-filled.ensures in (
      omega arith,
      omega arith,
      e.0,
      λ ps k w m h q inside below near.
          let after =
          m (a.place / 1024) (omega arith) (omega arith) ∙ sym (alive-min ps a.given.now.text.now (a.place / 1024 * 1024 + 1024))
          ∙ ap (λ (x : ℕ). alive ps (drop x a.given.now.text.now)) (sym to) in
          (e.1 ps w after).1 q (omega arith) (omega (arith, to)),
    )
