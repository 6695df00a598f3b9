use borrow.Author.Rules.{rules}
use mathlib.Core.Path.{◌≡◌, refl, sym, ap, ◌∙◌}
use Prim.Native.Nat.{ℕ, ◌-◌, ◌<◌}
use native.Mathlib.Omega.{arith}
use lib.Bits.{bit_or, bit_and}
use lib.ListN.{length-set, get_or, drop}
use Rattle.lexer.specs.Alive.{alive}
use Rattle.leading_sets.specs.Leading.{leading}
use Rattle.alive_scanner.proofs.Remembered.{remembered_none, remembered_more}
use Rattle.alive_scanner.proofs.Passes.{passed_start, passed_step}
use Rattle.alive_scanner.proofs.fill_block.Goals as goal

pub loop-q-init : goal.loop-q-init
loop-q-init c =
    let a = c.args in
    let z = c.requires in (
      omega (arith, z.0),
      omega arith,
      z.3,
      remembered_none a.given.now.last a.given.now.unions.now,
      λ ps w e. passed_start ps a.given.now.text.now a.to a.given.now.last a.given.now.tables.now a.block.now a.after _ e
          (c.held_before-held.ensures _ w.unions_held),
    )

pub loop-q-preserved-then-next-sets : goal.loop-q-preserved-then-next-sets
loop-q-preserved-then-next-sets c =
    let l = c.loop-q in
    let a = c.args in
    let small : get_or a.given.now.text.now (l.q - 1) 0 < 256 = search rules in (
      omega arith,
      omega arith,
      simp length-set l.invariant.2,
      remembered_more a.given.now.last a.given.now.unions.now l.sets l.held_sets (get_or a.given.now.text.now (l.q - 1) 0) _ _ small c.held_before-held-then-next-sets.ensures l.invariant.3,
      λ ps w e. passed_step ps a.given.now.text.now a.to a.given.now.last a.given.now.tables.now a.given.now.unions.now l.block w l.q (l.q - 1) l.set l.held _ _
          (omega arith) (omega arith) (omega (arith, c.requires.2)) l.invariant.2 small refl
          (c.held_before-held-then-next-sets.ensures _ w.unions_held) (l.invariant.4 ps w e),
    )

pub loop-q-preserved-else-next-sets : goal.loop-q-preserved-else-next-sets
loop-q-preserved-else-next-sets c =
    let l = c.loop-q in
    let a = c.args in
    let small : get_or a.given.now.text.now (l.q - 1) 0 < 256 = search rules in (
      omega arith,
      omega arith,
      simp length-set l.invariant.2,
      l.invariant.3,
      λ ps w e. passed_step ps a.given.now.text.now a.to a.given.now.last a.given.now.tables.now a.given.now.unions.now l.block w l.q (l.q - 1) l.set l.held _ _
          (omega arith) (omega arith) (omega (arith, c.requires.2)) l.invariant.2 small refl
          (l.invariant.3.held_of _ w.unions_held _ small ∙ ap (λ (x : ℕ). bit_or a.given.now.last (leading (drop 256 a.given.now.tables.now) x)) (sym c.if-next-sets.false))
          (l.invariant.4 ps w e),
    )

pub loop-q-preserved : goal.loop-q-preserved
loop-q-preserved c =
    let l = c.loop-q in
    let a = c.args in (
      omega arith,
      omega arith,
      simp length-set l.invariant.2,
      l.invariant.3,
      λ ps w e.
          let old = l.invariant.4 ps w e in
          let here = c.if-next-set.false in
          rw (← here)
          (passed_step ps a.given.now.text.now a.to a.given.now.last a.given.now.tables.now a.given.now.unions.now l.block w l.q (l.q - 1) l.set l.held
          (bit_and l.held (get_or a.given.now.tables.now (get_or a.given.now.text.now (l.q - 1) 0) 0)) l.held
          (omega arith) (omega arith) (omega (arith, c.requires.2)) l.invariant.2 (search rules) refl
          (rw here old.held_now) old),
    )

pub returns : goal.returns
returns c =
    let l = c.loop-q in
    let a = c.args in
    let e : l.q ≡ a.from = omega arith in (
      l.invariant.2,
      λ ps w h.
          let x = l.invariant.4 ps w h in
          (x.alive_now ∙ ap (λ (k : ℕ). alive ps (drop k a.given.now.text.now)) e, λ q m n. x.filled q (omega arith) n),
    )
