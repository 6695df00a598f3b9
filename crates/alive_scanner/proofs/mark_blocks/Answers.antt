use Prim.Native.Nat.{◌+◌, ◌-◌, ◌*◌, ◌/◌, ◌≤◌}
use native.Mathlib.Omega.{arith}
use lib.ListN.{length, length-set}
use Rattle.alive_scanner.proofs.Passes.{marked_start, marked_step}
use Rattle.alive_scanner.proofs.mark_blocks.Goals as goal

pub loop-k-init : goal.loop-k-init
loop-k-init c =
    let a = c.args in
    let z = c.requires in
    let far : length a.given.now.text.now ≤ (length a.given.now.text.now + 1023) / 1024 * 1024 = omega arith in (
      omega (arith, z.0),
      omega arith,
      far,
      omega arith,
      z.1,
      z.2,
      λ ps w. marked_start ps a.given.now.text.now a.marks.now ((length a.given.now.text.now + 1023) / 1024) far,
    )

pub loop-k-preserved : goal.loop-k-preserved
loop-k-preserved c =
    let l = c.loop-k in
    let a = c.args in (
      omega arith,
      omega arith,
      omega arith,
      omega arith,
      simp length-set l.invariant.4,
      c.fill_block-set.ensures.0,
      λ ps w.
          let old = l.invariant.6 ps w in
          marked_step ps a.given.now.text.now l.marks l.k (l.k - 1) l.end l.set _ (omega arith) (omega arith)
          (c.fill_block-set.ensures.1 ps w old.at_end).0 old,
    )

pub returns : goal.returns
returns c =
    let l = c.loop-k in
    (l.invariant.4, l.invariant.5, λ ps w j h m. (l.invariant.6 ps w).marked j (omega arith) m)
