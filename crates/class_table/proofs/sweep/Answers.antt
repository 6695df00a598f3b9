use mathlib.Core.Path.{refl}
use native.Mathlib.Omega.{arith}
use Rattle.class_table.proofs.Sweeping.{swept-start, swept_more}
use Rattle.class_table.proofs.sweep.Goals as goal

pub loop-byte-init : goal.loop-byte-init
loop-byte-init c = swept-start _ c.requires

pub loop-byte-preserved : goal.loop-byte-preserved
loop-byte-preserved c = swept_more _ _ _ _ _ c.loop-byte-test.true refl c.loop-byte.invariant

pub returns : goal.returns
returns c =
    let i = c.loop-byte.invariant in
    record { size = i.size; entries = λ b h. i.done b (omega arith); others = λ k h. i.left k (omega arith) }
