use native.Mathlib.Omega.{arith}
use Prim.Native.Nat.{◌-◌}
use lib.Bits.{and_le_l}
use Rattle.basics.proofs.laws.LowestMember.{lowest, ones_cleared}
use Rattle.position_finder.proofs.Changes.{joined_start, joined_step, joined_end}
use Rattle.position_finder.proofs.join_follow.Goals as goal

pub loop-left-init : goal.loop-left-init
loop-left-init c = (c.requires, omega arith, joined_start _ _ _ c.requires)

pub loop-left-smaller : goal.loop-left-smaller
loop-left-smaller c =
    let l = c.loop-left in
    omega (arith, ones_cleared 64 l.left _ (lowest 64 l.left c.loop-left-test.true l.invariant.1))

pub loop-left-preserved : goal.loop-left-preserved
loop-left-preserved c =
    let l = c.loop-left in (
      l.invariant.0,
      omega (arith, and_le_l l.left (l.left - 1), l.invariant.1),
      joined_step _ _ _ l.invariant.0 l.left l.follow c.loop-left-test.true l.invariant.1 l.invariant.2,
    )

pub returns : goal.returns
returns c = let l = c.loop-left in joined_end _ _ _ l.invariant.0 l.left _ c.loop-left-test.false l.invariant.2
