-- `leading_sets::union_of` meets its contract. The loop's invariant: what was joined, with the answer for the bytes that are left, is the
-- answer for the set. A word of 64 digits has eight bytes, so every place that is read is in the table.
use mathlib.Core.Path.{◌≡◌}
use mathlib.Core.List.{List}
use Prim.Native.Nat.{ℕ, ◌-◌, ◌*◌, ◌/◌, ◌%◌, ◌^◌, ◌≤◌, ◌<◌}
use lib.Bits.{bit_or}
use Rattle.leading_sets.specs.Leading.{leading_and_following, Unions}
use Rattle.leading_sets.proofs.union_of.Given as goal

-- Byte at / 256 of the two sets comes next.
pub record Joined (set start : ℕ) (unions : List ℕ) (left at joined : ℕ) : Type 0 where
  pub whole : (follow : List ℕ) → Unions follow unions
      → bit_or joined (leading_and_following follow (left * 256 ^ (at / 256))) ≡ leading_and_following follow (set * 256 ^ (start / 256))
  pub low : start ≤ 2048
  pub onward : start ≤ at
  pub bytes : (start % 256 ≡ 0) × (at % 256 ≡ 0)
  pub few : left * 256 ^ ((at - start) / 256) < 2 ^ 64

abbrev pub invariant-loop-left : goal.invariant-loop-left
invariant-loop-left l = Joined l.set l.start l.unions l.left l.at l.joined

abbrev pub decreases-loop-left : goal.decreases-loop-left
decreases-loop-left l = l.left
