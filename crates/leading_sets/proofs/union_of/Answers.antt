use mathlib.Core.Path.{◌≡◌, sym, ap, ap₂, ◌∙◌}
use mathlib.Core.List.{List}
use Prim.Native.Nat.{ℕ, suc, ◌+◌, ◌-◌, ◌*◌, ◌/◌, ◌%◌, ◌^◌, ◌≤◌, ◌<◌}
use native.Mathlib.Omega.{arith}
use lib.Bits.{bit_or, or_zero_l, or_zero_r}
use lib.ListN.{get_or}
use Rattle.basics.proofs.laws.BitLaws.{or_assoc}
use Rattle.leading_sets.specs.Leading.{leading_and_following, Unions}
use Rattle.leading_sets.proofs.laws.LeadingLaws.{both_join, bytes_joined, bytes_few, bytes_fewer}
use Rattle.leading_sets.proofs.union_of.Invariants.{Joined}
use Rattle.leading_sets.proofs.union_of.Goals as goal

joined-none : (set start : ℕ) (unions : List ℕ) → set < 2 ^ 64 → start ≤ 2048 → start % 256 ≡ 0 → Joined set start unions set start 0
joined-none set start unions h l b =
    let none : (start - start) / 256 ≡ 0 = omega arith in record {
      whole = λ follow u. or_zero_l (leading_and_following follow (set * 256 ^ (start / 256)));
      low = l;
      onward = omega arith;
      bytes = (b, b);
      few = rw none (omega arith);
    }

module _ (set start : ℕ) (unions : List ℕ) (left at joined : ℕ) (j : Joined set start unions left at joined) where
  place_few : (left ≡ 0 → ⊥) → at + left % 256 < 4096
  place_few h = omega (arith, bytes_few left ((at - start) / 256) h j.few, j.low, j.onward, j.bytes.0, j.bytes.1)

  joined_more : (left ≡ 0 → ⊥) → Joined set start unions (left / 256) (at + 256) (bit_or joined (get_or unions (at + left % 256) 0))
  joined_more h =
      let c : ℕ = at / 256 in
      let next : (at + 256) / 256 ≡ suc c = omega arith in
      let same : (at + left % 256) / 256 ≡ c = omega (arith, j.bytes.1) in
      let low : (at + left % 256) % 256 ≡ left % 256 = omega (arith, j.bytes.1) in
      let count : (at + 256 - start) / 256 ≡ suc ((at - start) / 256) = omega (arith, j.onward) in
      record {
        whole = λ follow u.
            ap₂ (λ (x y : ℕ). bit_or (bit_or joined x) (leading_and_following follow (left / 256 * 256 ^ y)))
            (u (at + left % 256) (place_few h) ∙ ap₂ (λ (x y : ℕ). leading_and_following follow (x * 256 ^ y)) low same)
            next
            ∙ or_assoc joined (leading_and_following follow ((left % 256) * 256 ^ c)) (leading_and_following follow (left / 256 * 256 ^ suc c))
            ∙ ap (bit_or joined)
            (sym ((both_join follow).union ((left % 256) * 256 ^ c) (left / 256 * 256 ^ suc c)) ∙ ap (leading_and_following follow) (sym (bytes_joined left c)))
            ∙ j.whole follow u;
        low = j.low;
        onward = omega (arith, j.onward);
        bytes = (j.bytes.0, omega (arith, j.bytes.1));
        few = rw count (bytes_fewer left ((at - start) / 256) j.few);
      }

  joined_all : left ≡ 0 → (follow : List ℕ) → Unions follow unions → joined ≡ leading_and_following follow (set * 256 ^ (start / 256))
  joined_all e follow u =
      let z : left * 256 ^ (at / 256) ≡ 0 = ap (λ (x : ℕ). x * 256 ^ (at / 256)) e ∙ omega arith in
      sym (or_zero_r joined) ∙ ap (bit_or joined) (sym (ap (leading_and_following follow) z ∙ (both_join follow).none)) ∙ j.whole follow u

pub loop-left-init : goal.loop-left-init
loop-left-init c = joined-none _ _ _ (omega arith) c.requires.0 c.requires.1

pub offset_bounds-unions-at : goal.offset_bounds-unions-at
offset_bounds-unions-at c = omega (arith, place_few _ _ _ _ _ _ c.loop-left.invariant c.loop-left-test.true)

pub bounds-unions-at : goal.bounds-unions-at
bounds-unions-at c = place_few _ _ _ _ _ _ c.loop-left.invariant c.loop-left-test.true

pub overflow_add-at : goal.overflow_add-at
overflow_add-at c = omega (arith, place_few _ _ _ _ _ _ c.loop-left.invariant c.loop-left-test.true)

pub loop-left-preserved : goal.loop-left-preserved
loop-left-preserved c = joined_more _ _ _ _ _ _ c.loop-left.invariant c.loop-left-test.true

pub returns : goal.returns
returns c = joined_all _ _ _ _ _ _ c.loop-left.invariant c.loop-left-test.false
