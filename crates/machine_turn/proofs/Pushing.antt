-- Pushing a tail, a member a turn, the last one first: before the first turn, one turn more, and after the last.
use mathlib.Core.Path.{◌≡◌, sym, ap, ap₂, ◌∙◌}
use mathlib.Core.List.{List, ◌∷◌}
use Prim.Native.Nat.{ℕ, suc, ◌+◌, ◌-◌, ◌≤◌, ◌<◌}
use native.Mathlib.Omega.{arith}
use lib.ListN.{length, get_or, set, take, drop, length-take, length-drop}
use lib.Seq.{drop-cons}
use Rattle.image_reader.specs.Tables.{part}
use Rattle.machine_turn.specs.Stack.{pushed}

module _ (bytes stack : List ℕ) (at size base : ℕ) where
  part_more : (left : ℕ) → 0 < left → left ≤ size → at + size ≤ length bytes
      → part bytes (at + (left - 1)) (size - (left - 1)) ≡ get_or bytes (at + (left - 1)) 0 ∷ part bytes (at + left) (size - left)
  part_more left k l h =
      let i = at + (left - 1) in
      let e : size - (left - 1) ≡ suc (size - left) = omega arith in
      let f : suc i ≡ at + left = omega arith in
      let inside : i < length bytes = omega arith in
      ap (λ (s : ℕ). take s (drop i bytes)) e
      ∙ ap (take (suc (size - left))) (drop-cons bytes i 0 inside)
      ∙ ap (λ (j : ℕ). get_or bytes i 0 ∷ take (size - left) (drop j bytes)) f

  length_part : (left : ℕ) → left ≤ size → at + size ≤ length bytes → length (part bytes (at + left) (size - left)) ≡ size - left
  length_part left l h = simp (length-take, length-drop) (omega arith)

  pub push_start : stack ≡ pushed stack base (part bytes (at + size) (size - size))
  unfolding pushed
  push_start = let e : size - size ≡ 0 = omega arith in rw e

  pub push_more : (left top : ℕ) → 0 < left → left ≤ size → at + size ≤ length bytes → top + left ≡ base + size
      → set (pushed stack base (part bytes (at + left) (size - left))) top (get_or bytes (at + (left - 1)) 0)
      ≡ pushed stack base (part bytes (at + (left - 1)) (size - (left - 1)))
  unfolding pushed
  push_more left top k l h e =
      let rest = part bytes (at + left) (size - left) in
      let f : top ≡ base + length rest = omega (arith, length_part left l h) in
      ap (λ (j : ℕ). set (pushed stack base rest) j (get_or bytes (at + (left - 1)) 0)) f
      ∙ sym (ap (pushed stack base) (part_more left k l h))

  pub push_end : (left : ℕ) → left ≤ 0
      → pushed stack base (part bytes (at + left) (size - left)) ≡ pushed stack base (part bytes at size)
  push_end left l =
      let e : at + left ≡ at = omega arith in
      let f : size - left ≡ size = omega arith in
      ap₂ (λ (i j : ℕ). pushed stack base (part bytes i j)) e f
