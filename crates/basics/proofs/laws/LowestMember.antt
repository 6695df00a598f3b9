-- The lowest member of a set held as one number, and the set without it: trailing zeros tell the one, and clearing the lowest set digit,
-- s & (s - 1), gives the other. Laws of numbers alone; which walk goes by them is not said here.
use Rattle.std.specs.Prelude.{◌≡◌, refl, Bool, true, false, ◌||◌, ◌&&◌, not}
use Rattle.std.proofs.Common.{sym, ap₂, ◌∙◌, mul-div_cancel, pow_pos, eq-eqb, eqb-true}
use Rattle.std.proofs.Math.Path.{ap}
use Rattle.std.proofs.Math.Bool as B
use Rattle.std.proofs.Math.Bool.{true≢false}
use Rattle.std.proofs.Math.Logic.{⊎_elim}
use Prim.Native.Nat.{ℕ, zero, suc, ◌+◌, ◌-◌, ◌*◌, ◌/◌, ◌%◌, ◌^◌, ◌≤◌, ◌<◌}
use native.Mathlib.Omega.{arith}
use Rattle.std.proofs.Math.Nat.{pow-suc, mul-mod_left, mul_assoc, mod_self}
use Rattle.std.proofs.Math.Dec.{eqb}
use Rattle.std.specs.Int.Bits.{bit_and, and_self}
use Rattle.std.proofs.lemmas.Nat.{and_block, and_mask, or_shifted, ones_cat}
use Rattle.std.specs.Int.Count.{count_trailing_zeros, under, ones}
use Rattle.std.proofs.Math.Pow.{pow-add}
use Rattle.basics.specs.Bits.{bit, ◌∈◌}
use Rattle.basics.proofs.laws.BitLaws.{bit-or, bit_one}
use Rattle.basics.proofs.laws.Order.{compare_cases}

-- For these laws: the lowest set digit of n, a number of k digits, is the one at t; what stands above it is `top`.
pub record Lowest (k n t : ℕ) : Type 0 where
  pub top : ℕ
  pub form : n ≡ top * 2 ^ suc t + 2 ^ t
  pub small : t < k

lowest_step : (k n t d : ℕ) → n % 2 ≡ d → (n ≡ 0 → ⊥) → ((n / 2 ≡ 0 → ⊥) → Lowest k (n / 2) t) → Lowest (suc k) n (under d t)
lowest_step k n t zero e h ih =
    let r : Lowest k (n / 2) t = ih (λ z. h (omega arith)) in
    let f : n / 2 ≡ r.top * 2 ^ suc t + 2 ^ t = r.form in
    record {
      top = r.top;
      form = omega (arith, pow-suc 2 t, pow-suc 2 (suc t), mul_assoc r.top (2 ^ suc t) 2, ap (λ (x : ℕ). r.top * x) (pow-suc 2 (suc t)));
      small = omega (arith, r.small);
    }
lowest_step k n t (suc d) e h ih = record { top = n / 2; form = omega arith; small = omega arith }

-- Trailing zeros tell it.
pub lowest : (k n : ℕ) → (n ≡ 0 → ⊥) → n < 2 ^ k → Lowest k n (count_trailing_zeros k n)
unfolding count_trailing_zeros
lowest zero n h l = absurd (h (omega arith))
lowest (suc k) n h l =
    lowest_step k n (count_trailing_zeros k (n / 2)) (n % 2) refl h (λ g. lowest k (n / 2) g (omega (arith, pow-suc 2 k)))

ones_of_one : ones 1 ≡ 1
unfolding ones
ones_of_one = refl

ones_of_zero : ones 0 ≡ 0
unfolding ones
ones_of_zero = refl

module _ (k n t : ℕ) (w : Lowest k n t) where
  -- What n & (n - 1) leaves.
  cleared : bit_and n (n - 1) ≡ w.top * 2 ^ suc t
  cleared =
      let e : n - 1 ≡ w.top * 2 ^ suc t + (2 ^ t - 1) = omega (arith, w.form, pow_pos t) in
      let lt : 2 ^ t < 2 ^ suc t = omega (arith, pow_pos t, pow-suc 2 t) in
      ap₂ bit_and w.form e
      ∙ and_block (suc t) w.top w.top (2 ^ t) (2 ^ t - 1) lt (omega arith)
      ∙ ap₂ (λ (x y : ℕ). x * 2 ^ suc t + y) (and_self w.top) (and_mask (2 ^ t) t ∙ mod_self (2 ^ t))
      ∙ omega arith

  -- One member fewer.
  pub ones_cleared : ones n ≡ 1 + ones (bit_and n (n - 1))
  ones_cleared =
      let lt : 2 ^ t < 2 ^ suc t = omega (arith, pow_pos t, pow-suc 2 t) in
      let a : ones (w.top * 2 ^ suc t + 0) ≡ ones w.top + ones 0 = ones_cat (suc t) w.top 0 (pow_pos (suc t)) in
      let b : ones (w.top * 2 ^ suc t + 2 ^ t) ≡ ones w.top + ones (2 ^ t) = ones_cat (suc t) w.top (2 ^ t) lt in
      let d : ones (1 * 2 ^ t + 0) ≡ ones 1 + ones 0 = ones_cat t 1 0 (pow_pos t) in
      let d' : 1 * 2 ^ t + 0 ≡ 2 ^ t = omega arith in
      let a' : w.top * 2 ^ suc t + 0 ≡ bit_and n (n - 1) = omega (arith, cleared) in
      omega (arith, a, b, d, ap ones d', ap ones a', ap ones w.form, ones_of_one, ones_of_zero)

  -- The members are t and those of what is left.
  bit_split : (j : ℕ) → bit n j ≡ (bit (w.top * 2 ^ suc t) j || eqb t j)
  bit_split j =
      let lt : 2 ^ t < 2 ^ suc t = omega (arith, pow_pos t, pow-suc 2 t) in
      ap (λ (x : ℕ). bit x j) (w.form ∙ sym (or_shifted w.top (suc t) (2 ^ t) lt))
      ∙ bit-or (w.top * 2 ^ suc t) (2 ^ t) j
      ∙ ap (λ (b : Bool). bit (w.top * 2 ^ suc t) j || b) (bit_one t j)

  cleared_at : bit (w.top * 2 ^ suc t) t ≡ false
  unfolding bit
  cleared_at =
      let e : w.top * 2 ^ suc t ≡ w.top * 2 * 2 ^ t = omega (arith, mul_assoc w.top 2 (2 ^ t), ap (λ (x : ℕ). w.top * x) (pow-suc 2 t)) in
      ap (λ (x : ℕ). eqb (x / 2 ^ t % 2) 1) e
      ∙ ap (λ (x : ℕ). eqb (x % 2) 1) (mul-div_cancel (w.top * 2) (pow_pos t))
      ∙ ap (λ (x : ℕ). eqb x 1) (mul-mod_left w.top 2)

  pub lowest_in : t ∈ n
  lowest_in = bit_split t ∙ ap (λ (b : Bool). bit (w.top * 2 ^ suc t) t || b) (eq-eqb t t refl) ∙ B.or-true (bit (w.top * 2 ^ suc t) t)

  pub bit-cleared : (j : ℕ) → bit (bit_and n (n - 1)) j ≡ (bit n j && not (eqb t j))
  bit-cleared j = ap (λ (x : ℕ). bit x j) cleared ∙ go (eqb t j) refl
    where
      go : (b : Bool) → eqb t j ≡ b → bit (w.top * 2 ^ suc t) j ≡ (bit n j && not (eqb t j))
      go true e =
          let q : t ≡ j = eqb-true t j e in
          ap (bit (w.top * 2 ^ suc t)) (sym q) ∙ cleared_at ∙ sym (B.and-false (bit n j)) ∙ ap (λ (x : Bool). bit n j && not x) (sym e)
      go false e =
          sym (B.or-false (bit (w.top * 2 ^ suc t) j)) ∙ ap (λ (x : Bool). bit (w.top * 2 ^ suc t) j || x) (sym e) ∙ sym (bit_split j)
          ∙ sym (B.and-true (bit n j)) ∙ ap (λ (x : Bool). bit n j && not x) (sym e)

  -- No member is below it: n is a multiple of 2^t.
  pub lowest_least : (j : ℕ) → j ∈ n → t ≤ j
  unfolding bit
  lowest_least j h = ⊎_elim (λ l. absurd (go l)) (⊎_elim (λ e. omega arith) (λ l. omega arith)) (compare_cases j t)
    where
      go : j < t → ⊥
      go l =
          let d : ℕ = t - suc j in
          let e : 2 ^ t ≡ 2 ^ d * 2 * 2 ^ j =
          ap (λ (x : ℕ). 2 ^ x) (omega arith) ∙ pow-add 2 (suc d) j ∙ ap (λ (x : ℕ). x * 2 ^ j) (pow-suc 2 d) in
          let f : n ≡ (w.top * 2 + 1) * 2 ^ d * 2 * 2 ^ j =
          w.form ∙ omega (
            arith,
            pow-suc 2 t,
            ap (λ (x : ℕ). w.top * x) (pow-suc 2 t),
            ap (λ (x : ℕ). (w.top * 2 + 1) * x) e,
            mul_assoc (w.top * 2 + 1) (2 ^ d * 2) (2 ^ j),
            mul_assoc (w.top * 2 + 1) (2 ^ d) 2,
            ap (λ (x : ℕ). x * 2 ^ j) (mul_assoc (w.top * 2 + 1) (2 ^ d) 2),
          ) in
          true≢false
          (sym h
          ∙ ap (λ (x : ℕ). eqb (x / 2 ^ j % 2) 1) f
          ∙ ap (λ (x : ℕ). eqb (x % 2) 1) (mul-div_cancel ((w.top * 2 + 1) * 2 ^ d * 2) (pow_pos j))
          ∙ ap (λ (x : ℕ). eqb x 1) (mul-mod_left ((w.top * 2 + 1) * 2 ^ d) 2))
