-- Laws of sets held as one number: the members of a union, of an intersection, of a symmetric difference, of one element and of the empty
-- set; two sets with the same members are one number; the members of a set below 2^k are below k.
use Rattle.std.specs.Prelude.{◌≡◌, refl, Bool, true, false, ◌||◌, ◌&&◌, not, cond, ◌⊎◌, ℕ, zero, suc, ◌+◌, ◌-◌, ◌*◌, ◌/◌, ◌%◌, ◌^◌, ◌≤◌, ◌<◌, min, max}
use Rattle.std.proofs.Common.{sym, ap₂, ◌∙◌, inl, inr, arith, mod-lt, pow-suc, div-lt_iff_lt-mul, mul-div_cancel, zero-lt-suc, one-mul, pow_pos, pow-add, shr-shr, shl_exact, pow_mono, eq-eqb, ne_eqb, eqb-true}
use Rattle.std.proofs.Math.Path.{ap}
use Rattle.std.proofs.Math.Bool as B
use Rattle.std.proofs.Math.Bool.{xor}
use Rattle.std.proofs.Math.Nat.{mul-mod_left}
use Rattle.std.proofs.Math.Dec.{eqb}
use Rattle.std.specs.Int.Bits.{bit_or, bit_and, bit_xor, differ, or_step, and_step, xor_step}
use Rattle.std.proofs.lemmas.Nat.{or_shr, and_shr, xor_shr}
use Rattle.std.proofs.lemmas.Nat.Bits.{and_high}
use Rattle.std.proofs.Math.Pow.{pow-lt}
use Rattle.std.proofs.Math.Arith.{digits_mod, lt-one}
use Rattle.basics.specs.Bits.{bit, ◌∈◌}
use Rattle.basics.proofs.laws.Order.{compare_cases}

-- The binary digit of s at i.
unfoldable dig : ℕ → ℕ → ℕ
dig s i = s / 2 ^ i % 2

dig-lt : (s i : ℕ) → dig s i < 2
unfolding dig
dig-lt s i = mod-lt (s / 2 ^ i) (zero-lt-suc 1)

-- What holds of the digits 0 and 1 holds of every two numbers below 2.
by_digits : (P : ℕ → ℕ → Type 0) → P 0 0 → P 0 1 → P 1 0 → P 1 1 → (x y : ℕ) → x < 2 → y < 2 → P x y
by_digits P a b c d zero zero hx hy = a
by_digits P a b c d zero (suc zero) hx hy = b
by_digits P a b c d (suc zero) zero hx hy = c
by_digits P a b c d (suc zero) (suc zero) hx hy = d
by_digits P a b c d (suc zero) (suc (suc y)) hx hy = absurd (omega arith)
by_digits P a b c d zero (suc (suc y)) hx hy = absurd (omega arith)
by_digits P a b c d (suc (suc x)) y hx hy = absurd (omega arith)

-- An operation that goes digit by digit: its bits are those that one pair of digits gives.
module _ (op digit : ℕ → ℕ → ℕ) (flag : Bool → Bool → Bool) (shift : (a b k : ℕ) → op a b / 2 ^ k ≡ op (a / 2 ^ k) (b / 2 ^ k))
    (step : (a b : ℕ) → op a b ≡ op (a / 2) (b / 2) * 2 + digit (a % 2) (b % 2)) (small : (x y : ℕ) → x < 2 → y < 2 → digit x y < 2)
    (told : (x y : ℕ) → x < 2 → y < 2 → eqb (digit x y) 1 ≡ flag (eqb x 1) (eqb y 1)) where
  low_digit : (a b : ℕ) → op a b % 2 ≡ digit (a % 2) (b % 2)
  low_digit a b =
      ap (λ (x : ℕ). x % 2) (step a b) ∙ digits_mod (op (a / 2) (b / 2)) (small (a % 2) (b % 2) (omega arith) (omega arith))

  bit_of : (a b i : ℕ) → bit (op a b) i ≡ flag (bit a i) (bit b i)
  unfolding bit dig
  bit_of a b i =
      ap (λ (x : ℕ). eqb (x % 2) 1) (shift a b i)
      ∙ ap (λ (x : ℕ). eqb x 1) (low_digit (a / 2 ^ i) (b / 2 ^ i))
      ∙ told (dig a i) (dig b i) (dig-lt a i) (dig-lt b i)

-- bits of a union, of an intersection and of a symmetric difference
pub bit-or : (a b i : ℕ) → bit (bit_or a b) i ≡ (bit a i || bit b i)
bit-or =
    bit_of bit_or max ◌||◌ or_shr or_step (λ x y hx hy. omega arith)
    (by_digits (λ x y. eqb (max x y) 1 ≡ (eqb x 1 || eqb y 1)) refl refl refl refl)

pub bit-and : (a b i : ℕ) → bit (bit_and a b) i ≡ (bit a i && bit b i)
bit-and =
    bit_of bit_and min ◌&&◌ and_shr and_step (λ x y hx hy. omega arith)
    (by_digits (λ x y. eqb (min x y) 1 ≡ (eqb x 1 && eqb y 1)) refl refl refl refl)

pub bit-xor : (a b i : ℕ) → bit (bit_xor a b) i ≡ xor (bit a i) (bit b i)
unfolding xor
bit-xor =
    bit_of bit_xor differ xor xor_shr xor_step (by_digits (λ x y. differ x y < 2) (omega arith) (omega arith) (omega arith) (omega arith))
    (by_digits (λ x y. eqb (differ x y) 1 ≡ xor (eqb x 1) (eqb y 1)) refl refl refl refl)

-- the digit that a shifted one picks
and_one : (s i : ℕ) → bit_and s (2 ^ i) ≡ dig s i * 2 ^ i
unfolding dig
and_one s i =
    let e : 2 ^ (1 + i) ≡ 2 ^ 1 * 2 ^ i = pow-add 2 1 i in
    let d : 2 ^ (1 + i) - 2 ^ i ≡ 2 ^ i = omega (arith, e) in
    ap (bit_and s) (sym d) ∙ and_high s 1 i

-- the test s & (1 << i) != 0
pub and_test : (s i : ℕ) → not (eqb (bit_and s (2 ^ i)) 0) ≡ bit s i
unfolding bit dig
and_test s i =
    ap (λ (x : ℕ). not (eqb x 0)) (and_one s i) ∙ go (dig s i) (dig-lt s i)
  where
    go : (d : ℕ) → d < 2 → not (eqb (d * 2 ^ i) 0) ≡ eqb d 1
    go zero h = ap not (eq-eqb (0 * 2 ^ i) 0 (omega arith))
    go (suc zero) h = ap not (ne_eqb (1 * 2 ^ i) 0 (λ e. omega (arith, pow_pos i)))
    go (suc (suc d)) h = absurd (omega arith)

-- 1u64 << i
pub shl_one : (i : ℕ) → i < 64 → (1 * 2 ^ i) % 2 ^ 64 ≡ 2 ^ i
shl_one i h = shl_exact 1 i 64 (omega arith) (omega arith) ∙ omega arith

-- the bits of a shifted one
dig_one_same : (i : ℕ) → dig (2 ^ i) i ≡ 1
unfolding dig
dig_one_same i = ap (λ (x : ℕ). x % 2) (ap (λ (x : ℕ). x / 2 ^ i) (sym (one-mul (2 ^ i))) ∙ mul-div_cancel 1 (pow_pos i))

dig_one_above : (i j : ℕ) → i < j → dig (2 ^ i) j ≡ 0
unfolding dig
dig_one_above i j h = ap (λ (x : ℕ). x % 2) (lt-one ((div-lt_iff_lt-mul (pow_pos j)).1 (omega (arith, pow-lt h))))

dig_one_below : (i j : ℕ) → j < i → dig (2 ^ i) j ≡ 0
unfolding dig
dig_one_below i j h =
    let k : ℕ = i - suc j in
    let e : i ≡ suc k + j = omega arith in
    ap (λ (x : ℕ). 2 ^ x / 2 ^ j % 2) e
    ∙ ap (λ (x : ℕ). x / 2 ^ j % 2) (pow-add 2 (suc k) j)
    ∙ ap (λ (x : ℕ). x % 2) (mul-div_cancel (2 ^ suc k) (pow_pos j))
    ∙ ap (λ (x : ℕ). x % 2) (pow-suc 2 k)
    ∙ mul-mod_left (2 ^ k) 2

pub bit_one : (i j : ℕ) → bit (2 ^ i) j ≡ eqb i j
unfolding bit dig
bit_one i j = go (compare_cases i j)
  where
    go : (i < j) ⊎ ((i ≡ j) ⊎ (j < i)) → eqb (dig (2 ^ i) j) 1 ≡ eqb i j
    go (inl h) = ap (λ (x : ℕ). eqb x 1) (dig_one_above i j h) ∙ sym (ne_eqb i j (λ e. omega arith))
    go (inr (inl e)) = ap (λ (x : ℕ). eqb (dig (2 ^ i) x) 1) (sym e) ∙ ap (λ (x : ℕ). eqb x 1) (dig_one_same i) ∙ sym (eq-eqb i j e)
    go (inr (inr h)) = ap (λ (x : ℕ). eqb x 1) (dig_one_below i j h) ∙ sym (ne_eqb i j (λ e. omega arith))

-- the empty set
pub bit-zero : (i : ℕ) → bit 0 i ≡ false
unfolding bit dig
bit-zero i = ap (λ (x : ℕ). eqb (x % 2) 1) (lt-one ((div-lt_iff_lt-mul (pow_pos i)).1 (omega (arith, pow_pos i))))

-- a shifted one under a condition
pub bit_one_if : (x : Bool) (i j : ℕ) → bit (cond x (2 ^ i) 0) j ≡ (x && eqb i j)
bit_one_if true i j = bit_one i j
bit_one_if false i j = bit-zero j

-- bits of a half
dig_half : (s i : ℕ) → dig (s / 2) i ≡ dig s (1 + i)
unfolding dig
dig_half s i = ap (λ (x : ℕ). x % 2) (shr-shr s 1 i)

bit_half : (s i : ℕ) → bit (s / 2) i ≡ bit s (1 + i)
unfolding bit dig
bit_half s i = ap (λ (x : ℕ). eqb x 1) (dig_half s i)

-- equal digits from equal bits
eqb_inj : (x y : ℕ) → x < 2 → y < 2 → eqb x 1 ≡ eqb y 1 → x ≡ y
eqb_inj zero zero hx hy e = refl
eqb_inj zero (suc zero) hx hy e = let z : ◌≡◌ {A = ℕ} 0 1 = cc in omega arith
eqb_inj zero (suc (suc y)) hx hy e = absurd (omega arith)
eqb_inj (suc zero) zero hx hy e = let z : ◌≡◌ {A = ℕ} 0 1 = cc in omega arith
eqb_inj (suc zero) (suc zero) hx hy e = refl
eqb_inj (suc zero) (suc (suc y)) hx hy e = absurd (omega arith)
eqb_inj (suc (suc x)) y hx hy e = absurd (omega arith)

half_lt-pow : (a k : ℕ) → a < 2 ^ suc k → a / 2 < 2 ^ k
half_lt-pow a k h = omega (arith, pow-suc 2 k)

-- two sets with the same positions are one number
pub bit_ext : (k a b : ℕ) → a < 2 ^ k → b < 2 ^ k → ((i : ℕ) → i < k → bit a i ≡ bit b i) → a ≡ b
unfolding bit dig
bit_ext zero a b ha hb e = omega arith
bit_ext (suc k) a b ha hb e =
    let h : a / 2 ≡ b / 2 =
    bit_ext k (a / 2) (b / 2) (half_lt-pow a k ha) (half_lt-pow b k hb)
    (λ i l. bit_half a i ∙ e (1 + i) (omega arith) ∙ sym (bit_half b i)) in
    let l : a / 1 % 2 ≡ b / 1 % 2 = eqb_inj (a / 1 % 2) (b / 1 % 2) (omega arith) (omega arith) (e 0 (omega arith)) in
    omega arith

-- a set below 2 ^ k whose positions are all below p is below 2 ^ p
pub bit-below : (p k a : ℕ) → a < 2 ^ k → ((i : ℕ) → bit a i ≡ true → i < p) → a < 2 ^ p
bit-below zero k a ha h =
    let e : a ≡ 0 = bit_ext k a 0 ha (pow_pos k) (λ i l. go i (bit a i) refl ∙ sym (bit-zero i)) in omega arith
  where
    go : (i : ℕ) (b : Bool) → bit a i ≡ b → bit a i ≡ false
    go i true e = absurd (omega (arith, h i e))
    go i false e = e
bit-below (suc p) zero a ha h = omega (arith, pow_pos (suc p))
bit-below (suc p) (suc k) a ha h =
    let ih : a / 2 < 2 ^ p = bit-below p k (a / 2) (half_lt-pow a k ha) (λ i e. omega (arith, h (1 + i) (sym (bit_half a i) ∙ e))) in
    omega (arith, pow-suc 2 p)

-- and the other way round
pub bit_high : (p a i : ℕ) → a < 2 ^ p → p ≤ i → bit a i ≡ false
unfolding bit dig
bit_high p a i h l = ap (λ (x : ℕ). eqb (x % 2) 1) (lt-one ((div-lt_iff_lt-mul (pow_pos i)).1 (omega (arith, pow_mono l))))

-- any number has as many digits as it likes
pub lt-pow_self : (a : ℕ) → a < 2 ^ a
lt-pow_self zero = omega arith
lt-pow_self (suc a) = omega (arith, lt-pow_self a, pow-suc 2 a)

pub bit_ext_all : (a b : ℕ) → ((i : ℕ) → bit a i ≡ bit b i) → a ≡ b
bit_ext_all a b e =
    let ha : 2 ^ a ≤ 2 ^ (a + b) = pow_mono (omega arith) in
    let hb : 2 ^ b ≤ 2 ^ (a + b) = pow_mono (omega arith) in
    bit_ext (a + b) a b (omega (arith, lt-pow_self a)) (omega (arith, lt-pow_self b)) (λ i l. e i)

pub or_assoc : (a b c : ℕ) → bit_or (bit_or a b) c ≡ bit_or a (bit_or b c)
or_assoc a b c = bit_ext_all (bit_or (bit_or a b) c) (bit_or a (bit_or b c)) (λ i. simp bit-or (B.or_assoc (bit a i) (bit b i) (bit c i)))

-- Membership, in and out of each way to make a set.
pub ∈_cases : (a b i : ℕ) → i ∈ bit_or a b → (i ∈ a) ⊎ (i ∈ b)
∈_cases a b i h = go (bit a i) (bit b i) refl refl (sym (bit-or a b i) ∙ h)
  where
    go : (x y : Bool) → bit a i ≡ x → bit b i ≡ y → (bit a i || bit b i) ≡ true → (i ∈ a) ⊎ (i ∈ b)
    go true y e f g = inl e
    go false true e f g = inr f
    go false false e f g = let z : ◌≡◌ {A = ℕ} 0 1 = cc in absurd (omega arith)

pub ∈_left : (a b i : ℕ) → i ∈ a → i ∈ bit_or a b
∈_left a b i h = bit-or a b i ∙ ap (λ (x : Bool). x || bit b i) h

pub ∈_right : (a b i : ℕ) → i ∈ b → i ∈ bit_or a b
∈_right a b i h = bit-or a b i ∙ ap (λ (x : Bool). bit a i || x) h ∙ B.or-true (bit a i)

pub ∈_zero : {X : Type 0} (i : ℕ) → i ∈ 0 → X
∈_zero i h = let e : bit 0 i ≡ false = bit-zero i in let z : ◌≡◌ {A = ℕ} 0 1 = cc in absurd (omega arith)

pub ∈_cond : (c : Bool) (a i : ℕ) → i ∈ cond c a 0 → (c ≡ true) × (i ∈ a)
∈_cond true a i h = (refl, h)
∈_cond false a i h = ∈_zero i h

pub ∈_when : (c : Bool) (a i : ℕ) → c ≡ true → i ∈ a → i ∈ cond c a 0
∈_when c a i e h = ap (λ (x : Bool). bit (cond x a 0) i) e ∙ h

pub ∈_one : (i j : ℕ) → j ∈ 2 ^ i → i ≡ j
∈_one i j h = eqb-true i j (sym (bit_one i j) ∙ h)

pub ∈_self : (i : ℕ) → i ∈ 2 ^ i
∈_self i = bit_one i i ∙ eq-eqb i i refl

-- Sets with no common member.
pub ∈_disjoint : (a b i : ℕ) → bit_and a b ≡ 0 → i ∈ a → i ∈ b → ⊥
∈_disjoint a b i e ha hb = ∈_zero i (sym (ap (λ (x : ℕ). bit x i) e) ∙ (bit-and a b i ∙ ap₂ ◌&&◌ ha hb))

pub disjoint_zero : (a b : ℕ) → ((i : ℕ) → i ∈ a → i ∈ b → ⊥) → bit_and a b ≡ 0
disjoint_zero a b f = bit_ext_all (bit_and a b) 0 (λ i. bit-and a b i ∙ go i (bit a i) (bit b i) refl refl ∙ sym (bit-zero i))
  where
    go : (i : ℕ) (x y : Bool) → bit a i ≡ x → bit b i ≡ y → (x && y) ≡ false
    go i true true e g = absurd (f i e g)
    go i true false e g = refl
    go i false y e g = refl
