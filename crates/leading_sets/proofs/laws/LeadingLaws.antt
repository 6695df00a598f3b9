-- What leads to a union of sets is the union of what leads to each, and nothing leads to the empty set; so it is with what follows. By these
-- two (`Joins`), a table for single bytes of a set tells it of the whole set: `word_joined` for a word of the table, `bytes_joined` for a set.
use Rattle.std.specs.Prelude.{◌≡◌, refl, Bool, true, false, ◌||◌, ◌&&◌, not, cond, List, ℕ, zero, suc, ◌+◌, ◌-◌, ◌*◌, ◌/◌, ◌%◌, ◌^◌, ◌≤◌, ◌<◌, eqb, get_or}
use Rattle.std.proofs.Common.{sym, ap, ap₂, ◌∙◌, ⊎_elim, arith, pow-suc, mul_assoc, mul_comm, add-mul, pow_mono, pow-add, shl_lt, ne_eqb}
use Rattle.std.specs.Int.Bits.{bit_or, bit_and, and_zero_r, or_zero_l, or_zero_r, or_self, or_add_and}
use Rattle.std.proofs.lemmas.Nat.{and_le_r, or_comm, or_shifted, or_mod, or_shr}
use Rattle.std.specs.Int.Count.{count_trailing_zeros}
use Rattle.std.proofs.Math.Pow.{pow-lt}
use Rattle.basics.proofs.laws.BitLaws.{bit-or, bit-and, bit-zero, bit_one, bit_ext_all, ∈_self}
use Rattle.basics.specs.Bits.{bit}
use Rattle.basics.proofs.laws.LowestMember.{Lowest, lowest}
use Rattle.basics.proofs.laws.Order.{lt-or-le}
use Rattle.lexer.specs.Alive.{meets}
use Rattle.leading_sets.specs.Leading.{over_positions, leading_part, following_part, leading, following, leading_and_following, set_of_word}

-- ---- a union

and-or : (f a b : ℕ) → bit_and f (bit_or a b) ≡ bit_or (bit_and f a) (bit_and f b)
and-or f a b =
    bit_ext_all (bit_and f (bit_or a b)) (bit_or (bit_and f a) (bit_and f b))
    (λ i. simp (bit-and, bit-or) (go (bit f i) (bit a i) (bit b i)))
  where
    go : (x y z : Bool) → (x && (y || z)) ≡ ((x && y) || (x && z))
    go true y z = refl
    go false y z = refl

or_swap : (a b c d : ℕ) → bit_or (bit_or a b) (bit_or c d) ≡ bit_or (bit_or a c) (bit_or b d)
or_swap a b c d =
    bit_ext_all (bit_or (bit_or a b) (bit_or c d)) (bit_or (bit_or a c) (bit_or b d))
    (λ i. simp bit-or (go (bit a i) (bit b i) (bit c i) (bit d i)))
  where
    go : (x y z w : Bool) → ((x || y) || (z || w)) ≡ ((x || z) || (y || w))
    go true y z w = refl
    go false true true w = refl
    go false true false w = refl
    go false false true w = refl
    go false false false w = refl

-- A union has a member if one of the two sets has.
not-none : (x y : ℕ) → (x ≡ 0 → ⊥) → bit_or x y ≡ 0 → ⊥
not-none x y h e = h (omega (arith, or_add_and x y, and_le_r x y))

none_of_two : (x y : ℕ) → not (eqb (bit_or x y) 0) ≡ (not (eqb x 0) || not (eqb y 0))
none_of_two zero y = ap (λ (z : ℕ). not (eqb z 0)) (or_zero_l y)
none_of_two (suc x) y =
    ap not (ne_eqb (bit_or (suc x) y) 0 (not-none (suc x) y (λ e. omega arith)))
    ∙ sym (ap (λ (z : Bool). not z || not (eqb y 0)) (ne_eqb (suc x) 0 (λ e. omega arith)))

meets-or : (f a b : ℕ) → meets f (bit_or a b) ≡ (meets f a || meets f b)
unfolding meets
meets-or f a b = ap (λ (x : ℕ). not (eqb x 0)) (and-or f a b) ∙ none_of_two (bit_and f a) (bit_and f b)

if_either : (x y : Bool) (s : ℕ) → cond (x || y) s 0 ≡ bit_or (cond x s 0) (cond y s 0)
if_either true true s = sym (or_self s)
if_either true false s = sym (or_zero_r s)
if_either false y s = sym (or_zero_l (cond y s 0))

-- What the table relies on: the answer for a union is the union of the answers, and the empty set has none.
pub record Joins (f : ℕ → ℕ) : Type 0 where
  pub none : f 0 ≡ 0
  pub union : (a b : ℕ) → f (bit_or a b) ≡ bit_or (f a) (f b)

-- It holds over many positions if it holds of each.
over_joins : (part : ℕ → ℕ → ℕ) → ((i : ℕ) → Joins (λ set. part set i)) → (i n : ℕ) → Joins (λ set. over_positions (part set) i n)
unfolding over_positions
over_joins part h i zero = record { none = refl; union = λ a b. sym (or_zero_l 0) }
over_joins part h i (suc n) =
    let r = over_joins part h (suc i) n in record {
      none = ap₂ bit_or (h i).none r.none ∙ or_zero_l 0;
      union = λ a b.
          ap₂ bit_or ((h i).union a b) (r.union a b)
          ∙ or_swap (part a i) (part b i) (over_positions (part a) (suc i) n) (over_positions (part b) (suc i) n);
    }

meets-none : (f : ℕ) → meets f 0 ≡ false
unfolding meets
meets-none f = ap (λ (x : ℕ). not (eqb x 0)) (and_zero_r f)

pub leading_joins : (follow : List ℕ) → Joins (leading follow)
unfolding leading_part
leading_joins follow =
    over_joins (leading_part follow) (λ i.
    let f : ℕ = get_or follow i 0 in record {
      none = ap (λ (x : Bool). cond x (2 ^ i) 0) (meets-none f);
      union = λ a b. ap (λ (x : Bool). cond x (2 ^ i) 0) (meets-or f a b) ∙ if_either (meets f a) (meets f b) (2 ^ i);
    }) 0 64

following_joins : (follow : List ℕ) → Joins (following follow)
unfolding following_part
following_joins follow =
    over_joins (following_part follow) (λ i.
    let f : ℕ = get_or follow i 0 in record {
      none = ap (λ (x : Bool). cond x f 0) (bit-zero i);
      union = λ a b. ap (λ (x : Bool). cond x f 0) (bit-or a b i) ∙ if_either (bit a i) (bit b i) f;
    }) 0 64

module _ (follow : List ℕ) where
  pub both_join : Joins (leading_and_following follow)
  both_join =
      let l = leading_joins follow in
      let f = following_joins follow in record {
        none = ap₂ bit_or l.none f.none ∙ or_zero_l 0;
        union = λ a b.
            ap₂ (λ (x y : ℕ). bit_or (leading follow x) (following follow y)) (or_mod a b 64) (or_shr a b 64)
            ∙ ap₂ bit_or (l.union (a % 2 ^ 64) (b % 2 ^ 64)) (f.union (a / 2 ^ 64) (b / 2 ^ 64))
            ∙ or_swap (leading follow (a % 2 ^ 64)) (leading follow (b % 2 ^ 64)) (following follow (a / 2 ^ 64)) (following follow (b / 2 ^ 64));
      }

  -- Of one of the two sets alone.
  pub both_lower : (set : ℕ) → set < 2 ^ 64 → leading_and_following follow set ≡ leading follow set
  both_lower set h =
      let low : set % 2 ^ 64 ≡ set = omega arith in
      let high : set / 2 ^ 64 ≡ 0 = omega arith in
      ap₂ (λ (x y : ℕ). bit_or (leading follow x) (following follow y)) low high
      ∙ ap (bit_or (leading follow set)) (following_joins follow).none
      ∙ or_zero_r (leading follow set)

  pub both_upper : (set : ℕ) → leading_and_following follow (set * 2 ^ 64) ≡ following follow set
  both_upper set =
      let low : set * 2 ^ 64 % 2 ^ 64 ≡ 0 = omega arith in
      let high : set * 2 ^ 64 / 2 ^ 64 ≡ set = omega arith in
      ap₂ (λ (x y : ℕ). bit_or (leading follow x) (following follow y)) low high
      ∙ ap (λ (x : ℕ). bit_or x (following follow set)) (leading_joins follow).none
      ∙ or_zero_l (following follow set)

-- ---- one position

over_none : (part : ℕ → ℕ) (i n : ℕ) → ((j : ℕ) → i ≤ j → part j ≡ 0) → over_positions part i n ≡ 0
unfolding over_positions
over_none part i zero h = refl
over_none part i (suc n) h = ap₂ bit_or (h i (omega arith)) (over_none part (suc i) n (λ j l. h j (omega arith))) ∙ or_zero_l 0

over_one : (part : ℕ → ℕ) (i n y : ℕ) → i ≤ y → y < i + n → ((j : ℕ) → (j ≡ y → ⊥) → part j ≡ 0) → over_positions part i n ≡ part y
unfolding over_positions
over_one part i zero y l m h = absurd (omega arith)
over_one part i (suc n) y l m h =
    ⊎_elim
    (λ k.
    ap₂ bit_or (h i (λ e. omega arith)) (over_one part (suc i) n y k (omega arith) h) ∙ or_zero_l (part y))
    (λ k.
    let e : i ≡ y = omega arith in
    ap₂ bit_or (ap part e) (over_none part (suc i) n (λ j g. h j (λ q. omega arith))) ∙ or_zero_r (part y))
    (lt-or-le i y)

-- What follows a single position is its follow set.
pub following_one : (follow : List ℕ) (y : ℕ) → y < 64 → following follow (2 ^ y) ≡ get_or follow y 0
unfolding following_part
following_one follow y h =
    over_one (following_part follow (2 ^ y)) 0 64 y (omega arith) (omega arith)
    (λ j n. ap (λ (x : Bool). cond x (get_or follow j 0) 0) (bit_one y j ∙ ne_eqb y j (λ e. n (sym e))))
    ∙ ap (λ (x : Bool). cond x (get_or follow y 0) 0) (∈_self y)

-- ---- a set by its bytes

byte_power : (c : ℕ) → 256 ^ c ≡ 2 ^ (8 * c)
byte_power zero = refl
byte_power (suc c) =
    pow-suc 256 c ∙ ap (λ (x : ℕ). x * 256) (byte_power c) ∙ sym (pow-add 2 (8 * c) 8) ∙ ap (λ (x : ℕ). 2 ^ x) (omega arith)

-- Two parts of a number that share no digit are its union, and remain so when shifted.
parts-joined : (high low k n : ℕ) → low < 2 ^ k → (high * 2 ^ k + low) * 2 ^ n ≡ bit_or (high * 2 ^ k * 2 ^ n) (low * 2 ^ n)
parts-joined high low k n h =
    let e : high * 2 ^ (k + n) ≡ high * 2 ^ k * 2 ^ n = ap (λ (x : ℕ). high * x) (pow-add 2 k n) ∙ sym (mul_assoc high (2 ^ k) (2 ^ n)) in
    add-mul (high * 2 ^ k) low (2 ^ n)
    ∙ ap (λ (x : ℕ). x + low * 2 ^ n) (sym e)
    ∙ sym (or_shifted high (k + n) (low * 2 ^ n) (shl_lt k n h))
    ∙ ap (λ (x : ℕ). bit_or x (low * 2 ^ n)) e

next-byte : (high c : ℕ) → high * 256 * 256 ^ c ≡ high * 256 ^ suc c
next-byte high c = mul_assoc high 256 (256 ^ c) ∙ ap (λ (x : ℕ). high * x) (mul_comm 256 (256 ^ c) ∙ sym (pow-suc 256 c))

-- The bytes of a set from byte c on: the first of them, and the others.
pub bytes_joined : (set c : ℕ) → set * 256 ^ c ≡ bit_or ((set % 256) * 256 ^ c) (set / 256 * 256 ^ suc c)
bytes_joined set c =
    let e : set ≡ set / 256 * 256 + set % 256 = omega arith in
    ap (λ (x : ℕ). x * 256 ^ c) e
    ∙ rw (byte_power c) (parts-joined (set / 256) (set % 256) 8 (8 * c) (omega arith))
    ∙ or_comm (set / 256 * 256 * 256 ^ c) ((set % 256) * 256 ^ c)
    ∙ ap (bit_or ((set % 256) * 256 ^ c)) (next-byte (set / 256) c)

-- While a byte is left, no more than seven came before it.
pub bytes_few : (left c : ℕ) → (left ≡ 0 → ⊥) → left * 256 ^ c < 2 ^ 64 → c < 8
bytes_few left c h few = ⊎_elim (λ l. l) (λ l. absurd (go l)) (lt-or-le c 8)
  where
    go : 8 ≤ c → ⊥
    go l =
        let m : 2 ^ 64 ≤ 2 ^ (8 * c) = pow_mono {i = 64} {j = 8 * c} (omega arith) in
        let e : left * 256 ^ c ≡ (left - 1 + 1) * 256 ^ c = ap (λ (x : ℕ). x * 256 ^ c) (omega arith) in
        omega (arith, m, e, byte_power c, few)

pub bytes_fewer : (left c : ℕ) → left * 256 ^ c < 2 ^ 64 → left / 256 * 256 ^ suc c < 2 ^ 64
bytes_fewer left c few =
    let e : left * 256 ^ c ≡ (left / 256 * 256 + left % 256) * 256 ^ c = ap (λ (x : ℕ). x * 256 ^ c) (omega arith) in
    let f : (left / 256 * 256 + left % 256) * 256 ^ c ≡ left / 256 * 256 * 256 ^ c + (left % 256) * 256 ^ c =
    add-mul (left / 256 * 256) (left % 256) (256 ^ c) in
    omega (arith, e, f, next-byte (left / 256) c, few)

-- ---- a word of the table

-- Position t is the lowest of the byte of word k: the set of word k is that of an earlier word, joined with the position.
pub record LowestOfByte (k t : ℕ) : Type 0 where
  pub small : t < 8
  pub within : 2 ^ t ≤ k % 256
  pub word_joined : set_of_word k ≡ bit_or (set_of_word (k - 2 ^ t)) (2 ^ (8 * (k / 256) + t))

pub lowest_of_byte : (k : ℕ) → (k % 256 ≡ 0 → ⊥) → LowestOfByte k (count_trailing_zeros 64 (k % 256))
lowest_of_byte k h = go (count_trailing_zeros 64 (k % 256)) (lowest 64 (k % 256) h (omega arith))
  where
    go : (t : ℕ) → Lowest 64 (k % 256) t → LowestOfByte k t
    go t w =
        let within : 2 ^ t ≤ k % 256 = omega (arith, w.form) in
        let same : (k - 2 ^ t) / 256 ≡ k / 256 = omega (arith, within) in
        let rest : (k - 2 ^ t) % 256 ≡ w.top * 2 ^ suc t = omega (arith, within, w.form) in
        let c : ℕ = 8 * (k / 256) in
        record {
          small = ⊎_elim (λ l. l) (λ l. absurd (omega (arith, within, pow_mono {i = 8} {j = t} l))) (lt-or-le t 8);
          within = within;
          word_joined =
              ap₂ ◌*◌ w.form (byte_power (k / 256))
              ∙ parts-joined w.top (2 ^ t) (suc t) c (pow-lt {i = t} {j = suc t} (omega arith))
              ∙ ap₂ bit_or
              (ap₂ ◌*◌ (sym rest) (sym (byte_power (k / 256)) ∙ ap (λ (x : ℕ). 256 ^ x) (sym same)))
              (sym (pow-add 2 t c) ∙ ap (λ (x : ℕ). 2 ^ x) (omega arith));
        }
