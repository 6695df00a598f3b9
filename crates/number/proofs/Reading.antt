-- The reader's loop against `decode`: what the groups read so far and the bytes still to come make together.
-- On plain numbers and lists: nothing here speaks of the code.
use Prim.Native.Nat.{ℕ, suc, ◌+◌, ◌-◌, ◌*◌, ◌^◌, ◌/◌, ◌%◌, ◌≤◌, ◌<◌}
use mathlib.Core.Path.{◌≡◌, refl, sym, ap, ap₂, ◌∙◌}
use mathlib.Core.List.{List, ◌∷◌}
use mathlib.Core.Bool.{Bool, true, false, cond}
use native.Mathlib.Omega.{arith}
use native.Mathlib.Nat.{mul_comm, mul_assoc, add-mul, div-lt_iff_lt-mul, le-div_iff_mul-le}
use native.Mathlib.Numerals.{add-one}
use lib.Pow.{pow-add, pow_mono}
use lib.Arith.{digits_lt}
use lib.Dec.{leb}
use lib.ListN.{length, get_or, drop, drop_of_length-le}
use lib.Seq.{drop-cons}
use borrow.Author.Tests.{lt-ltb, le-ltb, lt-leb}
use Rattle.number.specs.Number.{count, value, highest}
use Rattle.number.specs.Number.{Front, cut, whole, followed, front, fewest, judged, number_from, decode, read}
use Rattle.number.proofs.laws.Groups.{count_positive, judged-read}
use Rattle.number.specs.declared.Number.{Number}
use Rattle.std.specs.Prelude.{Option, None}

-- ---- the tests, failed

both : (p : Bool) → cond {A = Option Number} p None None ≡ None
both true = refl
both false = refl

module _ (groups top n : ℕ) where
  pub judged_over : 2 ^ 64 ≤ n → judged groups top n ≡ None
  unfolding judged
  judged_over h = rw (le-ltb n (2 ^ 64)) (both (leb groups 10))

  judged_eleven : 10 < groups → judged groups top n ≡ None
  unfolding judged
  judged_eleven h = rw (lt-leb groups 10)

-- ---- whether the last group still fits

module _ (v scale top : ℕ) (positive : 0 < scale) (fits : v < 2 ^ 64) where
  pub last_over : (18446744073709551615 - v) / scale < top → 2 ^ 64 ≤ v + top * scale
  last_over h =
      let l : 18446744073709551615 - v < top * scale = (div-lt_iff_lt-mul positive).0 h in
      omega arith

  pub last_fits : top ≤ (18446744073709551615 - v) / scale → v + top * scale < 2 ^ 64
  last_fits h =
      let l : top * scale ≤ 18446744073709551615 - v = (le-div_iff_mul-le positive).0 h in
      omega arith

-- ---- a group more

-- What one group more counts for.
pub scale_more : {scale : ℕ} (u : ℕ) → scale ≡ 2 ^ (7 * u) → scale * 128 ≡ 2 ^ (7 * (u + 1))
scale_more {scale} u e =
    let k : 7 * (u + 1) ≡ 7 * u + 7 = omega arith in
    rw (e, k, pow-add 2 (7 * u) 7)

pub scale_fits : {scale : ℕ} (u : ℕ) → scale ≡ 2 ^ (7 * u) → u < 9 → scale * 128 < 2 ^ 64
scale_fits {scale} u e h =
    let m : 2 ^ (7 * (u + 1)) ≤ 2 ^ 63 = pow_mono {i = 7 * (u + 1)} {j = 63} (omega arith) in
    omega (arith, scale_more u e)

pub value-more : {scale : ℕ} (v b : ℕ) → v < scale → v + b % 128 * scale < scale * 128
value-more {scale} v b h =
    let g : b % 128 < 128 = omega arith in
    omega (arith, digits_lt {q = b % 128} {m = 128} {r = v} {c = scale} g h)

pub value_fits : {scale : ℕ} (v b u : ℕ) → v < scale → scale ≡ 2 ^ (7 * u) → u < 9 → v + b % 128 * scale < 2 ^ 64
value_fits {scale} v b u h e l = omega (arith, value-more v b h, scale_fits u e l)

-- ---- groups to come, after `u` others of value v, the next one counting for `scale`

unfoldable pub after : ℕ → ℕ → ℕ → Front → Option Number
after u scale v cut = None
after u scale v (whole gs) = judged (u + count gs) (highest gs) (v + value gs * scale)

after-none : (f : Front) → number_from f ≡ after 0 1 0 f
unfolding after number_from
after-none cut = refl
after-none (whole gs) =
    let a : count gs ≡ 0 + count gs = omega arith in
    let b : value gs ≡ 0 + value gs * 1 = omega arith in
    ap₂ (λ (x y : ℕ). judged x (highest gs) y) a b

after-followed : (u scale v g : ℕ) (f : Front) → after u scale v (followed g f) ≡ after (u + 1) (scale * 128) (v + g * scale) f
unfolding after followed count value highest
after-followed u scale v g cut = refl
after-followed u scale v g (whole gs) =
    let x = value gs in
    let a : u + suc (count gs) ≡ u + 1 + count gs = omega arith in
    let m : (g + 128 * x) * scale ≡ g * scale + 128 * x * scale = add-mul g (128 * x) scale in
    let k : 128 * x * scale ≡ x * (scale * 128) =
    ap (λ (y : ℕ). y * scale) (mul_comm 128 x) ∙ mul_assoc x 128 scale ∙ ap (λ (y : ℕ). x * y) (mul_comm 128 scale) in
    let b : v + (g + 128 * x) * scale ≡ v + g * scale + x * (scale * 128) = omega arith in
    ap₂ (λ (y z : ℕ). judged y (highest gs) z) a b

after_ten : (u scale v g : ℕ) (f : Front) → u ≡ 9 → after u scale v (followed g f) ≡ None
unfolding after followed count
after_ten u scale v g cut e = refl
after_ten u scale v g (whole gs) e = judged_eleven _ _ _ (omega (arith, count_positive gs))

pub decode-after : (s : List ℕ) (at : ℕ) → decode s at ≡ after 0 1 0 (front (drop at s))
unfolding decode
decode-after s at = after-none (front (drop at s))

-- one turn at a place of a list
module _ (u scale v : ℕ) (s : List ℕ) (i : ℕ) where
  pub turn_end : length s ≤ i → after u scale v (front (drop i s)) ≡ None
  unfolding after front
  turn_end h = rw (drop_of_length-le s h)

  -- and the byte there
  module _ {b : ℕ} (h : i < length s) (is : b ≡ get_or s i 0) where
    front_at : front (drop i s) ≡ front (b ∷ drop (i + 1) s)
    front_at = rw (is, add-one i, drop-cons s i 0)

    pub turn-last : b < 128 → after u scale v (front (drop i s)) ≡ judged (u + 1) b (v + b * scale)
    unfolding after front count value highest
    turn-last l = ap (after u scale v) front_at ∙ rw (lt-ltb b 128)

    front_follows : 128 ≤ b → front (drop i s) ≡ followed (b % 128) (front (drop (i + 1) s))
    unfolding front
    front_follows l = front_at ∙ rw (le-ltb b 128)

    pub turn-more : 128 ≤ b → after u scale v (front (drop i s)) ≡ after (u + 1) (scale * 128) (v + b % 128 * scale) (front (drop (i + 1) s))
    turn-more l = ap (after u scale v) (front_follows l) ∙ after-followed u scale v (b % 128) (front (drop (i + 1) s))

    pub turn_ten : 128 ≤ b → u ≡ 9 → after u scale v (front (drop i s)) ≡ None
    turn_ten l e = ap (after u scale v) (front_follows l) ∙ after_ten u scale v (b % 128) (front (drop (i + 1) s)) e

-- One group alone is the value, in the fewest bytes.
pub one_group : (s : List ℕ) (at : ℕ) {b : ℕ} → at < length s → b ≡ get_or s at 0 → b < 128 → read b 1 true ≡ decode s at
unfolding fewest
one_group s at {b} h e l =
    let n : 0 + b * 1 ≡ b = omega arith in
    sym (decode-after s at ∙ turn-last 0 1 0 s at h e l ∙ ap (judged 1 b) n ∙ judged-read 1 b b (omega arith) (omega arith))
