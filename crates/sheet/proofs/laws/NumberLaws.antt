-- Numbers among bytes: reading finds a number exactly where its bytes stand, so that a place has one number at most; and several
-- one after the other. Only the laws of one number know which bytes are written for it.
use Rattle.std.specs.Prelude.{◌≡◌, refl, Bool, List, [], ◌∷◌, ◌++◌, ◌↔◌, ℕ, ◌+◌, ◌-◌, ◌^◌, ◌≤◌, ◌<◌, length, drop}
use Rattle.std.proofs.Common.{sym, ap₂, subst, ◌∙◌, arith, length-take}
use Rattle.number.specs.Number.{encode, decode, read}
use Rattle.number.proofs.laws.Laws.{encode_there, encode_ten, encode_groups, encode-fewest, groups_once, any-width}
use Rattle.number.proofs.laws.Laws.{length_part, decode_within, decode_groups, groups_decode, read_same}
use Rattle.sheet.specs.Spelling.{Bytes, NumberBytes, NumberAt, NumbersAt, no_more, one_more}

-- ---- one number

-- In its fewest bytes a number is written.
pub encode-written : (n : ℕ) → n < 2 ^ 64 → NumberBytes n (encode n)
encode-written n below = (below, encode_groups n below, encode_ten n)

-- Where it stands, it has at least as many.
pub number-fewest : {bytes : List ℕ} {at n next : ℕ} → NumberAt bytes at n next → at + length (encode n) ≤ next
number-fewest {bytes} {at} {n} {next} h =
    let fewest = encode-fewest h.written.1 in
    let some = encode_there n in
    omega (arith, length-take (next - at) (drop at bytes))

-- A number that stands somewhere is read there, in fewest bytes or not, and takes at least one byte.
pub number-read : {bytes : List ℕ} {at n next : ℕ} → NumberAt bytes at n next
    → (fewest : Bool) × (decode bytes at ≡ read n (next - at) fewest) × (at < next)
number-read {bytes} {at} {n} {next} h =
    let w = h.written in
    let wide = number-fewest h in
    let inside : at + (next - at) ≤ length bytes = omega (arith, h.inside, encode_there n) in
    let whole = length_part bytes at (next - at) inside in
    let r = groups_decode bytes at (next - at) w.1 inside (omega (arith, w.2)) w.0 in
    (r.0, r.1, omega (arith, encode_there n))

-- Whatever is read stands there.
pub read-number : (bytes : List ℕ) (at : ℕ) {n used : ℕ} {fewest : Bool} → Bytes bytes → decode bytes at ≡ read n used fewest
    → NumberAt bytes at n (at + used)
read-number bytes at {n} {used} b e =
    let w = decode_within bytes at e in
    let width : at + used - at ≡ used = omega arith in
    let whole = length_part bytes at used w.inside in
    record {
      inside = w.inside;
      written = rw width (w.below, decode_groups bytes at b e, omega (arith, w.ten));
    }

-- "any length up to ten groups": a number below 2^64 is written in each count of bytes from its fewest to ten, and in no other, in one way.
pub widths_exactly : (n k : ℕ) → n < 2 ^ 64
    → ((bytes : List ℕ) × NumberBytes n bytes × (length bytes ≡ k)) ↔ ((length (encode n) ≤ k) × (k ≤ 10))
widths_exactly n k below = (
  λ w. (omega (arith, encode-fewest w.1.1, w.2), omega (arith, w.1.2, w.2)),
  λ h. let w = any-width n (k - length (encode n)) below in
      let l : length w.0 ≡ k = omega (arith, w.2, h.0) in
      (w.0, (below, w.1, omega (arith, h.1)), l),
)

pub width_once : {n : ℕ} {x y : List ℕ} → NumberBytes n x → NumberBytes n y → length x ≡ length y → x ≡ y
width_once w v l = groups_once w.1 v.1 l

-- ---- where numbers stand, by the laws of one number alone

-- One number at most stands at a place.
pub number_once : {bytes : List ℕ} {at m n x y : ℕ} → NumberAt bytes at m x → NumberAt bytes at n y → (m ≡ n) × (x ≡ y)
number_once {bytes} {at} {m} {n} {x} {y} h k =
    let p = number-read h in
    let q = number-read k in
    let same = read_same (sym p.1 ∙ q.1) in
    (same.0, omega (arith, same.1, p.2, q.2))

module _ {bytes : List ℕ} where
  pub none_stand : {at end : ℕ} → NumbersAt bytes at [] end → at ≡ end
  none_stand no_more = refl

  -- The first number, and those after it.
  pub first_stands : {at n end : ℕ} {ns : List ℕ} → NumbersAt bytes at (n ∷ ns) end
      → (next : ℕ) × NumberAt bytes at n next × NumbersAt bytes next ns end
  first_stands (one_more {next = next} n rest) = (next, n, rest)

  pub numbers-inside : {at end : ℕ} {ns : List ℕ} → at ≤ length bytes → NumbersAt bytes at ns end → end ≤ length bytes
  numbers-inside h no_more = h
  numbers-inside h (one_more n rest) = numbers-inside n.inside rest

  pub numbers-append : {at mid end : ℕ} {ms ns : List ℕ} → NumbersAt bytes at ms mid → NumbersAt bytes mid ns end
      → NumbersAt bytes at (ms ++ ns) end
  numbers-append no_more t = t
  numbers-append (one_more n rest) t = one_more n (numbers-append rest t)

  -- Numbers from a place on have one end.
  pub numbers_once : {at x y : ℕ} {ns : List ℕ} → NumbersAt bytes at ns x → NumbersAt bytes at ns y → x ≡ y
  numbers_once no_more t = none_stand t
  numbers_once {y = y} (one_more {ns = ns} n rest) t =
      let f = first_stands t in
      let same = (number_once n f.1).1 in
      numbers_once rest (subst (λ (p : ℕ). NumbersAt bytes p ns y) (sym same) f.2)

  -- They lead forward, and those between two places are one list.
  pub numbers_forward : {at end : ℕ} {ns : List ℕ} → NumbersAt bytes at ns end → at ≤ end
  numbers_forward no_more = omega arith
  numbers_forward (one_more n rest) = omega (arith, (number-read n).2, numbers_forward rest)

  none_between : {at end : ℕ} {ns : List ℕ} → end ≤ at → NumbersAt bytes at ns end → [] ≡ ns
  none_between h no_more = refl
  none_between h (one_more n rest) = absurd (omega (arith, h, (number-read n).2, numbers_forward rest))

  pub numbers-between : {at end : ℕ} {ms ns : List ℕ} → NumbersAt bytes at ms end → NumbersAt bytes at ns end → ms ≡ ns
  numbers-between no_more t = none_between (omega arith) t
  numbers-between (one_more n rest) no_more = absurd (omega (arith, (number-read n).2, numbers_forward rest))
  numbers-between {end = end} (one_more {ns = ms} m rest) (one_more {ns = ns} n others) =
      let same = number_once m n in
      ap₂ (λ (i : ℕ) (l : List ℕ). i ∷ l) same.0 (numbers-between rest (subst (λ (p : ℕ). NumbersAt bytes p ns end) (sym same.1) others))
