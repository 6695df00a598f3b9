-- The laws of decimal digits: how they go on, how many there are, and that they are the number's
-- one numeral.
use Rattle.std.specs.Prelude.{◌≡◌, refl, List, [], ◌∷◌, ◌++◌, ℕ, zero, suc, ◌+◌, ◌-◌, ◌*◌, ◌^◌, ◌/◌, ◌%◌, ◌≤◌, ◌<◌, length}
use Rattle.std.proofs.Common.{sym, ap, subst, ◌∙◌, append-nil, ⊎_elim, arith, length-append, lt-ltb, le-ltb}
use Rattle.std.proofs.Math.Seq.{append_snoc}
use Rattle.basics.specs.Lists.{All}
use Rattle.basics.proofs.laws.Order.{lt-or-le}
use Rattle.lines.specs.Decimal.{digit, digits_in, decimal}
use Rattle.lines.specs.Numeral.{IsDigit, value_from, Numeral}

-- ---- how the digits go on

-- More places than the number change nothing.
enough : (j k n : ℕ) → n < j → n < k → digits_in j n ≡ digits_in k n
unfolding digits_in
enough zero k n h i = absurd (omega arith)
enough (suc j) zero n h i = absurd (omega arith)
enough (suc j) (suc k) n h i = ⊎_elim
    (λ l. rw (lt-ltb n 10 l))
    (λ l. rw (le-ltb n 10 l, enough j k (n / 10) (omega arith) (omega arith)))
    (lt-or-le n 10)

pub decimal_one : (n : ℕ) → n < 10 → decimal n ≡ digit n ∷ []
unfolding decimal digits_in
decimal_one n h = rw (lt-ltb n 10)

pub decimal-more : (n : ℕ) → 10 ≤ n → decimal n ≡ decimal (n / 10) ++ (digit (n % 10) ∷ [])
unfolding decimal digits_in
decimal-more n h = rw (le-ltb n 10 h, enough n (suc (n / 10)) (n / 10) (omega arith) (omega arith))

-- ---- how many there are

pub decimal-length : (k n : ℕ) → n < 10 ^ suc k → length (decimal n) ≤ suc k
decimal-length zero n h = rw (decimal_one n (omega arith)) (omega arith)
decimal-length (suc k) n h = ⊎_elim
    (λ l. rw (decimal_one n l) (omega arith))
    (λ l. rw (decimal-more n l, length-append)
    (omega (arith, decimal-length k (n / 10) (omega arith))))
    (lt-or-le n 10)

-- ---- they are a numeral of the number

digits_append : (ds es : List ℕ) → All IsDigit ds → All IsDigit es → All IsDigit (ds ++ es)
digits_append [] es h k = k
digits_append (b ∷ ds) es h k = (h.0, digits_append ds es h.1 k)

value-last : (v : ℕ) (ds : List ℕ) (b : ℕ)
    → value_from v (ds ++ (b ∷ [])) ≡ value_from v ds * 10 + (b - 48)
value-last v [] b = refl
value-last v (d ∷ ds) b = value-last (v * 10 + (d - 48)) ds b

-- Digits of a number that is not 0 begin with no `0`.
not-zero-first : (n : ℕ) (ds : List ℕ) (b : ℕ) → 0 < n → Numeral n ds
    → (rest : List ℕ) → ds ++ (b ∷ []) ≡ 48 ∷ rest → rest ≡ []
not-zero-first n [] b h m rest e = absurd (omega (arith, m.there))
not-zero-first n (d ∷ ds) b h m rest e =
    let first : d ≡ 48 = cc in
    let none : ds ≡ [] = m.no_leading_zero ds (ap (λ (x : ℕ). x ∷ ds) first) in
    let zeros : value_from 0 (48 ∷ []) ≡ n = rw (first, none) at m.value in
    absurd (omega arith)

numeral_more : (n : ℕ) (ds : List ℕ) → 10 ≤ n → Numeral (n / 10) ds
    → Numeral n (ds ++ (digit (n % 10) ∷ []))
numeral_more n ds h m = record {
  there = rw length-append (omega arith);
  are_digits = digits_append ds _ m.are_digits ((omega arith, omega arith), tt);
  value = value-last 0 ds (digit (n % 10)) ∙ rw m.value (omega arith);
  no_leading_zero = not-zero-first (n / 10) ds (digit (n % 10)) (omega arith) m;
}

numeral_one : (n : ℕ) → n < 10 → Numeral n (digit n ∷ [])
numeral_one n h = record {
  there = omega arith;
  are_digits = ((omega arith, omega arith), tt);
  value = omega arith;
  no_leading_zero = λ rest e. cc;
}

numeral_below : (k n : ℕ) → n < k → Numeral n (decimal n)
numeral_below zero n h = absurd (omega arith)
numeral_below (suc k) n h = ⊎_elim
    (λ l. subst (Numeral n) (sym (decimal_one n l)) (numeral_one n l))
    (λ l. subst (Numeral n) (sym (decimal-more n l))
    (numeral_more n (decimal (n / 10)) l (numeral_below k (n / 10) (omega arith))))
    (lt-or-le n 10)

pub decimal_numeral : (n : ℕ) → Numeral n (decimal n)
decimal_numeral n = numeral_below (suc n) n (omega arith)

-- ---- and there is no other

-- Digits that follow those of a number that is not 0.
value-after : (v : ℕ) (ds : List ℕ) → 0 < v → All IsDigit ds
    → decimal (value_from v ds) ≡ decimal v ++ ds
value-after v [] h k = sym (append-nil (decimal v))
value-after v (b ∷ ds) h k =
    let w = v * 10 + (b - 48) in
    let low = k.0.0 in
    let high = k.0.1 in
    let above : w / 10 ≡ v = omega arith in
    let last : digit (w % 10) ≡ b = omega arith in
    let next : decimal w ≡ decimal v ++ (b ∷ []) =
    decimal-more w (omega arith) ∙ rw (above, last) in
    value-after w ds (omega arith) k.1 ∙ rw next (append_snoc (decimal v) b ds)

pub numeral_decimal : (n : ℕ) (ds : List ℕ) → Numeral n ds → ds ≡ decimal n
numeral_decimal n [] m = absurd (omega (arith, m.there))
numeral_decimal n (b ∷ ds) m =
    let low = m.are_digits.0.0 in
    let high = m.are_digits.0.1 in
    ⊎_elim
    (λ l. let first : b ≡ 48 = omega arith in
    let none : ds ≡ [] = m.no_leading_zero ds (ap (λ (x : ℕ). x ∷ ds) first) in
    let zeros : value_from 0 (48 ∷ []) ≡ n = rw (first, none) at m.value in
    let is_0 : n ≡ 0 = omega arith in
    rw (first, none, is_0) (sym (decimal_one 0 (omega arith))))
    (λ l. let w = 0 * 10 + (b - 48) in
    let back : digit w ≡ b = omega arith in
    let one : decimal w ≡ b ∷ [] = decimal_one w (omega arith) ∙ rw back in
    sym (ap decimal (sym m.value) ∙ value-after w ds (omega arith) m.are_digits.1 ∙ rw one))
    (lt-or-le b 49)
