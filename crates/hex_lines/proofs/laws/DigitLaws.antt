-- The laws of digits: which characters stand for which values, and that no value is sixteen or more.
use Rattle.std.proofs.Common.{◌≡◌, ℕ, ◌+◌, ◌-◌, ◌<◌, Bool, true, false, [], ◌∷◌, map, arith, refl, Some, None}
use Rattle.std.specs.Prelude.{cond, leb, ◌&&◌}
use Rattle.std.proofs.lemmas.Bool.Decides.{nat_tests}
use Rattle.hex_lines.specs.Hex.{digit_value}

-- "0123456789abcdef" are the digits in the order of their values; the characters beside them are none.
pub digits_in_order : map digit_value (48 ∷ 49 ∷ 50 ∷ 51 ∷ 52 ∷ 53 ∷ 54 ∷ 55 ∷ 56 ∷ 57 ∷ 97 ∷ 98 ∷ 99 ∷ 100 ∷ 101 ∷ 102 ∷ [])
    ≡ map Some (0 ∷ 1 ∷ 2 ∷ 3 ∷ 4 ∷ 5 ∷ 6 ∷ 7 ∷ 8 ∷ 9 ∷ 10 ∷ 11 ∷ 12 ∷ 13 ∷ 14 ∷ 15 ∷ [])
unfolding digit_value
digits_in_order = refl

pub no_digits : map digit_value (47 ∷ 58 ∷ 96 ∷ 103 ∷ []) ≡ None ∷ None ∷ None ∷ None ∷ []
unfolding digit_value
no_digits = refl

digit_cases : (low high : Bool) (c : ℕ) {v : ℕ} → (leb 48 c && leb c 57) ≡ low → (leb 97 c && leb c 102) ≡ high
    → cond low (Some (c - 48)) (cond high (Some (c - 97 + 10)) None) ≡ Some v → v < 16
digit_cases true high c l h e = grind (arith, nat_tests)
digit_cases false true c l h e = grind (arith, nat_tests)
digit_cases false false c {v} l h e = let z : None ≡ Some v = e in cc

pub digit_small : (c : ℕ) {v : ℕ} → digit_value c ≡ Some v → v < 16
unfolding digit_value
digit_small c e = digit_cases (leb 48 c && leb c 57) (leb 97 c && leb c 102) c refl refl e
