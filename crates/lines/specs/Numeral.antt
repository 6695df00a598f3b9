-- What it is for some bytes to be the decimal numeral of a number, said without working one out.
-- No contract cites it: the laws show by it that `decimal` is right.
use Rattle.std.specs.Prelude.{◌≡◌, List, [], ◌∷◌, ℕ, ◌+◌, ◌-◌, ◌*◌, ◌≤◌, ◌<◌, length}
use Rattle.basics.specs.Lists.{All}

-- The byte is one of `0` to `9`.
abbrev pub IsDigit : ℕ → Type 0
IsDigit b = (48 ≤ b) × (b ≤ 57)

-- The value of digits that stand after digits of a known value: each counts ten times the next.
abbrev pub value_from : ℕ → List ℕ → ℕ
value_from v [] = v
value_from v (b ∷ rest) = value_from (v * 10 + (b - 48)) rest

pub record Numeral (n : ℕ) (ds : List ℕ) : Type 0 where
  pub there : 0 < length ds
  pub are_digits : All IsDigit ds
  pub value : value_from 0 ds ≡ n
  -- Digits that begin with `0` are `0` alone.
  pub no_leading_zero : (rest : List ℕ) → ds ≡ 48 ∷ rest → rest ≡ []
