-- A number in decimal, as bytes. The definition only: that it is right is in the laws.
use Rattle.std.specs.Prelude.{ℕ, zero, suc, ◌+◌, ◌/◌, ◌%◌, cond, List, [], ◌∷◌, ◌++◌, ltb}

-- The byte of a digit: `0` is 48.
abbrev pub digit : ℕ → ℕ
digit d = 48 + d

-- The digits of a number, the highest first, in at most so many places.
unfoldable pub digits_in : ℕ → ℕ → List ℕ
digits_in zero n = []
digits_in (suc k) n = cond (ltb n 10) (digit n ∷ []) (digits_in k (n / 10) ++ (digit (n % 10) ∷ []))

-- No number n has more than n + 1 digits, so none is cut off.
unfoldable pub decimal : ℕ → List ℕ
decimal n = digits_in (suc n) n
