-- How the class table is filled: each class toggles its position at its low byte and just past its high byte, and a sweep over the bytes
-- carries the set along. That this gives the class table is shown in HoldingLaws.
use Rattle.std.specs.Prelude.{Bool, List, ℕ, zero, suc, eqb, get_or}
use Rattle.std.specs.Bool.{xor}
use Rattle.std.specs.Int.Bits.{bit_xor}

-- Whether a class begins at a byte or has just ended before it.
unfoldable pub edge : ℕ → ℕ → ℕ → Bool
edge low high b = xor (eqb low b) (eqb (suc high) b)

-- The sets of all bytes up to b, each position toggled as often as it stands in one.
unfoldable pub swept : List ℕ → ℕ → ℕ
swept table zero = get_or table 0 0
swept table (suc b) = bit_xor (swept table b) (get_or table (suc b) 0)
