-- Hexadecimal digits and the bytes that they make. Capitals are no digits here. Definitions only: the laws are in `DigitLaws`.
use Rattle.std.specs.Prelude.{ℕ, ◌+◌, ◌-◌, ◌*◌, List, ◌&&◌, cond, leb, Option, Some, None, slice_get, option_and_then}

-- "0" to "9" stand for their own values, "a" to "f" for those from ten on, and no other character for any.
unfoldable pub digit_value : ℕ → Option ℕ
digit_value c = cond (leb 48 c && leb c 57) (Some (c - 48)) (cond (leb 97 c && leb c 102) (Some (c - 97 + 10)) None)

-- The byte of two digits: the first one counts sixteen times as much.
unfoldable pub byte_of : Option ℕ → Option ℕ → Option ℕ
byte_of (Some high) (Some low) = Some (high * 16 + low)
byte_of (Some high) None = None
byte_of None low = None

-- The digit at a place of a text.
unfoldable pub digit_there : List ℕ → ℕ → Option ℕ
digit_there text at = option_and_then digit_value (slice_get text at)

-- The byte of the two digits from a place on; none where one of them is lacking.
unfoldable pub byte_there : List ℕ → ℕ → Option ℕ
byte_there text at = byte_of (digit_there text at) (digit_there text (at + 1))
