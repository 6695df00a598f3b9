-- The class table: for each byte the positions whose class has it. How it is filled, and what a scanner makes of it, is not said here.
use Rattle.std.specs.Prelude.{◌≡◌, cond, List, [], ◌∷◌, ℕ, suc, ◌^◌, ◌<◌, get_or}
use Rattle.std.specs.Int.Bits.{bit_or}
use Rattle.lexer.specs.Positions.{Position}
use Rattle.lexer.specs.Walk.{has_byte}

-- The positions, from position i on, whose class has the byte.
unfoldable pub having : List Position → ℕ → ℕ → ℕ
having [] i b = 0
having (p ∷ ps) i b = bit_or (cond (has_byte p b) (2 ^ i) 0) (having ps (suc i) b)

-- A table of 256 sets is the positions' own.
abbrev pub ClassTable : List Position → List ℕ → Type 0
ClassTable ps table = (b : ℕ) → b < 256 → get_or table b 0 ≡ having ps 0 b
