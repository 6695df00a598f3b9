-- Where the lines of a text end.
use Rattle.std.specs.Prelude.{ℕ, suc, ◌+◌, List, [], ◌∷◌, drop, cond, eqb}

-- How many bytes the first line of a text has, with its line end where it has one.
unfoldable pub line_length : List ℕ → ℕ
line_length [] = 0
line_length (c ∷ rest) = cond (eqb c 10) 1 (suc (line_length rest))

-- The place after the next line end from a place on; the end of the text where no line end is left.
unfoldable pub after_line : List ℕ → ℕ → ℕ
after_line text at = at + line_length (drop at text)
