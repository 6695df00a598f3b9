-- The bytes of a line that the program prints. Which line it is, is not said here.
-- Document 01: "Its lines: `sheet NUMBER PLACE`, `text NUMBER PLACE`, `accepted TOKENS`."
use Rattle.std.specs.Prelude.{ℕ, List, [], ◌∷◌, ◌++◌}
use Rattle.lines.specs.declared.Line.{Line}
use Rattle.lines.specs.declared.Line.TheVariants.{Sheet, Text, Accepted}
use Rattle.lines.specs.Decimal.{decimal}

-- The words, in ASCII.
abbrev pub sheet_word : List ℕ
sheet_word = 115 ∷ 104 ∷ 101 ∷ 101 ∷ 116 ∷ []

abbrev pub text_word : List ℕ
text_word = 116 ∷ 101 ∷ 120 ∷ 116 ∷ []

abbrev pub accepted_word : List ℕ
accepted_word = 97 ∷ 99 ∷ 99 ∷ 101 ∷ 112 ∷ 116 ∷ 101 ∷ 100 ∷ []

-- Each number in decimal with a blank before it, and then the line end.
unfoldable pub numbers_bytes : List ℕ → List ℕ
numbers_bytes [] = 10 ∷ []
numbers_bytes (n ∷ rest) = (32 ∷ decimal n) ++ numbers_bytes rest

unfoldable pub line_bytes : Line → List ℕ
line_bytes (Sheet number place) = sheet_word ++ numbers_bytes (number ∷ place ∷ [])
line_bytes (Text number place) = text_word ++ numbers_bytes (number ∷ place ∷ [])
line_bytes (Accepted count) = accepted_word ++ numbers_bytes (count ∷ [])
