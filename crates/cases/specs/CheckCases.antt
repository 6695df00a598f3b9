-- The worked cases of checking and writing as a pair: the verdict alone, and image buffers around the image's own length. That every row
-- holds is shown elsewhere.
use Rattle.std.specs.Prelude.{List, [], ◌∷◌, ℕ}
use Rattle.sheet.specs.SheetD.{with_expression, bytes_of_D}
use Rattle.image.specs.Answer.{answer}
use Rattle.image.specs.Check.{work_bytes}
use Rattle.image.specs.Write.{refused, too_long, written}
use Rattle.demands.specs.ImageD.{image_D}
use Rattle.cases.specs.Cases.{Case, checks, writes_with}

-- N ∨ N
abbrev pub not_apart : List ℕ
not_apart = with_expression (4 ∷ 2 ∷ 0 ∷ 2 ∷ 0 ∷ [])

-- One token, one rule that returns it and matches the empty word (a star of `a`), and the token as the expression.
abbrev pub empty_word : List ℕ
empty_word = 1 ∷ 1 ∷ 1 ∷ 1 ∷ 4 ∷ 1 ∷ 97 ∷ 97 ∷ 2 ∷ 0 ∷ []

unfoldable pub check_cases : List Case
check_cases =
    -- sheet D passes; with a work area that is one byte short it does not
    checks bytes_of_D 65536 (answer 0 0 0)
    ∷ checks bytes_of_D 65535 (answer 1 0 0)
    -- a version that is not allowed
    ∷ checks (2 ∷ []) work_bytes (answer 4 0 0)
    -- no byte at all; D's rules with N, and a byte after it
    ∷ checks [] work_bytes (answer 3 0 0)
    ∷ checks (with_expression (2 ∷ 0 ∷ 0 ∷ [])) work_bytes (answer 6 22 0)
    -- questions 7 to 10
    ∷ checks empty_word work_bytes (answer 7 3 0)
    ∷ checks (with_expression (5 ∷ 6 ∷ 0 ∷ [])) work_bytes (answer 8 21 0)
    ∷ checks (with_expression (3 ∷ 4 ∷ 0 ∷ 2 ∷ 0 ∷ 2 ∷ 1 ∷ [])) work_bytes (answer 9 20 0)
    ∷ checks not_apart work_bytes (answer 10 20 0)
    -- D's image has 48 bytes
    ∷ writes_with work_bytes 48 bytes_of_D (written image_D)
    ∷ writes_with work_bytes 47 bytes_of_D (too_long 48)
    ∷ writes_with work_bytes 0 bytes_of_D (too_long 48)
    -- a sheet that does not pass is refused by what checking names, whatever the buffer
    ∷ writes_with work_bytes 0 not_apart (refused 10 20)
    ∷ writes_with 65535 48 bytes_of_D (refused 1 0)
    ∷ []
