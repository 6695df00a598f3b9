-- The worked cases of request [7]: what the recogniser answers, and what its list holds then. Some more texts of sheet D are examples of the
-- crate `recogniser`, and the vectors' program has those that are too long to be read here. That every row holds is shown elsewhere.
use Rattle.std.specs.Prelude.{List, [], ◌∷◌, ℕ, replicate}
use Rattle.sheet.specs.SheetD.{with_expression, bytes_of_D}
use Rattle.image.specs.Answer.{answer}
use Rattle.cases.specs.Cases.{Case, recognises, endless}
use Rattle.cases.specs.CheckCases.{not_apart}

-- N·⊥ ∨ S: a branch that denotes nothing
abbrev pub dead_branch : List ℕ
dead_branch = with_expression (4 ∷ 3 ∷ 2 ∷ 0 ∷ 1 ∷ 2 ∷ 1 ∷ [])

-- A list of so many bytes, none of which is a token of these sheets.
abbrev pub room : ℕ → List ℕ
room n = replicate n 9

unfoldable pub recogniser_cases : List Case
recogniser_cases =
    -- sheet D: `12 /7` and `12 7 /`, with longer lists whose rest is kept
    recognises bytes_of_D (49 ∷ 50 ∷ 32 ∷ 47 ∷ 55 ∷ []) (room 6) (answer 0 5 3) (0 ∷ 1 ∷ 0 ∷ 9 ∷ 9 ∷ 9 ∷ [])
    ∷ recognises bytes_of_D (49 ∷ 50 ∷ 32 ∷ 55 ∷ 32 ∷ 47 ∷ []) (room 6) (answer 15 3 3) (0 ∷ 0 ∷ 1 ∷ 9 ∷ 9 ∷ 9 ∷ [])
    -- `12//7h`: 14 at the last byte, though the machine stops at the second `/`, and the tokens behind that are written, too
    ∷ recognises bytes_of_D (49 ∷ 50 ∷ 47 ∷ 47 ∷ 55 ∷ 104 ∷ []) (room 6) (answer 14 5 4) (0 ∷ 1 ∷ 1 ∷ 0 ∷ 9 ∷ 9 ∷ [])
    -- N·⊥ ∨ S and `1`: N is not taken, and is written
    ∷ recognises dead_branch (49 ∷ []) (room 1) (answer 15 0 1) (0 ∷ [])
    ∷ recognises dead_branch (47 ∷ []) (room 1) (answer 0 1 1) (1 ∷ [])
    -- μα.N·α, which denotes nothing: `1 2` and the empty text
    ∷ recognises endless (49 ∷ 32 ∷ 50 ∷ []) (room 3) (answer 15 0 2) (0 ∷ 0 ∷ 9 ∷ [])
    ∷ recognises endless [] (room 1) (answer 16 0 0) (room 1)
    -- a list that is one byte short, though the tokens would fit
    ∷ recognises bytes_of_D (49 ∷ 50 ∷ 32 ∷ 47 ∷ 55 ∷ []) (room 4) (answer 20 0 0) (room 4)
    -- the limit of 2,048 bytes: 20 is put within it, and above it 12, whatever the list
    ∷ recognises bytes_of_D (replicate 2048 49) (room 2047) (answer 20 0 0) (room 2047)
    ∷ recognises bytes_of_D (replicate 2049 49) (room 2048) (answer 12 0 0) (room 2048)
    ∷ recognises bytes_of_D (replicate 2049 49) (room 2049) (answer 12 0 0) (room 2049)
    -- a sheet that does not pass, whatever the text and the list
    ∷ recognises not_apart (replicate 2049 49) [] (answer 10 20 0) []
    ∷ []
