-- The worked cases of repetition (tag 7), with sheet D's rules, as rows of one table beside that of document 01. That every row holds is
-- shown elsewhere.
use Rattle.std.specs.Prelude.{List, [], ◌∷◌, ◌++◌, ℕ}
use Rattle.sheet.specs.SheetD.{with_expression}
use Rattle.image.specs.Write.{refused, written}
use Rattle.image.specs.Answer.{answer}
use Rattle.demands.specs.ImageD.{rules_of_image_D}
use Rattle.cases.specs.Cases.{Case, writes, reads}

-- N·(S·N)*, and its image
abbrev pub counts : List ℕ
counts = with_expression (3 ∷ 2 ∷ 0 ∷ 7 ∷ 3 ∷ 2 ∷ 1 ∷ 2 ∷ 0 ∷ [])

abbrev pub image_of_counts : List ℕ
image_of_counts =
    rules_of_image_D ++ (3 ∷ 0 ∷ 1 ∷ 2 ∷ 1 ∷ 1 ∷ 1 ∷ 1 ∷ 0 ∷ 2 ∷ 2 ∷ 1 ∷ 0 ∷ 1 ∷ 2 ∷ 0 ∷ [])

-- (N)*, which names itself
abbrev pub numbers : List ℕ
numbers = with_expression (7 ∷ 2 ∷ 0 ∷ [])

abbrev pub image_of_numbers : List ℕ
image_of_numbers = rules_of_image_D ++ (1 ∷ 1 ∷ 1 ∷ 2 ∷ 1 ∷ 0 ∷ [])

unfoldable pub repetition_cases : List Case
repetition_cases =
    -- N·(S·N)*: its image, and `12/7`, `12//7`, `12/`
    writes counts (written image_of_counts)
    ∷ reads counts (49 ∷ 50 ∷ 47 ∷ 55 ∷ []) (answer 0 4 3)
    ∷ reads counts (49 ∷ 50 ∷ 47 ∷ 47 ∷ 55 ∷ []) (answer 15 3 2)
    ∷ reads counts (49 ∷ 50 ∷ 47 ∷ []) (answer 16 3 2)
    -- (N)*: its image, the empty text, `1 2`
    ∷ writes numbers (written image_of_numbers)
    ∷ reads numbers [] (answer 0 0 0)
    ∷ reads numbers (49 ∷ 32 ∷ 50 ∷ []) (answer 0 3 2)
    -- (ε)*, (ε ∨ N)*, ((N)*)*, (N·(N)*)*
    ∷ writes (with_expression (7 ∷ 0 ∷ [])) (refused 9 20)
    ∷ writes (with_expression (7 ∷ 4 ∷ 0 ∷ 2 ∷ 0 ∷ [])) (refused 9 20)
    ∷ writes (with_expression (7 ∷ 7 ∷ 2 ∷ 0 ∷ [])) (refused 9 20)
    ∷ writes (with_expression (7 ∷ 3 ∷ 2 ∷ 0 ∷ 7 ∷ 2 ∷ 0 ∷ [])) (refused 9 20)
    -- (N·(S)*)·S
    ∷ writes (with_expression (3 ∷ 3 ∷ 2 ∷ 0 ∷ 7 ∷ 2 ∷ 1 ∷ 2 ∷ 1 ∷ [])) (refused 9 20)
    -- (N ∨ N)*
    ∷ writes (with_expression (7 ∷ 4 ∷ 2 ∷ 0 ∷ 2 ∷ 0 ∷ [])) (refused 10 21)
    -- μα.(α)* and μα.N·(S·α)*
    ∷ writes (with_expression (5 ∷ 7 ∷ 6 ∷ 0 ∷ [])) (refused 9 21)
    ∷ writes (with_expression (5 ∷ 3 ∷ 2 ∷ 0 ∷ 7 ∷ 3 ∷ 2 ∷ 1 ∷ 6 ∷ 0 ∷ [])) (refused 9 24)
    -- (⊥)*: one nonterminal, ε flag 1, no production
    ∷ writes (with_expression (7 ∷ 1 ∷ [])) (written (rules_of_image_D ++ (1 ∷ 1 ∷ 0 ∷ [])))
    -- N·(⊥)*: it derives the empty sequence, so N's production stays
    ∷ writes (with_expression (3 ∷ 2 ∷ 0 ∷ 7 ∷ 1 ∷ [])) (written (rules_of_image_D ++ (2 ∷ 0 ∷ 1 ∷ 2 ∷ 1 ∷ 1 ∷ 1 ∷ 0 ∷ [])))
    ∷ []
