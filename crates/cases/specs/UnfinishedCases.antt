-- The worked cases of request [8]: sheets with branches that denote nothing, with D's rules. That every row holds is shown elsewhere.
use Rattle.std.specs.Prelude.{List, [], ◌∷◌, ◌++◌, ℕ}
use Rattle.sheet.specs.SheetD.{with_expression}
use Rattle.image.specs.Answer.{answer}
use Rattle.image.specs.Check.{work_bytes}
use Rattle.image.specs.Write.{refused, written}
use Rattle.demands.specs.ImageD.{rules_of_image_D}
use Rattle.cases.specs.Cases.{Case, writes, checks, reads, recognises, denotes_only, denotes_nothing}

-- N·⊥ ∨ N
abbrev pub unfinished : List ℕ
unfinished = with_expression (4 ∷ 3 ∷ 2 ∷ 0 ∷ 1 ∷ 2 ∷ 0 ∷ [])

-- N·⊥ ∨ N·⊥: before dropping, its row has two productions for N.
abbrev pub twice_unfinished : List ℕ
twice_unfinished = with_expression (4 ∷ 3 ∷ 2 ∷ 0 ∷ 1 ∷ 3 ∷ 2 ∷ 0 ∷ 1 ∷ [])

-- One nonterminal without ε, with one production: rule 2, and an empty tail.
abbrev pub image_of_N : List ℕ
image_of_N = rules_of_image_D ++ (1 ∷ 0 ∷ 1 ∷ 2 ∷ 0 ∷ [])

-- One nonterminal without a production.
abbrev pub image_of_nothing : List ℕ
image_of_nothing = rules_of_image_D ++ (1 ∷ 0 ∷ 0 ∷ [])

unfoldable pub unfinished_cases : List Case
unfinished_cases =
    -- N·⊥ ∨ N passes, has the image that N has, and denotes N alone: `1`, `/` and the empty text
    writes (with_expression (2 ∷ 0 ∷ [])) (written image_of_N)
    ∷ checks unfinished work_bytes (answer 0 0 0)
    ∷ writes unfinished (written image_of_N)
    ∷ denotes_only unfinished (0 ∷ [])
    ∷ reads unfinished (49 ∷ []) (answer 0 1 1)
    ∷ reads unfinished (47 ∷ []) (answer 15 0 0)
    ∷ reads unfinished [] (answer 16 0 0)
    -- the recogniser enters the branch that denotes N
    ∷ recognises unfinished (49 ∷ []) (9 ∷ []) (answer 0 1 1) (0 ∷ [])
    -- N·(μα.N·α) ∨ N: it is the part's type that counts
    ∷ writes (with_expression (4 ∷ 3 ∷ 2 ∷ 0 ∷ 5 ∷ 3 ∷ 2 ∷ 0 ∷ 6 ∷ 0 ∷ 2 ∷ 0 ∷ [])) (written image_of_N)
    -- N·⊥ ∨ N·⊥
    ∷ writes twice_unfinished (written image_of_nothing)
    ∷ denotes_nothing twice_unfinished
    -- (S·(N·⊥ ∨ ε))·N: N does not follow a last S
    ∷ writes (with_expression (3 ∷ 3 ∷ 2 ∷ 1 ∷ 4 ∷ 3 ∷ 2 ∷ 0 ∷ 1 ∷ 0 ∷ 2 ∷ 0 ∷ []))
    (written (rules_of_image_D ++ (3 ∷ 0 ∷ 1 ∷ 0 ∷ 2 ∷ 1 ∷ 2 ∷ 1 ∷ 0 ∷ 0 ∷ 1 ∷ 2 ∷ 0 ∷ [])))
    -- (⊥·(N ∨ ε))·N and ((μα.N·α)·(N ∨ ε))·N: the type of a left part counts for what may follow
    ∷ writes (with_expression (3 ∷ 3 ∷ 1 ∷ 4 ∷ 2 ∷ 0 ∷ 0 ∷ 2 ∷ 0 ∷ [])) (written image_of_nothing)
    ∷ writes (with_expression (3 ∷ 3 ∷ 5 ∷ 3 ∷ 2 ∷ 0 ∷ 6 ∷ 0 ∷ 4 ∷ 2 ∷ 0 ∷ 0 ∷ 2 ∷ 0 ∷ [])) (written image_of_nothing)
    -- these passed before: ⊥·N ∨ N, ⊥·N and (N·⊥)*
    ∷ writes (with_expression (4 ∷ 3 ∷ 1 ∷ 2 ∷ 0 ∷ 2 ∷ 0 ∷ [])) (written image_of_N)
    ∷ writes (with_expression (3 ∷ 1 ∷ 2 ∷ 0 ∷ [])) (written image_of_nothing)
    ∷ writes (with_expression (7 ∷ 3 ∷ 2 ∷ 0 ∷ 1 ∷ [])) (written (rules_of_image_D ++ (1 ∷ 1 ∷ 0 ∷ [])))
    -- side conditions are unchanged: ε·⊥, (N·⊥ ∨ ε)·N, and N·(N·⊥ ∨ ε) ∨ N, whose first branch denotes N
    ∷ writes (with_expression (3 ∷ 0 ∷ 1 ∷ [])) (refused 9 20)
    ∷ writes (with_expression (3 ∷ 4 ∷ 3 ∷ 2 ∷ 0 ∷ 1 ∷ 0 ∷ 2 ∷ 0 ∷ [])) (refused 9 20)
    ∷ writes (with_expression (4 ∷ 3 ∷ 2 ∷ 0 ∷ 4 ∷ 3 ∷ 2 ∷ 0 ∷ 1 ∷ 0 ∷ 2 ∷ 0 ∷ [])) (refused 10 20)
    ∷ []
