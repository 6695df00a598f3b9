-- Sheet D of document 01 ("Sheet D and its readings"): its value, and its bytes as the page lists them.
use Rattle.std.specs.Prelude.{List, [], ◌∷◌, ◌++◌, ℕ}
use Rattle.sheet.specs.Regex.{class, concat, star}
use Rattle.sheet.specs.Expression.{epsilon, token, sequence, alternative, fixed_point, variable}
use Rattle.sheet.specs.Sheet.{Sheet}

-- "Tokens N = 0, S = 1. Rules: one or more digits give N, `/` gives S, a blank skips. Expression N·μβ.(ε ∨ S·(N·β))."
abbrev pub sheet_D : Sheet
sheet_D = record {
  tokens = 2;
  rules = record { action = 1; regex = concat (class 48 57) (star (class 48 57)) }
      ∷ record { action = 2; regex = class 47 47 }
      ∷ record { action = 0; regex = class 32 32 }
      ∷ [];
  expression = sequence (token 0) (fixed_point (alternative epsilon (sequence (token 1) (sequence (token 0) (variable 0)))));
}

-- Version, token count, rule count, and the three rules.
abbrev pub head_of_D : List ℕ
head_of_D =
    1 ∷ 2 ∷ 3
    ∷ 1 ∷ 2 ∷ 1 ∷ 48 ∷ 57 ∷ 4 ∷ 1 ∷ 48 ∷ 57
    ∷ 2 ∷ 1 ∷ 47 ∷ 47
    ∷ 0 ∷ 1 ∷ 32 ∷ 32 ∷ []

-- A sheet of D's rules with another expression.
abbrev pub with_expression : List ℕ → List ℕ
with_expression e = head_of_D ++ e

abbrev pub bytes_of_D : List ℕ
bytes_of_D = with_expression (3 ∷ 2 ∷ 0 ∷ 5 ∷ 4 ∷ 0 ∷ 3 ∷ 2 ∷ 1 ∷ 3 ∷ 2 ∷ 0 ∷ 6 ∷ 0 ∷ [])
