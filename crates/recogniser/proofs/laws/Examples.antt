-- Descents over a few expressions, and the whole recogniser over sheet D, computed. Tokens N = 0 and S = 1.
use Rattle.std.specs.Prelude.{◌≡◌, refl, List, [], ◌∷◌, map, ℕ}
use Rattle.sheet.specs.Expression.{Expression, epsilon, bottom, token, sequence, alternative, fixed_point, variable, repetition}
use Rattle.sheet.specs.SheetD.{bytes_of_D}
use Rattle.image.specs.Answer.{Answer, answer}
use Rattle.image.specs.Check.{work_bytes}
use Rattle.recogniser.specs.Descends.{Descent, left, stuck}
use Rattle.recogniser.specs.Descending.{descend_whole}
use Rattle.recogniser.specs.Recognise.{Ending, ending, recognise}
use Rattle.recogniser.specs.laws.Computing.{computing_recogniser}

pub record Example : Type 0 where
  pub expression : Expression
  pub tokens : List ℕ
  pub descent : Descent

abbrev example : Expression → List ℕ → Descent → Example
example e ts o = record { expression = e; tokens = ts; descent = o }

abbrev N : Expression
N = token 0

abbrev S : Expression
S = token 1

-- Sheet D's.
abbrev D : Expression
D = sequence N (fixed_point (alternative epsilon (sequence S (sequence N (variable 0)))))

pub examples : List Example
examples =
    example D (0 ∷ 1 ∷ 0 ∷ []) (left [])
    -- 12//7
    ∷ example D (0 ∷ 1 ∷ 1 ∷ 0 ∷ []) (stuck (1 ∷ 0 ∷ []))
    -- 12 7 /
    ∷ example D (0 ∷ 0 ∷ 1 ∷ []) (left (0 ∷ 1 ∷ []))
    -- 12/
    ∷ example D (0 ∷ 1 ∷ []) (stuck [])
    ∷ example D [] (stuck [])
    -- N·⊥ ∨ S: the branch that denotes nothing is not entered
    ∷ example (alternative (sequence N bottom) S) (0 ∷ []) (stuck (0 ∷ []))
    ∷ example (alternative (alternative (sequence N bottom) S) epsilon) (0 ∷ []) (left (0 ∷ []))
    -- μα.N·α
    ∷ example (fixed_point (sequence N (variable 0))) (0 ∷ 0 ∷ []) (stuck (0 ∷ 0 ∷ []))
    ∷ example (fixed_point (sequence N (variable 0))) [] (stuck [])
    -- (S·N*)·S
    ∷ example (sequence (sequence S (repetition N)) S) (1 ∷ 0 ∷ 0 ∷ 1 ∷ []) (left [])
    ∷ example (repetition (sequence N S)) (0 ∷ 1 ∷ 0 ∷ []) (stuck [])
    ∷ []

pub examples-descend : map (λ x. descend_whole x.expression x.tokens) examples ≡ map (λ x. x.descent) examples
unfolding examples computing_recogniser
examples-descend = refl

-- Sheet D, with the work area that document 01 names and a list of so many bytes: the text and how recognising ends.
pub record TextExample : Type 0 where
  pub text : List ℕ
  pub room : ℕ
  pub ends : Ending

abbrev text_example : List ℕ → ℕ → Answer → List ℕ → TextExample
text_example text room a tokens = record { text = text; room = room; ends = ending a tokens }

pub text_examples : List TextExample
text_examples =
    -- 12/7
    text_example (49 ∷ 50 ∷ 47 ∷ 55 ∷ []) 4 (answer 0 4 3) (0 ∷ 1 ∷ 0 ∷ [])
    ∷ text_example (49 ∷ 50 ∷ 47 ∷ 55 ∷ []) 3 (answer 20 0 0) []
    -- 12//7
    ∷ text_example (49 ∷ 50 ∷ 47 ∷ 47 ∷ 55 ∷ []) 5 (answer 15 3 4) (0 ∷ 1 ∷ 1 ∷ 0 ∷ [])
    -- 12//x: no rule matches x, which the machine does not come to
    ∷ text_example (49 ∷ 50 ∷ 47 ∷ 47 ∷ 120 ∷ []) 5 (answer 14 4 3) (0 ∷ 1 ∷ 1 ∷ [])
    -- 12/ and a blank
    ∷ text_example (49 ∷ 50 ∷ 47 ∷ 32 ∷ []) 4 (answer 16 4 2) (0 ∷ 1 ∷ [])
    ∷ text_example [] 0 (answer 16 0 0) []
    ∷ []

pub text_examples_end : map (λ x. recognise bytes_of_D x.text work_bytes x.room) text_examples ≡ map (λ x. x.ends) text_examples
unfolding text_examples computing_recogniser
text_examples_end = refl
