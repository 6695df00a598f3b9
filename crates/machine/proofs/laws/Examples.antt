-- Runs of small sheets' images, where a wrong reading of the page would answer otherwise ("Readings that go wrong"): one table,
-- one theorem, by computing.
use Rattle.std.specs.Prelude.{◌≡◌, refl, List, [], ◌∷◌, map, ℕ}
use Rattle.sheet.specs.Regex.{Regex, class, concat}
use Rattle.sheet.specs.Expression.{Expression, epsilon, bottom, token, sequence, alternative, fixed_point, variable}
use Rattle.sheet.specs.Sheet.{Rule, Sheet}
use Rattle.image.specs.Image.{image_of}
use Rattle.image.specs.Answer.{Answer, answer}
use Rattle.machine.specs.Trace.{answer_of}
use Rattle.machine.specs.Lent.{long_enough}
use Rattle.machine.specs.Run.{trace}
use Rattle.machine.specs.laws.Computing.{computing_machine}

pub record Example : Type 0 where
  pub sheet : Sheet
  pub text : List ℕ
  pub answered : Answer

-- A rule that returns token k for a word of one byte or two.
abbrev byte : ℕ → Regex
byte b = class b b

abbrev returning : ℕ → Regex → Rule
returning action r = record { action = action; regex = r }

-- `a`, `ab`, `b` give A, B, C.
abbrev words : List Rule
words = returning 1 (byte 97) ∷ returning 2 (concat (byte 97) (byte 98)) ∷ returning 3 (byte 98) ∷ []

-- `a` gives N, `b` gives S.
abbrev letters : List Rule
letters = returning 1 (byte 97) ∷ returning 2 (byte 98) ∷ []

abbrev example : List Rule → Expression → List ℕ → Answer → Example
example rules e text a = record { sheet = record { tokens = 3; rules = rules; expression = e }; text = text; answered = a }

pub examples : List Example
examples =
    -- A·C over `ab`: the longest match is B
    example words (sequence (token 0) (token 2)) (97 ∷ 98 ∷ []) (answer 15 0 0)
    -- μβ.(ε ∨ N·β) over `aa`: ε is not taken while the row has a production for the rule
    ∷ example letters (fixed_point (alternative epsilon (sequence (token 0) (variable 0)))) (97 ∷ 97 ∷ []) (answer 0 2 2)
    -- N·⊥ ∨ S over `a`: the tail that leads nowhere is gone, so 15 comes at once
    ∷ example letters (alternative (sequence (token 0) bottom) (token 1)) (97 ∷ []) (answer 15 0 0)
    -- (N·S)·N over `aba`: the right node stands at the end of the tail
    ∷ example letters (sequence (sequence (token 0) (token 1)) (token 0)) (97 ∷ 98 ∷ 97 ∷ []) (answer 0 3 3)
    -- N·(S·N) over `ab`: pending at the end is not nullable
    ∷ example letters (sequence (token 0) (sequence (token 1) (token 0))) (97 ∷ 98 ∷ []) (answer 16 2 2)
    ∷ []

pub examples_answered : map (λ x. answer_of (trace (image_of x.sheet) (long_enough x.text) x.text)) examples ≡ map (λ x. x.answered) examples
unfolding examples computing_machine
examples_answered = refl
