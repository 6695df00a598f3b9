-- The recogniser as a function, which the code's contracts cite: checking, questions 12 and 20, the tokens by longest match alone, and the
-- descent over them, which decides. What it gives is what the relation says, and nothing else (RecognisesLaws: `recognises_iff`).
use Rattle.std.specs.Prelude.{cond, List, [], ℕ, ltb, length}
use Rattle.basics.specs.Lists.{written_over}
use Rattle.sheet.specs.Sheet.{Sheet}
use Rattle.lexer.specs.RuleOrder.{image_sheet}
use Rattle.image.specs.Answer.{Answer, answer}
use Rattle.image.specs.Check.{Verdict, failed, passed, check, work_after}
use Rattle.recogniser.specs.Descends.{Descent, number_for, place_for}
use Rattle.recogniser.specs.Descending.{descend_whole}
use Rattle.recogniser.specs.Recognises.{most_recognised_bytes, Recognised}
use Rattle.recogniser.specs.Listing.{Listed, list_tokens}

-- How recognising ends: the answer, and the tokens written.
pub record Ending : Type 0 where
  pub answer : Answer
  pub tokens : List ℕ

abbrev pub ending : Answer → List ℕ → Ending
ending a tokens = record { answer = a; tokens = tokens }

-- What a descent says of tokens that start at these places, in a text of so many bytes.
unfoldable pub descent_answer : List ℕ → ℕ → Descent → Answer
descent_answer starts end o = answer (number_for o) (place_for starts o end) (length starts)

-- Once the tokens are listed: 14 if reading stopped before the text's end, else the descent decides.
unfoldable pub after_listing : Sheet → ℕ → Listed → Ending
after_listing s end l =
    ending
    (cond (ltb l.place end) (answer 14 l.place (length l.tokens))
    (descent_answer l.starts end (descend_whole s.expression l.tokens)))
    l.tokens

-- Questions 12 and 20, and then the text, with a list of so many bytes.
unfoldable pub after_checking : List ℕ → ℕ → Verdict → Ending
after_checking text room (failed question place) = ending (answer question place 0) []
after_checking text room (passed s) =
    cond (ltb most_recognised_bytes (length text)) (ending (answer 12 0 0) [])
    (cond (ltb room (length text)) (ending (answer 20 0 0) [])
    (after_listing s (length text) (list_tokens (image_sheet s).rules text)))

-- With a work area and a list of so many bytes.
unfoldable pub recognise : List ℕ → List ℕ → ℕ → ℕ → Ending
recognise sheet text work room = after_checking text room (check sheet work)

-- By the way in which recognising ends, with a lent work area and a lent list: "one an entry, the rest of the list unchanged".
abbrev pub recognised_with : List ℕ → List ℕ → Ending → Recognised
recognised_with work list e = record {
  answer = e.answer;
  tokens = e.tokens;
  list = written_over e.tokens list;
  work = work_after work;
}

-- Of a sheet, a text, a lent work area and a lent list: what the code's contracts cite.
abbrev pub recognised : List ℕ → List ℕ → List ℕ → List ℕ → Recognised
recognised sheet text work list = recognised_with work list (recognise sheet text (length work) (length list))
