-- Reading a text by a sheet: writing the sheet's image, then running it over the text; and the line that the program prints.
-- Demand 3 is stated of it: it gives the sheet's own answer.
use Rattle.std.specs.Prelude.{◌≡◌, Bool, true, false, cond, List, ℕ, ◌≤◌, ltb, eqb, length, Result, Ok, Err}
use Rattle.lines.specs.declared.Line.{Line}
use Rattle.lines.specs.declared.Line.TheVariants as printed
use Rattle.sheet.specs.Sheet.{Sheet}
use Rattle.image.specs.Check.{work_bytes}
use Rattle.image.specs.Write.{Written, refused, too_long, written}
use Rattle.image.specs.Writes.{Acceptable}
use Rattle.image.specs.Answer.{Answer, answer}
use Rattle.machine.specs.Lent.{most_text_bytes, long_enough, stack_alone}
use Rattle.machine.specs.Run.{run}
use Rattle.machine.specs.OwnAnswer.{OwnAnswer}
use Rattle.machine_turn.specs.Steps.{answer_held}
use Rattle.machine_turn.specs.declared.RunAnswer.{RunAnswer}
use Rattle.sheet_reader.specs.declared.Refusal.{Refusal}

-- What is told: a refusal of the sheet, or the text's answer.
pub data Told : Type 0 where
  sheet_refused : ℕ → ℕ → Told
  text_answered : Answer → Told

-- Document 01's numbers for each case of the code's answer.
abbrev pub told : Result RunAnswer Refusal → Told
told (Err r) = sheet_refused r.question r.place
told (Ok a) = text_answered (answer_held a)

-- A text over the limit is 12.
unfoldable pub answer_within : ℕ → List ℕ → List ℕ → List ℕ → Answer
answer_within limit image text stack = cond (ltb limit (length text)) (answer 12 0 0) (run image text (stack_alone stack)).answer

-- After writing, with a lent stack.
unfoldable pub reading : ℕ → Written → List ℕ → List ℕ → Told
reading limit (refused number place) text stack = sheet_refused number place
reading limit (too_long needed) text stack = sheet_refused 11 0
reading limit (written image) text stack = text_answered (answer_within limit image text stack)

-- The stack is untouched unless the image is run.
unfoldable pub stack_after_reading : ℕ → Written → List ℕ → List ℕ → List ℕ
stack_after_reading limit (refused number place) text stack = stack
stack_after_reading limit (too_long needed) text stack = stack
stack_after_reading limit (written image) text stack =
    cond (ltb limit (length text)) stack (run image text (stack_alone stack)).left.stack

-- "running the image fixed there over the text gives exactly the sheet's own answer": for every sheet that demand 2 accepts, a text
-- within the limits and a long enough stack.
pub record OwnReading (limit : ℕ) (sheet text : List ℕ) (work room entries : ℕ) (t : Told) : Type 0 where
  pub own_answer : (s : Sheet) → Acceptable sheet room s → work_bytes ≤ work
      → length text ≤ limit → length text ≤ most_text_bytes → long_enough text ≤ entries
      → (a : Answer) × OwnAnswer s text a × (t ≡ text_answered a)

-- "Its lines: `sheet NUMBER PLACE`, `text NUMBER PLACE`, `accepted TOKENS`." A line's bytes are in `lines`.
unfoldable pub text_line : Bool → Answer → Line
text_line true a = printed.Accepted a.amount
text_line false a = printed.Text a.number a.place

unfoldable pub line_of : Told → Line
line_of (sheet_refused number place) = printed.Sheet number place
line_of (text_answered a) = text_line (eqb a.number 0) a
