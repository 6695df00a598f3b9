-- What the code's answers stand for: the number and the place for each answer of checking, the answer for each way in which checking ends,
-- and what is handed on to writing. When it ends so is not said here.
use Rattle.std.specs.Prelude.{◌≡◌, Result, Ok, Err, IsOkAnd}
use Rattle.image.specs.Answer.{Answer, answer}
use Rattle.image.specs.Check as page
use Rattle.sheet_reader.specs.Reads.{refused}
use Rattle.sheet_reader.specs.declared.Refusal.{Refusal}
use Rattle.sheet_checker.specs.Steps.{PassedParts}
use Rattle.sheet_checker.specs.declared.CheckedSheet.{CheckedSheet}

-- "answered by number and place": 0 and 0 where the sheet passes
unfoldable pub answer_of : Result Unit Refusal → Answer
answer_of (Ok u) = answer 0 0 0
answer_of (Err refusal) = answer refusal.question refusal.place 0

-- The answer of each way to end. It does not keep the sheet.
unfoldable pub case_of : page.Verdict → Result Unit Refusal
case_of (page.failed number place) = refused number place
case_of (page.passed s) = Ok tt

-- Checking ends so: it hands on the columns of a sheet that passed, and of one that failed the question and its place alone.
abbrev pub Ends : page.Verdict → Result CheckedSheet Refusal → Type 0
Ends (page.failed number place) r = r ≡ refused number place
Ends (page.passed s) r = IsOkAnd r (PassedParts s)
