-- Checking a sheet: how it ends, what is returned, what the lent work area holds at the end; and the function that asks questions 1 to
-- 10 in order, as the code does. No image is spoken of. What it must answer is said in Checks.
use Rattle.std.specs.Prelude.{cond, List, ◌++◌, ℕ, length, drop, get_or, replicate, ltb}
use Rattle.std.proofs.Math.Option.{Option, none, some}
use Rattle.sheet.specs.Limits.{most_sheet_bytes}
use Rattle.sheet.specs.Sheet.{Sheet}
use Rattle.sheet.specs.Field.{Reading, stop, got}
use Rattle.sheet.specs.Reading.{Contents, read_sheet}
use Rattle.types.specs.Questions.{Fault, type_fault}
use Rattle.lexer.specs.Positions.{empty_match}
use Rattle.image.specs.Answer.{Answer, answer}

-- "Has the work area at least 65,536 bytes?"
abbrev pub work_bytes : ℕ
work_bytes = 65536

-- How checking ends.
pub data Verdict : Type 0 where
  -- a question from 1 to 10 fails, at a place
  failed : ℕ → ℕ → Verdict
  -- the sheet that the bytes spell
  passed : Sheet → Verdict

-- Questions 8 to 10, at the failing node's tag.
unfoldable pub after_types : Contents → Option Fault → Verdict
after_types c none = passed c.sheet
after_types c (some f) = failed f.number (get_or c.node_places f.node 0)

-- Question 7, at the first bad rule's action.
unfoldable pub after_rules : Contents → Option ℕ → Verdict
after_rules c none = after_types c (type_fault c.sheet.expression)
after_rules c (some k) = failed 7 (get_or c.action_places k 0)

-- Questions 3 to 6 are put while reading.
unfoldable pub after_reading : Reading Contents → Verdict
after_reading (stop question place) = failed question place
after_reading (got c end) = after_rules c (empty_match c.sheet.rules 0)

-- Question 2, and those after it.
unfoldable pub after_work : List ℕ → Verdict
after_work sheet = cond (ltb most_sheet_bytes (length sheet)) (failed 2 0) (after_reading (read_sheet sheet))

-- Checking a sheet with a work area of so many bytes.
unfoldable pub check : List ℕ → ℕ → Verdict
check sheet work = cond (ltb work work_bytes) (failed 1 0) (after_work sheet)

-- "checking (questions 1 to 10, answered by number and place)": 0 and 0 where the sheet passes.
unfoldable pub check_answer : Verdict → Answer
check_answer (failed number place) = answer number place 0
check_answer (passed s) = answer 0 0 0

-- "The first 65,536 work bytes end as zero, except after 1, when none changes; the rest never change." After checking as after writing.
unfoldable pub work_after : List ℕ → List ℕ
work_after work = cond (ltb (length work) work_bytes) work (replicate work_bytes 0 ++ drop work_bytes work)

-- What checking gives: its answer, and the work area as it leaves it.
pub record Checked : Type 0 where
  pub answer : Answer
  pub work : List ℕ

-- Of a sheet and a lent work area: what the code's contracts cite.
abbrev pub checked : List ℕ → List ℕ → Checked
checked sheet work = record { answer = check_answer (check sheet (length work)); work = work_after work }
