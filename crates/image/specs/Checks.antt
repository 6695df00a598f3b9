-- What checking answers, in the page's terms: for each question from 1 to 10 in their order when it is the first to fail, with its number
-- and place, and that the sheet passes. There is one answer for all that is handed over (CheckQuestions); no function is named here.
use Rattle.std.specs.Prelude.{List, ℕ, ◌≤◌, ◌<◌, length, get_or}
use Rattle.sheet.specs.Limits.{most_sheet_bytes}
use Rattle.sheet.specs.Sheet.{Sheet}
use Rattle.sheet.specs.Field.{stop}
use Rattle.sheet.specs.SheetFormat.{Contents, SheetAnswer, SpellsContents, Spells}
use Rattle.types.specs.Types.{HasType}
use Rattle.types.specs.TypeFaults.{TypeFault}
use Rattle.lexer.specs.Words.{FirstEmptyRule, NoEmptyRule}
use Rattle.image.specs.Answer.{Answer, answer}
use Rattle.image.specs.Check.{work_bytes}

-- What demand 2 asks of a sheet but that its image fits: "it is well formed, no lexer rule matches the empty text, its expression has a
-- type under the published typing rules".
pub record Passable (sheet : List ℕ) (s : Sheet) : Type 0 where
  pub well_formed : Spells sheet s
  pub no_empty_text : NoEmptyRule s.rules
  pub has_type : HasType s.expression

-- The answer of checking, with a work area of so many bytes.
pub data Checks (bytes : List ℕ) (work : ℕ) : Answer → Type 0 where
  short_work : work < work_bytes → Checks bytes work (answer 1 0 0)
  long_sheet : work_bytes ≤ work → most_sheet_bytes < length bytes → Checks bytes work (answer 2 0 0)
  -- 3 to 6
  not_a_sheet : (question place : ℕ) → work_bytes ≤ work → length bytes ≤ most_sheet_bytes → SheetAnswer bytes (stop question place)
      → Checks bytes work (answer question place 0)
  -- 7: the first rule that matches the empty word, at its action
  empty_rule : (c : Contents) (k : ℕ) → work_bytes ≤ work → SpellsContents bytes c → FirstEmptyRule c.sheet.rules k
      → Checks bytes work (answer 7 (get_or c.action_places k 0) 0)
  -- 8 to 10: the first node that fails, at its tag
  untyped : (c : Contents) (node question : ℕ) → work_bytes ≤ work → SpellsContents bytes c → NoEmptyRule c.sheet.rules
      → TypeFault c.sheet.expression node question → Checks bytes work (answer question (get_or c.node_places node 0) 0)
  passes : (s : Sheet) → work_bytes ≤ work → Passable bytes s → Checks bytes work (answer 0 0 0)
