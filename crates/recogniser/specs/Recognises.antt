-- What the recogniser answers, and the tokens that it writes into its list, in the terms of request [7]. There is one answer for all
-- that is handed over (RecognisesLaws). The descent by which it is found is in Descends; no function is named here.
use Rattle.std.specs.Prelude.{List, [], ℕ, ◌≤◌, ◌<◌, length, drop}
use Rattle.sheet.specs.Sheet.{Sheet}
use Rattle.lexer.specs.RuleOrder.{by_kind}
use Rattle.lexer.specs.LongestMatch.{NoMatch}
use Rattle.image.specs.Answer.{Answer, answer}
use Rattle.image.specs.Check.{work_bytes}
use Rattle.image.specs.Checks.{Passable, Checks}
use Rattle.machine.specs.OwnAnswer.{OwnAnswer}
use Rattle.machine.specs.Lexes.{Lexeme, tokens_of, Lexes}

-- "Texts over 2,048 bytes are 12"
abbrev pub most_recognised_bytes : ℕ
most_recognised_bytes = 2048

-- No question before the text's own fails: 1 to 10, 12 and 20.
pub record NotTurnedAway (sheet text : List ℕ) (work room : ℕ) (s : Sheet) : Type 0 where
  pub enough_work : work_bytes ≤ work
  pub passable : Passable sheet s
  pub within : length text ≤ most_recognised_bytes
  pub list_holds : length text ≤ room

-- The answer, with a work area and a list of so many bytes, and the tokens written. "It returns as running does, with the count of
-- tokens written, one an entry".
pub data Recognises (sheet text : List ℕ) (work room : ℕ) : Answer → List ℕ → Type 0 where
  not_passed : (a : Answer) → Checks sheet work a → 1 ≤ a.number → Recognises sheet text work room a []
  -- "12, put after questions 1 to 10"
  long_text : (s : Sheet) → work_bytes ≤ work → Passable sheet s → most_recognised_bytes < length text
      → Recognises sheet text work room (answer 12 0 0) []
  -- "a list shorter than the text is 20, after 12"
  short_list : (s : Sheet) → work_bytes ≤ work → Passable sheet s → length text ≤ most_recognised_bytes → room < length text
      → Recognises sheet text work room (answer 20 0 0) []
  -- "14 at the first place where no rule matches": reading goes by longest match alone, whatever the expression allows
  no_rule : (s : Sheet) (p : ℕ) (lexemes : List Lexeme) → NotTurnedAway sheet text work room s
      → Lexes by_kind s text p lexemes → p < length text → NoMatch s.rules (drop p text)
      → Recognises sheet text work room (answer 14 p (length lexemes)) (tokens_of lexemes)
  -- "where there is none, it gets the machine's number and place on a long enough stack": those of the sheet's own answer, by demand 3
  read_to_end : (s : Sheet) (a : Answer) (lexemes : List Lexeme) → NotTurnedAway sheet text work room s
      → Lexes by_kind s text (length text) lexemes → OwnAnswer s text a
      → Recognises sheet text work room (answer a.number a.place (length lexemes)) (tokens_of lexemes)

-- What the recogniser gives: its answer, the tokens written, and the list and the work area as it leaves them.
pub record Recognised : Type 0 where
  pub answer : Answer
  pub tokens : List ℕ
  pub list : List ℕ
  pub work : List ℕ
