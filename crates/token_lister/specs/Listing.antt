-- What the lister is given, of rules and of the scanner's tables, and what it leaves in the lent arrays. Which tokens a text has is said in
-- recogniser (Listing).
use Rattle.std.specs.Prelude.{◌≡◌, List, ◌++◌, map, ℕ, ◌≤◌, length, take}
use Rattle.std.proofs.Math.Option.{none}
use Rattle.basics.specs.Lists.{written_over}
use Rattle.sheet.specs.Sheet.{Rule, Sheet}
use Rattle.sheet.specs.WellFormed.{WithinLimits}
use Rattle.lexer.specs.Positions.{positions, first_positions, empty_match}
use Rattle.columns.specs.Holds.{RulesOf}
use Rattle.columns.specs.declared.RuleColumns.{RuleColumns}
use Rattle.scanner.specs.Meaning.{Prepared}
use Rattle.recogniser.specs.Listing.{Listed, listed}

-- What is listed first, and what is listed from there on.
unfoldable pub joined : Listed → Listed → Listed
joined l m = listed (l.tokens ++ m.tokens) (l.starts ++ m.starts) m.place

-- So many tokens are listed: they and their starts are written over what the two arrays held.
pub record Written (l : Listed) (count : ℕ) (list list' starts starts' : List ℕ) : Type 0 where
  pub tokens_counted : count ≡ length l.tokens
  pub starts_counted : count ≡ length l.starts
  pub tokens_written : list' ≡ written_over l.tokens list
  pub starts_written : starts' ≡ written_over l.starts starts

-- The columns hold the rules of a sheet that keeps the limits and that passes question 7.
pub record RulesPassed (s : Sheet) (rules : RuleColumns) : Type 0 where
  pub places : List ℕ
  pub limits : WithinLimits s
  pub rules_held : RulesOf rules s.rules places
  pub no_empty : empty_match s.rules 0 ≡ none

-- The actions are those of the rules, and the scanner's tables and sets are made of their positions.
pub record RulesReady (rules : List Rule) (action tables : List ℕ) (last first : ℕ) : Type 0 where
  pub few : length rules ≤ 32
  pub actions_held : take (length rules) action ≡ map (λ r. r.action) rules
  pub prepared : Prepared (positions rules) last tables
  pub first_held : first ≡ first_positions rules
