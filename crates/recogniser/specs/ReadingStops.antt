-- What request [7] claims of a reading by longest match: where it stops, and the tokens that it has then found. Nothing is asked of
-- the expression, and the demands do not rest on this; what the recogniser answers is in Recognises.
use Rattle.std.specs.Prelude.{◌≡◌, List, map, ◌⊎◌, ℕ, ◌≤◌, ◌<◌, length, drop}
use Rattle.sheet.specs.Sheet.{Sheet}
use Rattle.lexer.specs.RuleOrder.{by_kind}
use Rattle.lexer.specs.LongestMatch.{NoMatch}
use Rattle.machine.specs.Lexes.{Lexeme, tokens_of, Lexes}
use Rattle.recogniser.specs.Recognises.{NotTurnedAway}

-- Where the lexemes start.
abbrev pub starts_of : List Lexeme → List ℕ
starts_of lexemes = map (λ l. l.start) lexemes

-- No rule matches at a place before the text's end.
abbrev pub Unmatched : Sheet → List ℕ → ℕ → Type 0
Unmatched s text q = (q < length text) × NoMatch s.rules (drop q text)

-- Reading goes no further: the text's end, or no rule matches.
abbrev pub ReadingStops : Sheet → List ℕ → ℕ → Type 0
ReadingStops s text q = (q ≡ length text) ⊎ Unmatched s text q

-- There is no place where no rule matches, among those that reading comes to.
abbrev pub MatchedThroughout : Sheet → List ℕ → Type 0
MatchedThroughout s text = (p : ℕ) (lexemes : List Lexeme) → Lexes by_kind s text p lexemes → Unmatched s text p → ⊥

-- By the number: turned away before the text is read, with 1 to 10, 12 and 20; or the text is read, with 0, 14, 15 and 16.
abbrev pub TurnedAway : ℕ → Type 0
TurnedAway n = ((1 ≤ n) × (n ≤ 10)) ⊎ ((n ≡ 12) ⊎ (n ≡ 20))

abbrev pub TextRead : ℕ → Type 0
TextRead n = (n ≡ 0) ⊎ ((14 ≤ n) × (n ≤ 16))

-- Where no question before the text's own fails: these are the tokens found until reading stops.
pub record TokensFound (sheet text : List ℕ) (work room : ℕ) (tokens : List ℕ) : Type 0 where
  pub of_sheet : Sheet
  pub not_turned_away : NotTurnedAway sheet text work room of_sheet
  pub place : ℕ
  pub lexemes : List Lexeme
  pub reached : Lexes by_kind of_sheet text place lexemes
  pub stops : ReadingStops of_sheet text place
  pub tokens_are : tokens ≡ tokens_of lexemes
