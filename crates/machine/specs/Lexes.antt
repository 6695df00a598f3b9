-- Reading a text by longest match over all rules: the lexemes read from its start, each with its place, and the place that reading came to.
-- Whether the expression allows their tokens is asked apart from it. Only the sheet and the text count.
use Rattle.std.specs.Prelude.{◌≡◌, List, [], ◌∷◌, ◌++◌, map, ℕ, suc, ◌+◌, ◌<◌, length, drop}
use Rattle.sheet.specs.Sheet.{Sheet}
use Rattle.types.specs.Denotation.{Denotes}
use Rattle.lexer.specs.RuleOrder.{Order, by_number, by_kind}
use Rattle.lexer.specs.LongestMatch.{LongestMatch, NoMatch, NonWordAbove}
use Rattle.machine.specs.OwnAnswer.{Allowed, ActionOf}

-- What a rule that returns a token matched: where it starts, how many bytes it has, the sheet's rule, and the token.
pub record Lexeme : Type 0 where
  pub start : ℕ
  pub bytes : ℕ
  pub rule : ℕ
  pub token : ℕ

abbrev pub lexeme : ℕ → ℕ → ℕ → ℕ → Lexeme
lexeme start bytes rule token = record { start = start; bytes = bytes; rule = rule; token = token }

abbrev pub tokens_of : List Lexeme → List ℕ
tokens_of lexemes = map (λ l. l.token) lexemes

-- A place that reading comes to from the text's start, where the order says which rule is picked of those that match equally far, and the
-- lexemes before it.
pub data Lexes (order : Order) (s : Sheet) (text : List ℕ) : ℕ → List Lexeme → Type 0 where
  from_start : Lexes order s text 0 []
  over_skip : {p : ℕ} {lexemes : List Lexeme} (k n : ℕ) → Lexes order s text p lexemes
      → p < length text → LongestMatch order s.rules (drop p text) k n → ActionOf s k 0 → Lexes order s text (p + n) lexemes
  over_token : {p : ℕ} {lexemes : List Lexeme} (k n t : ℕ) → Lexes order s text p lexemes
      → p < length text → LongestMatch order s.rules (drop p text) k n → ActionOf s k (suc t)
      → Lexes order s text (p + n) (lexemes ++ (lexeme p n k t ∷ []))

-- Tokens each of which some denoted sequence allows after those before.
pub data AllowedInTurn (s : Sheet) : List ℕ → Type 0 where
  none_yet : AllowedInTurn s []
  one_more : {tokens : List ℕ} (t : ℕ) → AllowedInTurn s tokens → Allowed s tokens t → AllowedInTurn s (tokens ++ (t ∷ []))

-- "A reading changes only where a non-word rule stood above a word rule and both matched equally far": such a place, which is reached with
-- the same lexemes before it by number and by kind. There the rule that is picked by number is no word rule and stands above the word rule
-- that is picked by kind.
pub record ReadingChanges (s : Sheet) (text : List ℕ) : Type 0 where
  pub place : ℕ
  pub lexemes : List Lexeme
  pub reached_by_number : Lexes by_number s text place lexemes
  pub reached_by_kind : Lexes by_kind s text place lexemes
  pub allowed : AllowedInTurn s (tokens_of lexemes)
  pub before_end : place < length text
  pub old : ℕ
  pub new : ℕ
  pub bytes : ℕ
  pub found_by_number : LongestMatch by_number s.rules (drop place text) old bytes
  pub found_by_kind : LongestMatch by_kind s.rules (drop place text) new bytes
  pub changes : NonWordAbove s.rules (drop place text) old new bytes

-- Why reading ends at a place, with these tokens before it, by the answer's number: the text's end with tokens that are denoted; or "no rule
-- matches, or whose token no denoted sequence allows after those before, or the end".
pub data ReadingEnds (s : Sheet) (text : List ℕ) (p : ℕ) (tokens : List ℕ) : ℕ → Type 0 where
  denoted : p ≡ length text → Denotes s.expression tokens → ReadingEnds s text p tokens 0
  no_rule_matches : p < length text → NoMatch s.rules (drop p text) → ReadingEnds s text p tokens 14
  token_not_allowed : (k n t : ℕ) → p < length text → LongestMatch by_kind s.rules (drop p text) k n → ActionOf s k (suc t)
      → (Allowed s tokens t → ⊥) → ReadingEnds s text p tokens 15
  not_denoted : p ≡ length text → (Denotes s.expression tokens → ⊥) → ReadingEnds s text p tokens 16

-- What an answer says of a reading: the place named is the one that reading comes to, after tokens that were allowed in turn, and ends at, for
-- the reason that the number gives; "the count is that of the tokens before it".
pub record AnswerOfReading (s : Sheet) (text : List ℕ) (number place count : ℕ) : Type 0 where
  pub lexemes : List Lexeme
  pub reached : Lexes by_kind s text place lexemes
  pub allowed : AllowedInTurn s (tokens_of lexemes)
  pub ends : ReadingEnds s text place (tokens_of lexemes) number
  pub counted : count ≡ length lexemes
