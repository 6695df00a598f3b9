-- Matches that were found ahead, one word each: the one at a place, the one where that match ends, and so on, up to a place that they lead to.
use Rattle.std.specs.Prelude.{◌≡◌, cond, List, [], ◌∷◌, ℕ, ◌+◌, ◌/◌, ◌%◌, ◌≤◌, eqb, drop}
use Rattle.lexer.specs.Positions.{Position}
use Rattle.lexer.specs.Match.{Match, no_match, matched}
use Rattle.lexer.specs.Walk.{longest_match}

-- The match that a word stands for: its rule and 256 times its length, which is never 0; 0 for none.
unfoldable pub word_match : ℕ → Match
word_match word = cond (eqb word 0) no_match (matched (word % 256) (word / 256))

-- The words are the matches from a place on. They lead to place `to`, or past it, unless one of them stands for none.
abbrev pub Ahead : List Position → ℕ → List ℕ → ℕ → ℕ → List ℕ → Type 0
Ahead ps first text to p [] = to ≤ p
Ahead ps first text to p (word ∷ words) =
    (word_match word ≡ longest_match ps first (drop p text))
    × ((rule n : ℕ) → longest_match ps first (drop p text) ≡ matched rule n → Ahead ps first text to (p + n) words)
