-- Reading a text by longest match as a function: its tokens, where they start, and the place that reading comes to. The rule that is
-- picked of those that match equally far is the lowest, so the rules are to stand in the image's order. Nothing is asked of the expression.
use Rattle.std.specs.Prelude.{cond, List, [], ◌∷◌, ℕ, zero, suc, ◌+◌, ltb, length, drop, get_or, map}
use Rattle.sheet.specs.Sheet.{Rule}
use Rattle.lexer.specs.Positions.{positions, first_positions}
use Rattle.lexer.specs.Match.{Match, no_match, matched}
use Rattle.lexer.specs.Walk.{longest_match}

-- The tokens, their starts, and the place at which reading stops: the text's end, or where no rule matches.
pub record Listed : Type 0 where
  pub tokens : List ℕ
  pub starts : List ℕ
  pub place : ℕ

abbrev pub listed : List ℕ → List ℕ → ℕ → Listed
listed tokens starts place = record { tokens = tokens; starts = starts; place = place }

-- "0 skips, k + 1 returns token k": the token that a rule at place p returns is put in front.
unfoldable pub with_action : ℕ → ℕ → Listed → Listed
with_action zero p l = l
with_action (suc t) p l = listed (t ∷ l.tokens) (p ∷ l.starts) l.place

-- By what matches at place p, and what is listed from each later place on.
unfoldable pub list_match : List Rule → (ℕ → Listed) → ℕ → Match → Listed
list_match rules later p no_match = listed [] [] p
list_match rules later p (matched k n) = with_action (get_or (map (λ r. r.action) rules) k 0) p (later (p + n))

-- So many matches from place p on. Each takes a byte at least, so that as many as the rest has bytes are enough.
unfoldable pub list_from : List Rule → List ℕ → ℕ → ℕ → Listed
list_from rules text zero p = listed [] [] p
list_from rules text (suc k) p =
    cond (ltb p (length text))
    (list_match rules (list_from rules text k) p (longest_match (positions rules) (first_positions rules) (drop p text)))
    (listed [] [] p)

unfoldable pub list_tokens : List Rule → List ℕ → Listed
list_tokens rules text = list_from rules text (length text) 0
