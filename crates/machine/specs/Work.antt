-- What the turns of a reading cost, in bytes that walks go over: with walks that are made again where they are in vain, and with walks that
-- keep alive positions alone. The bounds are theorems (WorkLaws). Nothing here is asked by a demand.
use Rattle.std.specs.Prelude.{◌≡◌, List, ℕ, ◌+◌, ◌<◌, max, length, drop}
use Rattle.lexer.specs.Positions.{Position}
use Rattle.lexer.specs.Match.{matched}
use Rattle.lexer.specs.Walk.{longest_match}
use Rattle.lexer.specs.Alive.{walk_bytes, vain_bytes, cut_bytes}

-- What is charged for a walk in vain: it, and the walk that is made again to find its match.
unfoldable pub charge : List Position → ℕ → List ℕ → ℕ
charge ps first text = vain_bytes ps first text + vain_bytes ps first text

-- What may be charged in all before the rest is read with alive positions: the text's length. A short text may be charged more, for such
-- walks need a table that is dearer than some thousand bytes.
abbrev pub least_budget : ℕ
least_budget = 4096

unfoldable pub budget : List ℕ → ℕ
budget text = max (length text) least_budget

-- The turns from the text's start to a place, by longest match: the bytes that their walks go over, with the second walk of those in vain;
-- what is charged for them; and the bytes that walks which keep alive positions alone would go over.
pub data TurnsTo (ps : List Position) (first : ℕ) (text : List ℕ) : (place walked charged cut : ℕ) → Type 0 where
  none_yet : TurnsTo ps first text 0 0 0 0
  one_more : {p walked charged cut : ℕ} (rule n : ℕ) → TurnsTo ps first text p walked charged cut → p < length text
      → longest_match ps first (drop p text) ≡ matched rule n
      → TurnsTo ps first text (p + n) (walked + (walk_bytes ps first (drop p text) + vain_bytes ps first (drop p text)))
      (charged + charge ps first (drop p text)) (cut + cut_bytes ps first (drop p text))
