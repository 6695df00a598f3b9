-- "A readable image has every value in these ranges, low ≤ high, rules of positions below R and never falling, sets below 2^P,
-- production rules below R, rising and not skipping, tail members below the nonterminal count, and nothing after": as facts
-- about an image. How an image is read from bytes is not said here.
use Rattle.std.specs.Prelude.{◌≡◌, Bool, true, false, List, [], ◌∷◌, ℕ, suc, ◌^◌, ◌≤◌, ◌<◌, length, get_or}
use Rattle.basics.specs.Lists.{All}
use Rattle.sheet.specs.Limits.{most_rules}
use Rattle.normal_form.specs.Productions.{Production, Row, most_tail}
use Rattle.lexer.specs.Positions.{Position}
use Rattle.lexer.specs.laws.PositionBounds.{NeverFalling}
use Rattle.image.specs.Image.{Image}

-- A position, where there are so many rules and positions.
pub record PositionInRange (rules count : ℕ) (p : Position) : Type 0 where
  pub low_high : p.low ≤ p.high
  pub high_byte : p.high ≤ 255
  pub rule_below : p.rule < rules
  pub follow_below : p.follow < 2 ^ count

-- A production, where the rules skip or not as listed and there are so many nonterminals.
pub record ProductionInRange (skips : List Bool) (count : ℕ) (p : Production) : Type 0 where
  pub rule_below : p.head < length skips
  pub not_skipping : get_or skips p.head true ≡ false
  pub tail_length : length p.tail ≤ most_tail
  pub members_below : All (λ n. n < count) p.tail

-- Rules of productions rise: each is above the one before it, and the first is at least so much.
abbrev pub Rising : ℕ → List Production → Type 0
Rising least [] = Unit
Rising least (p ∷ ps) = (least ≤ p.head) × Rising (suc p.head) ps

pub record RowInRange (skips : List Bool) (count : ℕ) (row : Row) : Type 0 where
  pub production_count : length row.productions ≤ 32
  pub productions_in_range : All (ProductionInRange skips count) row.productions
  pub rising : Rising 0 row.productions

pub record InRange (i : Image) : Type 0 where
  pub some_rules : 1 ≤ length i.skips
  pub rule_count : length i.skips ≤ most_rules
  pub some_positions : 1 ≤ length i.positions
  pub position_count : length i.positions ≤ 64
  pub positions_in_range : All (PositionInRange (length i.skips) (length i.positions)) i.positions
  pub never_falling : NeverFalling 0 i.positions
  pub first_below : i.first < 2 ^ length i.positions
  pub some_rows : 1 ≤ length i.rows
  pub row_count : length i.rows ≤ 64
  pub rows_in_range : All (RowInRange i.skips (length i.rows)) i.rows
