-- What an array of sets holds of the rows met, and the sets that the class table gives for a held set, byte by byte. The rows themselves
-- are defined in lexer (Table).
use Rattle.std.specs.Prelude.{◌≡◌, List, ◌∷◌, map, ℕ, suc, ◌<◌, get_or, length, take}
use Rattle.std.specs.Int.Bits.{bit_and}
use Rattle.basics.specs.Lists.{All}
use Rattle.basics.specs.Meeting.{number_of}
use Rattle.lexer.specs.Table.{most_rows, row_entries, bytes_from}

-- The first sets are those of the rows met, from row 1 on, and all below the start's number.
pub record AllHeld (start : ℕ) (sets : List ℕ) (count : ℕ) (met : List ℕ) : Type 0 where
  pub few : count < most_rows
  pub below : All (λ x. x < start) (take count sets)
  pub whole : met ≡ start ∷ take count sets

-- So it is, or more than 256 rows have been met.
pub data RowsHeld (start : ℕ) (sets : List ℕ) (count : ℕ) (met : List ℕ) : Type 0 where
  all_held : AllHeld start sets count met → RowsHeld start sets count met
  too_many : count ≡ most_rows → most_rows < length met → RowsHeld start sets count met

-- The sets that the first n bytes keep of a held set.
unfoldable pub sets_by : List ℕ → ℕ → ℕ → List ℕ
sets_by classes held n = map (λ b. bit_and held (get_or classes b 0)) (bytes_from 0 n)

-- All of them lie below the start's number.
abbrev pub SetsBelow : ℕ → ℕ → List ℕ → Type 0
SetsBelow start held classes = (b : ℕ) → b < row_entries → bit_and held (get_or classes b 0) < start

-- The numbers of the rows that the first n bytes lead to: a set's row stands just after its place, row 0 being the start.
unfoldable pub numbers_by : List ℕ → List ℕ → ℕ → ℕ → List ℕ
numbers_by sets classes held n = map (λ b. suc (number_of sets (bit_and held (get_or classes b 0)))) (bytes_from 0 n)
