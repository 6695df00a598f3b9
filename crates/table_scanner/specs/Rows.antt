-- What a walk by the rows of a table relies on, of request [6]: "row 0 is the start, row 1 the empty set". Nothing here speaks of the
-- positions that the rows stand for, nor of what lies past the last row.
use Rattle.std.specs.Prelude.{◌≡◌, List, ℕ, ◌+◌, ◌*◌, ◌≤◌, ◌<◌, length, get_or}
use Rattle.lexer.specs.Table.{most_rows, row_entries, no_winner}

pub record RowsIn (table winners : List ℕ) : Type 0 where
  -- "65,536 two-byte entries", "and 256 more for each row's winning rule": a list may be longer.
  pub entries_lent : most_rows * row_entries ≤ length table
  pub winners_lent : most_rows ≤ length winners
  -- So many rows: the start and the empty set are among them, and "over 256 rows is 19".
  pub row_count : ℕ
  pub two_rows : 2 ≤ row_count
  pub few_rows : row_count ≤ most_rows
  -- "at row × 256 + byte the next row"
  pub next_row : (row b : ℕ) → row < row_count → b < row_entries → get_or table (row * row_entries + b) 0 < row_count
  -- "each row's winning rule (32 for none)"
  pub winner_below : (row : ℕ) → row < row_count → get_or winners row no_winner ≤ no_winner
  -- The empty set leads to itself, and no match ends in it.
  pub empty_stays : (b : ℕ) → b < row_entries → get_or table (1 * row_entries + b) 0 ≡ 1
  pub empty_wins_none : get_or winners 1 no_winner ≡ no_winner
