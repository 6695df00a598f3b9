-- Two buffers hold the table of an image: "65,536 two-byte entries .. and 256 more", the table's rows at their front.
use Rattle.std.specs.Prelude.{◌≡◌, List, ◌++◌, ℕ, ◌≤◌, length}
use Rattle.lexer.specs.Table.{most_rows}
use Rattle.image.specs.Image.{Image}
use Rattle.machine.specs.Lent.{lent_entries, rows_of, entries_of, winners_of}

pub record Built (i : Image) (table winners : List ℕ) : Type 0 where
  pub few_rows : length (rows_of i) ≤ most_rows
  pub long_table : lent_entries ≤ length table
  pub long_winners : most_rows ≤ length winners
  pub more : List ℕ
  pub entries : table ≡ entries_of i ++ more
  pub rest : List ℕ
  pub row_winners : winners ≡ winners_of i ++ rest
