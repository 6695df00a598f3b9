-- `table_scanner::match_by_rows` meets its contract. The loop's invariant: the row and the match are those of the first n bytes.
use mathlib.Core.Path.{◌≡◌}
use Prim.Native.Nat.{◌-◌, ◌≤◌, ◌<◌}
use lib.ListN.{length}
use Rattle.lexer.specs.Table.{no_winner}
use Rattle.table_scanner.specs.Rows.{RowsIn}
use Rattle.table_scanner.proofs.Front.{front_row, front_match}
use Rattle.table_scanner.proofs.Front.{noted}
use Rattle.table_scanner.proofs.match_by_rows.Given as goal

abbrev pub invariant-loop-n : goal.invariant-loop-n
invariant-loop-n l =
    (noted l.winner l.length ≡ front_match l.table l.winners l.text l.n) × (l.row ≡ front_row l.table l.text l.n) × (l.n ≤ length l.text)
    × ((k : RowsIn l.table l.winners) → l.row < k.row_count) × (l.winner ≤ no_winner)

abbrev pub decreases-loop-n : goal.decreases-loop-n
decreases-loop-n l = length l.text - l.n
