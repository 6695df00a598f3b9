-- `table_scanner::walk_rows` meets its contract. The loop's invariant: the row is the one that the first n bytes lead to.
use mathlib.Core.Path.{◌≡◌}
use Prim.Native.Nat.{◌-◌, ◌≤◌, ◌<◌}
use lib.ListN.{length}
use Rattle.table_scanner.specs.Rows.{RowsIn}
use Rattle.table_scanner.proofs.Front.{front_row}
use Rattle.table_scanner.proofs.Told.{Behind}
use Rattle.table_scanner.proofs.walk_rows.Given as goal

abbrev pub invariant-loop-n : goal.invariant-loop-n
invariant-loop-n l =
    (l.row ≡ front_row l.table l.text l.n) × (1 ≤ l.n) × (l.n ≤ length l.text) × ((k : RowsIn l.table l.winners) → l.row < k.row_count)
    × (l.row ≡ 1 → ⊥) × Behind l.table l.text l.row l.n

abbrev pub decreases-loop-n : goal.decreases-loop-n
decreases-loop-n l = length l.text - l.n
