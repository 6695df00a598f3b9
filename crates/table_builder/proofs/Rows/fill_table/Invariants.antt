-- `Rows::fill_table` meets its contract. The loop's invariant: the entries of the rows up to row i are written.
use mathlib.Core.Path.{◌≡◌}
use mathlib.Core.List.{List}
use Prim.Native.Nat.{ℕ, ◌^◌}
use lib.ListN.{length}
use Rattle.lexer.specs.Positions.{Position}
use Rattle.lexer.specs.Table.{table_rows}
use Rattle.scanner.specs.Meaning.{Prepared}
use Rattle.table_builder.specs.Rows.{AllHeld}
use Rattle.table_builder.proofs.Filling.{EntriesTo}
use Rattle.table_builder.proofs.Rows.fill_table.Given as goal

abbrev pub invariant-loop-i : goal.invariant-loop-i
invariant-loop-i l =
    (length l.table ≡ length l.initial.table)
    × ((ps : List Position) → Prepared ps l.last l.tables → AllHeld (2 ^ length ps) l.self.sets l.self.count (table_rows ps l.first)
    → (buffer : List ℕ) → EntriesTo ps l.first buffer 0 l.initial.table → EntriesTo ps l.first buffer l.i l.table)
