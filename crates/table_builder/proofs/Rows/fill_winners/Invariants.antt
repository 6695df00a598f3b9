-- `Rows::fill_winners` meets its contract. The loop's invariant: the winners of the rows up to row i are written.
use mathlib.Core.Path.{◌≡◌}
use mathlib.Core.List.{List}
use Prim.Native.Nat.{ℕ, ◌^◌, ◌<◌}
use lib.ListN.{length}
use Rattle.lexer.specs.Positions.{Position}
use Rattle.lexer.specs.Table.{table_rows}
use Rattle.scanner.specs.Meaning.{Prepared}
use Rattle.table_builder.specs.Rows.{AllHeld}
use Rattle.table_builder.proofs.Filling.{WinnersTo}
use Rattle.table_builder.proofs.Rows.fill_winners.Given as goal

abbrev pub invariant-loop-i : goal.invariant-loop-i
invariant-loop-i l =
    (length l.winners ≡ length l.initial.winners)
    × ((ps : List Position) → Prepared ps l.last l.tables → AllHeld (2 ^ length ps) l.self.sets l.self.count (table_rows ps l.first)
    → (buffer : List ℕ) → l.self.count < length buffer → WinnersTo ps l.first buffer 0 l.initial.winners → WinnersTo ps l.first buffer l.i l.winners)
