-- `Rows::fill_row` meets its contract. The loop's invariant: the entries of the first bytes are written, and `number` is the row of `before`.
use mathlib.Core.Path.{◌≡◌}
use Prim.Native.Nat.{suc}
use lib.ListN.{take}
use lib.Seq.{paste}
use Rattle.basics.specs.Meeting.{number_of}
use Rattle.table_builder.specs.Rows.{numbers_by}
use Rattle.table_builder.proofs.Rows.fill_row.Given as goal

abbrev pub invariant-loop-byte : goal.invariant-loop-byte
invariant-loop-byte l =
    (l.number ≡ suc (number_of (take l.self.count l.self.sets) l.before))
    × (l.table ≡ paste l.initial.table l.at (numbers_by (take l.self.count l.self.sets) l.tables l.held 256) l.byte)
