-- `Rows::meet_row` meets its contract. The loop's invariant: the sets of the first bytes have joined, and `before` has been met.
use mathlib.Core.List.{List}
use Prim.Native.Nat.{ℕ}
use Rattle.basics.specs.laws.MeetingLaws.{Met}
use Rattle.table_builder.specs.Rows.{RowsHeld, SetsBelow}
use Rattle.table_builder.proofs.Meeting.{Joined}
use Rattle.table_builder.proofs.Rows.meet_row.Given as goal

abbrev pub invariant-loop-byte : goal.invariant-loop-byte
invariant-loop-byte l =
    (start : ℕ) (met : List ℕ) → SetsBelow start l.held l.tables → Met 0 met → RowsHeld start l.initial.self.sets l.initial.self.count met
    → Joined start met l.tables l.held l.self.sets l.self.count l.before l.byte
