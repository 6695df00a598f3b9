-- `class_table::sweep` meets its contract.
-- The loop's invariant: the sweep has come to `byte`, and carries `set`.
use Rattle.class_table.proofs.Sweeping.{SweptTo}
use Rattle.class_table.proofs.sweep.Given as goal

abbrev pub invariant-loop-byte : goal.invariant-loop-byte
invariant-loop-byte l = SweptTo l.initial.tables l.byte l.set l.tables
