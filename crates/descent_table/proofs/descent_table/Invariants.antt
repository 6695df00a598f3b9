-- `descent_table::descent_table` meets its contract. The loop's invariant: the nodes before the present one have their entries.
use Rattle.descent_table.proofs.Rows.{Filled}
use Rattle.descent_table.proofs.descent_table.Given as goal

abbrev pub invariant-loop-n : goal.invariant-loop-n
invariant-loop-n l = Filled l.links l.types l.up l.n l.table
