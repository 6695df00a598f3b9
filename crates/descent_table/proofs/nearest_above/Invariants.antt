-- `descent_table::nearest_above` meets its contract. The loop's invariant: the parts of the nodes before the present one have their entries.
use Rattle.descent_table.proofs.Storing.{Storing}
use Rattle.descent_table.proofs.nearest_above.Given as goal

abbrev pub invariant-loop-n : goal.invariant-loop-n
invariant-loop-n l = Storing l.links l.n l.up
