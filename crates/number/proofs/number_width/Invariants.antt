-- `number::number_width` meets its contract. The loop's invariant: after i groups the groups of `rest` are left.
use Prim.Native.Nat.{◌-◌}
use Rattle.number.proofs.Writing.{Left}
use Rattle.number.proofs.number_width.Given as goal

abbrev pub invariant-loop-rest : goal.invariant-loop-rest
invariant-loop-rest l = Left l.n l.i l.rest

abbrev pub decreases-loop-rest : goal.decreases-loop-rest
decreases-loop-rest l = 10 - l.i
