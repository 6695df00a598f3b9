-- `number::write_groups` meets its contract. The loop's invariant: i groups are in place, and the groups of `rest` are left.
use mathlib.Core.Path.{◌≡◌}
use mathlib.Core.List.{◌++◌}
use Prim.Native.Nat.{◌-◌}
use lib.ListN.{take, drop}
use Rattle.number.specs.Number.{encode}
use Rattle.number.proofs.Writing.{Left}
use Rattle.number.proofs.write_groups.Given as goal

abbrev pub invariant-loop-rest : goal.invariant-loop-rest
invariant-loop-rest l = Left l.n l.i l.rest × (l.part ≡ take l.i (encode l.n) ++ drop l.i l.initial.part)

abbrev pub decreases-loop-rest : goal.decreases-loop-rest
decreases-loop-rest l = 10 - l.i
