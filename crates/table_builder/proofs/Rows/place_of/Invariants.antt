-- `Rows::place_of` meets its contract. The loop's invariant: the place is i and the place among those from i on, together.
use mathlib.Core.Path.{◌≡◌}
use Prim.Native.Nat.{◌+◌}
use lib.ListN.{take, drop}
use Rattle.basics.specs.Meeting.{number_of}
use Rattle.table_builder.proofs.Rows.place_of.Given as goal

abbrev pub invariant-loop-i : goal.invariant-loop-i
invariant-loop-i l =
    number_of (take l.self.count l.self.sets) l.set ≡ l.i + number_of (drop l.i (take l.self.count l.self.sets)) l.set
