-- `leading_sets::leading_to` meets its contract. The loop's invariant: what was found, with those from position i on, is the whole.
use mathlib.Core.Path.{◌≡◌}
use Prim.Native.Nat.{◌-◌}
use lib.Bits.{bit_or}
use lib.ListN.{drop}
use Rattle.leading_sets.specs.Leading.{over_positions, leading_part, leading}
use Rattle.leading_sets.proofs.leading_to.Given as goal

abbrev pub invariant-loop-i : goal.invariant-loop-i
invariant-loop-i l =
    bit_or l.found (over_positions (leading_part (drop 256 l.tables) l.set) l.i (64 - l.i)) ≡ leading (drop 256 l.tables) l.set
