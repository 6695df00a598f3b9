-- `number::read_groups` meets its contract. The loop's invariant: the number at the place is what the groups so far make
-- with the groups that are still to come.
use mathlib.Core.Path.{◌≡◌}
use Prim.Native.Nat.{◌-◌, ◌*◌, ◌^◌, ◌<◌}
use lib.ListN.{drop}
use Rattle.number.specs.Number.{front, decode}
use Rattle.number.proofs.Reading.{after}
use Rattle.number.proofs.read_groups.Given as goal

abbrev pub invariant-loop-byte : goal.invariant-loop-byte
invariant-loop-byte l =
    (l.count < 10) × (l.scale ≡ 2 ^ (7 * l.count)) × (l.value < l.scale) × (decode l.bytes l.at ≡ after l.count l.scale l.value (front (drop l.i l.bytes)))

abbrev pub decreases-loop-byte : goal.decreases-loop-byte
decreases-loop-byte l = 10 - l.count
