-- `run_plain` meets its contract. The loop's invariant: the turns from the present state lead to the end of the whole run, and what is left of the
-- budget is what was not charged.
use mathlib.Core.Path.{◌≡◌}
use Prim.Native.Nat.{◌-◌}
use lib.ListN.{length}
use Rattle.image.specs.Image.{Image}
use Rattle.machine.specs.Run.{trace}
use Rattle.machine_turn.specs.laws.Going.{Going}
use Rattle.machine_loop.specs.Prepared.{tables_in, WithTables}
use Rattle.machine_loop.specs.Turning.{LeftAt}
use Rattle.machine_loop.proofs.run_plain.Given as goal

abbrev pub invariant-loop-done : goal.invariant-loop-done
invariant-loop-done l =
    (length l.stack ≡ length l.initial.stack)
    × ((i : Image) → WithTables l.machine i
    → Going i l.machine.image.now (tables_in l.machine) l.text l.stack l.state (trace i (length l.initial.stack) l.text) × LeftAt i l.text l.state.place l.left)

abbrev pub decreases-loop-done : goal.decreases-loop-done
decreases-loop-done l = length l.text - l.state.place
