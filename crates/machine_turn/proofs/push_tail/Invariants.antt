-- `push_tail` meets its contract. The loop's invariant: the members that are not left are pushed.
use mathlib.Core.Path.{◌≡◌}
use Prim.Native.Nat.{◌+◌, ◌-◌, ◌≤◌}
use Rattle.image_reader.specs.Tables.{part}
use Rattle.machine_turn.specs.Stack.{pushed}
use Rattle.machine_turn.proofs.push_tail.Given as goal

abbrev pub invariant-loop-left : goal.invariant-loop-left
invariant-loop-left l =
    (l.left ≤ l.size) × (l.top + l.left ≡ l.base + l.size) × (l.stack ≡ pushed l.initial.stack l.base (part l.image (l.at + l.left) (l.size - l.left)))
