-- `image_encoder::emit_positions` meets its contract. The loop's invariant: the positions before i are written.
use Prim.Native.Nat.{◌+◌, ◌*◌, ◌≤◌}
use Rattle.image_encoder.specs.laws.Emitted.{Emitted}
use Rattle.node_numbering.specs.laws.Below.{concat_below}
use Rattle.image_encoder.specs.Parts.{position_part}
use Rattle.image_encoder.proofs.emit_positions.Given as goal

abbrev pub invariant-loop-i : goal.invariant-loop-i
invariant-loop-i l = record {
  near : l.next ≤ l.initial.next + 50 * l.i;
  emitted : Emitted l.initial.image l.image l.initial.next l.next (concat_below (position_part l.positions) l.i);
}
