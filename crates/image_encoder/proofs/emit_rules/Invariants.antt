-- `image_encoder::emit_rules` meets its contract. The loop's invariant: the flags of the rules before i are written.
use Prim.Native.Nat.{◌+◌, ◌*◌, ◌≤◌}
use Rattle.image_encoder.specs.laws.Emitted.{Emitted}
use Rattle.node_numbering.specs.laws.Below.{concat_below}
use Rattle.image_encoder.specs.Parts.{skip_number}
use Rattle.image_encoder.proofs.emit_rules.Given as goal

abbrev pub invariant-loop-i : goal.invariant-loop-i
invariant-loop-i l = record {
  near : l.next ≤ l.initial.next + 10 * l.i;
  emitted : Emitted l.initial.image l.image l.initial.next l.next (concat_below (skip_number l.grammar) l.i);
}
