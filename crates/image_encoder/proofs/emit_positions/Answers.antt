-- `image_encoder::emit_positions` meets its contract: the count, each position, and the first set.
use native.Mathlib.Omega.{arith}
use Rattle.image_encoder.proofs.Writing.{nothing_yet, one_more, all_done, position_emitted, positions_emitted}
use Rattle.image_encoder.proofs.emit_positions.Goals as goal

pub loop-i-init : goal.loop-i-init
loop-i-init c = record { near = omega arith; emitted = nothing_yet _ _ _ }

pub loop-i-preserved : goal.loop-i-preserved
loop-i-preserved c = let l = c.loop-i in record {
  near = omega arith;
  emitted = one_more _ l.i l.invariant.emitted (position_emitted _ l.i _ c.has.ensures c.emit_position-next.ensures.emitted);
}

pub returns-clause-emitted : goal.returns-clause-emitted
returns-clause-emitted c = let l = c.loop-i in
    positions_emitted _ c.emit-next.ensures.emitted (all_done _ l.i _ l.auto.i-end c.loop-i-test.false l.invariant.emitted)
    c.emit.ensures.emitted
