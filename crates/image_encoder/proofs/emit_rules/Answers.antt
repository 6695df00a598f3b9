-- `image_encoder::emit_rules` meets its contract: the version, the count, and a flag for each rule.
use native.Mathlib.Omega.{arith}
use Rattle.image_encoder.proofs.Writing.{nothing_yet, one_more, all_done, skip_emitted, rules_emitted}
use Rattle.image_encoder.proofs.emit_rules.Goals as goal

pub loop-i-init : goal.loop-i-init
loop-i-init c = record { near = omega arith; emitted = nothing_yet _ _ _ }

pub loop-i-preserved : goal.loop-i-preserved
loop-i-preserved c = let l = c.loop-i in record {
  near = omega arith;
  emitted = one_more _ l.i l.invariant.emitted (skip_emitted _ l.i c.emit_flag-next.ensures.emitted);
}

pub returns-clause-emitted : goal.returns-clause-emitted
returns-clause-emitted c = let l = c.loop-i in
    rules_emitted _ c.emit-version.ensures.emitted c.emit-next.ensures.emitted
    (all_done _ l.i _ l.auto.i-end c.loop-i-test.false l.invariant.emitted)
