-- `image_encoder::emit_position` meets its contract: five numbers, one after the other.
use Rattle.image_encoder.proofs.laws.Emitted.{emitted_append}
use Rattle.image_encoder.proofs.emit_position.Goals as goal

pub returns-clause-emitted : goal.returns-clause-emitted
returns-clause-emitted c =
    emitted_append c.emit-after_low.ensures.emitted (emitted_append c.emit-after_high.ensures.emitted
    (emitted_append c.emit-after_rule.ensures.emitted (emitted_append c.emit_flag-after_last.ensures.emitted c.emit.ensures.emitted)))
