-- `image_encoder::emit_image` meets its contract: three parts, one after the other.
use Rattle.image_encoder.proofs.Whole.{image_emitted}
use Rattle.image_encoder.proofs.emit_image.Goals as goal

pub returns : goal.returns
returns c = λ s h. image_emitted _ _ s h
    c.emit_rules-after_rules.ensures.emitted
    c.emit_positions-after_positions.ensures.emitted
    (c.emit_rows.ensures.emitted s.rules s.expression h.grammar)
