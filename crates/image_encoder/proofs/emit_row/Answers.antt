-- `image_encoder::emit_row` meets its contract: the flag, a place for the count, the productions, and the count in its place.
use Rattle.image_encoder.proofs.Rows.{row_emitted}
use Rattle.image_encoder.proofs.emit_row.Goals as goal

pub returns-clause-emitted : goal.returns-clause-emitted
returns-clause-emitted c = λ rs e h inside met all n leads.
    let row = c.emit_productions-row.ensures in
    let made = row.emitted rs e h inside in
    let productions = made.1 met all n leads in (
      productions.0,
      row_emitted _ all rs e h _ inside _ _ c.has-is_null.ensures made.0 row.counted
          c.emit_flag-after_flag.ensures.emitted c.emit-after_count.ensures.emitted productions.1 c.emit.ensures.emitted,
    )
