-- `sheet_reader::read_field` meets its contract: each way through it is a law of fields.
use native.Mathlib.Omega.{arith}
use mathlib.Core.Path.{sym, ◌∙◌}
use Rattle.number.proofs.laws.Laws.{decode_within}
use Rattle.sheet_reader.proofs.Fields.{field_unreadable, field_over, field_under, field_fits}
use Rattle.sheet_reader.proofs.read_field.Goals as goal
use Rattle.sheet_reader.proofs.read_field.Goals.{then-number-from-via-then-number-from, then-number-from-via-else-number-from+then-limit-number}

pub returns-in_default : goal.returns-in_default
returns-in_default c = field_unreadable _ _ c.args.sheet.now _ (sym c.read_number.ensures ∙ c.in_default.is)

pub returns-then-number-from : goal.returns-then-number-from
returns-then-number-from c =
    let e = sym c.read_number.ensures ∙ c.in-Some.is in
    elim c.then-number-from.branch [
      | then-number-from-via-then-number-from w ↦ field_under _ _ c.args.sheet.now _ e (omega (arith, w.if-number-from.true, c.from.ensures))
      | then-number-from-via-else-number-from+then-limit-number w ↦ field_over _ _ c.args.sheet.now _ e w.if-limit-number.true
    ]

pub overflow_add-result : goal.overflow_add-result
overflow_add-result c = omega (arith, (decode_within c.args.sheet.now c.args.at (sym c.read_number.ensures ∙ c.in-Some.is)).inside)

pub returns : goal.returns
returns c =
    field_fits _ _ c.args.sheet.now _ (sym c.read_number.ensures ∙ c.in-Some.is) (omega (arith, c.from.ensures)) c.if-limit-number.false
