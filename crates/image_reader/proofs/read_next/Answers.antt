-- `read_next` meets its contract.
use Rattle.std.proofs.Common.{rules, ◌≡◌, Err, None, Some}
use borrow.Author.Tests.{not-true, not-false}
use native.Mathlib.Omega.{arith}
use mathlib.Core.Path.{sym, ◌∙◌}
use Rattle.number.proofs.laws.Laws.{none-fewest, padded_refused, fewest-read, fewest_within}
use Rattle.image_reader.proofs.Fields.{field-allowed, field_forbidden, between_in, between_low, between_high}
use Rattle.image_reader.proofs.Parts.{field_missing}
use Rattle.image_reader.proofs.read_next.Goals as goal
use Rattle.image_reader.proofs.read_next.Goals.{then-not-number-via-then-not-number, then-not-number-via-else-not-number+then-number-least, then-not-number-via-else-not-number+else-number-least+then-most-number}

pub returns-in_err-number : goal.returns-in_err-number
returns-in_err-number c =
    let up : c.from_residual.result ≡ Err (record { place = c.args.at }) = search rules in
    let none : c.read_number.result ≡ None = search rules in
    rw up (sym (field_missing _ _ _ (none-fewest _ _ (sym c.read_number.ensures ∙ none))))

pub returns-then-not-number : goal.returns-then-not-number
returns-then-not-number c =
    let some : c.read_number.result ≡ Some c.in_ok-number.number = search rules in
    let e = sym c.read_number.ensures ∙ some in
    elim c.then-not-number.branch [
      | then-not-number-via-then-not-number w ↦ sym (field_missing _ _ _ (padded_refused _ _ e (not-true _ w.if-not-number.true)))
      | then-not-number-via-else-not-number+then-number-least w ↦
          sym (field_forbidden _ _ _ (fewest-read _ _ e (not-false _ w.if-not-number.false)) (between_low _ _ _ w.if-number-least.true))
      | then-not-number-via-else-not-number+else-number-least+then-most-number w ↦
          sym (field_forbidden _ _ _ (fewest-read _ _ e (not-false _ w.if-not-number.false)) (between_high _ _ _ w.if-most-number.true))
    ]

pub overflow_add-result : goal.overflow_add-result
overflow_add-result c =
    let some : c.read_number.result ≡ Some c.in_ok-number.number = search rules in
    omega (arith, (fewest_within _ _ (fewest-read _ _ (sym c.read_number.ensures ∙ some) (not-false _ c.if-not-number.false))).inside)

pub returns : goal.returns
returns c =
    let some : c.read_number.result ≡ Some c.in_ok-number.number = search rules in
    sym (field-allowed _ _ _ (fewest-read _ _ (sym c.read_number.ensures ∙ some) (not-false _ c.if-not-number.false))
    (between_in _ _ _ c.if-number-least.false c.if-most-number.false))
