-- `sheet_reader::action_turn` meets its contract.
use mathlib.Core.Path.{◌∙◌}
use Rattle.sheet_reader.proofs.Told.{passed_on}
use Rattle.sheet_reader.proofs.Fields.{up_to_sum, field-got, field_unfit}
use Rattle.sheet_reader.proofs.RuleTurns.{actions_over, action_unfit, action_read}
use Rattle.sheet_reader.proofs.action_turn.Goals as goal

pub returns-then-left-eq0 : goal.returns-then-left-eq0
returns-then-left-eq0 c = actions_over c.args.sheet.now _ _ _ c.if-left-eq0.true

pub returns-in_err-action : goal.returns-in_err-action
returns-in_err-action c =
    let told = rw c.from.ensures at c.read_field.ensures in
    passed_on _ c.from_residual.ensures.1
    ∙ action_unfit c.args.sheet.now _ _ _ c.if-left-eq0.false (field_unfit (up_to_sum 0 c.args.tokens) c.args.sheet.now _ told c.in_err-action.was)

pub returns : goal.returns
returns c =
    let told = rw c.from.ensures at c.read_field.ensures in
    action_read c.args.sheet.now _ _ _ c.if-left-eq0.false (field-got (up_to_sum 0 c.args.tokens) c.args.sheet.now _ told c.in_ok-action.was)
