-- `sheet_reader::expression_turn` meets its contract: each way through it is a way through the definition's turn.
use native.Mathlib.Omega.{arith}
use mathlib.Core.Path.{sym, ap, ◌∙◌}
use Rattle.sheet_reader.specs.Turns.{expression_answer}
use Rattle.sheet_reader.proofs.Told.{passed_on}
use Rattle.sheet_reader.proofs.Fields.{up_to, field-got, field_unfit}
use Rattle.sheet_reader.proofs.ExpressionTurns.{node_unfit, node_full, node_token, node_variable, node_plain}
use Rattle.sheet_reader.proofs.expression_turn.Goals as goal

pub returns-in_err-tag : goal.returns-in_err-tag
unfolding expression_answer
returns-in_err-tag c =
    let e = field_unfit (up_to 0 7) c.args.sheet.now _ c.read_field.ensures c.in_err-tag.was in
    passed_on _ c.from_residual.ensures.1 ∙ ap expression_answer (sym (node_unfit c.args.sheet.now _ _ _ _ e))

pub returns-then-count-ge-MOST_NODES : goal.returns-then-count-ge-MOST_NODES
unfolding expression_answer
returns-then-count-ge-MOST_NODES c =
    let e = field-got (up_to 0 7) c.args.sheet.now _ c.read_field.ensures c.in_ok-tag.was in
    ap expression_answer (sym (node_full c.args.sheet.now _ _ _ _ e c.if-count-ge-MOST_NODES.true))

pub returns-in-2 : goal.returns-in-2
returns-in-2 c =
    let e = field-got (up_to 0 7) c.args.sheet.now _ c.read_field.ensures c.in_ok-tag.was in
    let told = rw c.from.ensures at c.numbered_turn.ensures in
    told ∙ node_token c.args.sheet.now _ _ _ _ e c.if-count-ge-MOST_NODES.false c.in-2.is

pub returns-in-6 : goal.returns-in-6
returns-in-6 c =
    let e = field-got (up_to 0 7) c.args.sheet.now _ c.read_field.ensures c.in_ok-tag.was in
    let told = rw c.from-in-6.ensures at c.numbered_turn-in-6.ensures in
    told ∙ node_variable c.args.sheet.now _ _ _ _ e c.if-count-ge-MOST_NODES.false c.in-6.is

pub returns-in_default : goal.returns-in_default
returns-in_default c =
    let e = field-got (up_to 0 7) c.args.sheet.now _ c.read_field.ensures c.in_ok-tag.was in
    node_plain c.args.sheet.now _ _ _ _ e c.if-count-ge-MOST_NODES.false (λ z. omega arith) (λ z. omega arith)
