-- `sheet_reader::regex_turn` meets its contract: each way through it is a way through the definition's turn.
use native.Mathlib.Omega.{arith}
use mathlib.Core.Path.{sym, ap, ◌∙◌}
use Rattle.sheet_reader.specs.Turns.{node_answer}
use Rattle.sheet_reader.proofs.Told.{passed_on}
use Rattle.sheet_reader.proofs.Fields.{up_to, field-got, field_unfit}
use Rattle.sheet_reader.proofs.RegexTurns.{node_unfit, node_full, node_class, node_empty, node_star, node_two}
use Rattle.sheet_reader.proofs.regex_turn.Goals as goal

pub returns-in_err-tag : goal.returns-in_err-tag
unfolding node_answer
returns-in_err-tag c =
    let e = field_unfit (up_to 0 4) c.args.sheet.now _ c.read_field.ensures c.in_err-tag.was in
    passed_on _ c.from_residual.ensures.1 ∙ ap node_answer (sym (node_unfit c.args.sheet.now _ _ _ e))

pub returns-then-items-ge-MOST_REGEX_NODES : goal.returns-then-items-ge-MOST_REGEX_NODES
unfolding node_answer
returns-then-items-ge-MOST_REGEX_NODES c =
    let e = field-got (up_to 0 4) c.args.sheet.now _ c.read_field.ensures c.in_ok-tag.was in
    ap node_answer (sym (node_full c.args.sheet.now _ _ _ e c.if-items-ge-MOST_REGEX_NODES.true))

pub returns-in-1 : goal.returns-in-1
returns-in-1 c =
    let e = field-got (up_to 0 4) c.args.sheet.now _ c.read_field.ensures c.in_ok-tag.was in
    c.class_turn.ensures ∙ ap node_answer (sym (node_class c.args.sheet.now _ _ _ e c.if-items-ge-MOST_REGEX_NODES.false c.in-1.is))

pub returns-in-0 : goal.returns-in-0
returns-in-0 c =
    let e = field-got (up_to 0 4) c.args.sheet.now _ c.read_field.ensures c.in_ok-tag.was in
    node_empty c.args.sheet.now _ _ _ e c.if-items-ge-MOST_REGEX_NODES.false c.in-0.is

pub returns-in-4 : goal.returns-in-4
returns-in-4 c =
    let e = field-got (up_to 0 4) c.args.sheet.now _ c.read_field.ensures c.in_ok-tag.was in
    node_star c.args.sheet.now _ _ _ e c.if-items-ge-MOST_REGEX_NODES.false c.in-4.is

pub returns-in_default : goal.returns-in_default
returns-in_default c =
    let e = field-got (up_to 0 4) c.args.sheet.now _ c.read_field.ensures c.in_ok-tag.was in
    node_two c.args.sheet.now _ _ _ e c.if-items-ge-MOST_REGEX_NODES.false (λ z. omega arith) (λ z. omega arith) (λ z. omega arith)
