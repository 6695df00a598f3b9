-- `sheet_reader::read_sheet` meets its contract.
use mathlib.Core.Path.{sym, ◌∙◌}
use Rattle.sheet_reader.proofs.Told.{passed_on}
use Rattle.sheet_reader.proofs.Fields.{answer_unfit}
use Rattle.sheet_reader.proofs.Leading.{was_read, was_stopped}
use Rattle.sheet_reader.proofs.Whole.{head_read, sheet_head, sheet_rules, sheet_nodes, sheet_over, sheet_whole}
use Rattle.sheet_reader.proofs.read_sheet.Goals as goal

pub returns-in_err-header : goal.returns-in_err-header
returns-in_err-header c =
    let e = passed_on _ c.from_residual.ensures.1 in
    rw e (sheet_head c.args.sheet.now (answer_unfit _ (sym c.read_header.ensures ∙ c.in_err-header.was)))

pub read_rules-requires : goal.read_rules-requires
read_rules-requires c =
    let h = head_read c.args.sheet.now (sym c.read_header.ensures ∙ c.in_ok-header.was) in
    (h.inside, c.requires, h.tokens_most, h.rules_most)

pub read_expression-requires : goal.read_expression-requires
read_expression-requires c = ((was_read c.read_rules.ensures.answers c.in_ok-rules.was).inside, c.requires)

pub returns-in_err-rules : goal.returns-in_err-rules
returns-in_err-rules c =
    let h = head_read c.args.sheet.now (sym c.read_header.ensures ∙ c.in_ok-header.was) in
    let e = passed_on _ c.from_residual-in_err-rules.ensures.1 in
    rw e (sheet_rules c.args.sheet.now _ h.read (was_stopped c.read_rules.ensures.answers c.in_err-rules.was))

pub returns-in_err-nodes : goal.returns-in_err-nodes
returns-in_err-nodes c =
    let h = head_read c.args.sheet.now (sym c.read_header.ensures ∙ c.in_ok-header.was) in
    let rules = was_read c.read_rules.ensures.answers c.in_ok-rules.was in
    let e = passed_on _ c.from_residual-in_err-nodes.ensures.1 in
    rw e (sheet_nodes c.args.sheet.now _ h.read rules.read (was_stopped c.read_expression.ensures c.in_err-nodes.was))

pub returns-then-nodes-sheet : goal.returns-then-nodes-sheet
returns-then-nodes-sheet c =
    let h = head_read c.args.sheet.now (sym c.read_header.ensures ∙ c.in_ok-header.was) in
    let rules = was_read c.read_rules.ensures.answers c.in_ok-rules.was in
    let nodes = was_read c.read_expression.ensures c.in_ok-nodes.was in
    sheet_over c.args.sheet.now _ h.read rules.read nodes.read c.if-nodes-sheet.true

pub returns : goal.returns
returns c =
    let h = head_read c.args.sheet.now (sym c.read_header.ensures ∙ c.in_ok-header.was) in
    let rules = was_read c.read_rules.ensures.answers c.in_ok-rules.was in
    let nodes = was_read c.read_expression.ensures c.in_ok-nodes.was in
    let fits = rw c.in_ok-rules.was at c.read_rules.ensures.fits in
    rw (rules.columns, nodes.columns) (sheet_whole c.args.sheet.now _ h.read rules.read nodes.read c.if-nodes-sheet.false (rw rules.columns at fits))
