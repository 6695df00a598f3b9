-- `sheet_reader::read_header` meets its contract.
use mathlib.Core.Path.{◌∙◌}
use Rattle.sheet_reader.proofs.Told.{passed_on}
use Rattle.sheet_reader.proofs.Fields.{up_to, field-got, field_unfit}
use Rattle.sheet_reader.proofs.Whole.{head_version, head_tokens, head-count, head-whole}
use Rattle.sheet_reader.proofs.read_header.Goals as goal

pub returns-in_err-version : goal.returns-in_err-version
returns-in_err-version c =
    passed_on _ c.from_residual.ensures.1
    ∙ head_version c.args.sheet.now (field_unfit (up_to 1 1) c.args.sheet.now _ c.read_field.ensures c.in_err-version.was)

pub returns-in_err-tokens : goal.returns-in_err-tokens
returns-in_err-tokens c =
    let version = field-got (up_to 1 1) c.args.sheet.now _ c.read_field.ensures c.in_ok-version.was in
    passed_on _ c.from_residual-in_err-tokens.ensures.1
    ∙ head_tokens c.args.sheet.now version (field_unfit (up_to 1 24) c.args.sheet.now _ c.read_field-2.ensures c.in_err-tokens.was)

pub returns-in_err-rules : goal.returns-in_err-rules
returns-in_err-rules c =
    let version = field-got (up_to 1 1) c.args.sheet.now _ c.read_field.ensures c.in_ok-version.was in
    let tokens = field-got (up_to 1 24) c.args.sheet.now _ c.read_field-2.ensures c.in_ok-tokens.was in
    passed_on _ c.from_residual-in_err-rules.ensures.1
    ∙ head-count c.args.sheet.now version tokens (field_unfit (up_to 1 32) c.args.sheet.now _ c.read_field-3.ensures c.in_err-rules.was)

pub returns : goal.returns
returns c =
    let version = field-got (up_to 1 1) c.args.sheet.now _ c.read_field.ensures c.in_ok-version.was in
    let tokens = field-got (up_to 1 24) c.args.sheet.now _ c.read_field-2.ensures c.in_ok-tokens.was in
    head-whole c.args.sheet.now version tokens (field-got (up_to 1 32) c.args.sheet.now _ c.read_field-3.ensures c.in_ok-rules.was)
