-- `sheet_checker::check` meets its contract.
use mathlib.Core.Path.{ap, ◌∙◌}
use lib.ListN.{length}
use Rattle.image.specs.Check as page
use Rattle.sheet_checker.specs.Answer.{answer_of}
use Rattle.sheet_reader.proofs.Told.{passed_on}
use Rattle.sheet_checker.proofs.laws.AnswerLaws.{case_answer, ends_case}
use Rattle.sheet_checker.proofs.check.Goals as goal

pub returns-in_err-check_sheet : goal.returns-in_err-check_sheet
returns-in_err-check_sheet c =
    let k = c.check_sheet in
    let v = page.check c.args.sheet.now (length c.args.work.now) in
    let e = passed_on _ c.from_residual.ensures.1 ∙ (rw c.in_err-check_sheet.was at (ends_case v k.result k.ensures.0)) in
    (e, k.ensures.1, ap answer_of e ∙ case_answer v)

pub returns : goal.returns
returns c =
    let k = c.check_sheet in
    let v = page.check c.args.sheet.now (length c.args.work.now) in
    let e = rw c.in_ok-check_sheet.was at (ends_case v k.result k.ensures.0) in (e, k.ensures.1, ap answer_of e ∙ case_answer v)
