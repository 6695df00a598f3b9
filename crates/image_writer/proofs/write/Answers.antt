-- `image_writer::write` meets its contract: what checking hands on, and question 11.
use lib.ListN.{length}
use Rattle.lexer.specs.RuleOrder.{image_sheet}
use Rattle.image.specs.Check as check
use Rattle.image.specs.Write.{write}
use Rattle.sheet_reader.proofs.Told.{passed_on}
use Rattle.sheet_checker.proofs.laws.AnswerLaws.{passed_parts}
use Rattle.image_writer.proofs.Endings.{ends_failed, ends_passed, promised}
use Rattle.image_writer.proofs.write.Goals as goal

-- Where the sheet has passed: which sheet that is, what checking hands on of it, and where its rules are in the image's order.
pub in_image_order-ordered-requires : goal.in_image_order-ordered-requires
in_image_order-ordered-requires c = let p = passed_parts _ c.check_sheet.ensures.0 c.in_ok-checked.was in (p.0, p.2)

pub write_if_fits-requires : goal.write_if_fits-requires
write_if_fits-requires c =
    let p = passed_parts _ c.check_sheet.ensures.0 c.in_ok-checked.was in (image_sheet p.0, c.in_image_order-ordered.ensures p.0 p.2)

pub returns-in_err-checked : goal.returns-in_err-checked
unfolding write
returns-in_err-checked c =
    let k = c.check_sheet in
    let z = c.args in
    let e = passed_on _ c.from_residual.ensures.1 in
    promised z.work.now
    (rw e (ends_failed (check.check z.sheet.now (length z.work.now)) z.image.now k.ensures.0 c.in_err-checked.was)) k.ensures.1

pub returns : goal.returns
unfolding write
returns c =
    let k = c.check_sheet in
    let z = c.args in
    let p = passed_parts _ k.ensures.0 c.in_ok-checked.was in
    promised z.work.now
    (ends_passed (check.check z.sheet.now (length z.work.now)) p.0 (length z.image.now) p.1
    (c.write_if_fits.ensures (image_sheet p.0) (c.in_image_order-ordered.ensures p.0 p.2))) k.ensures.1
