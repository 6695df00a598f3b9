-- `recognise` meets its contract: what checking hands on, questions 12 and 20, and the text.
use lib.ListN.{length}
use Rattle.image.specs.Check.{check}
use Rattle.recogniser.specs.Recognise.{recognise}
use Rattle.sheet_checker.proofs.laws.AnswerLaws.{failed_by, passed_parts}
use Rattle.text_recogniser.proofs.Endings.{ends_refused, ends_12, ends_20, ends_read}
use Rattle.text_recogniser.proofs.recognise.Goals as goal

pub returns-then-text-gt-MOST_TEXT_BYTES : goal.returns-then-text-gt-MOST_TEXT_BYTES
unfolding recognise
returns-then-text-gt-MOST_TEXT_BYTES c =
    let p = passed_parts (check c.args.sheet.now (length c.args.work.now)) c.check_sheet.ensures.0 c.in-Ok.is in
    let answered = c.answer-then-text-gt-MOST_TEXT_BYTES in
    let h = ends_12 c.args.text.now c.args.list.now (check c.args.sheet.now (length c.args.work.now)) p.0 p.1 c.if-text-gt-MOST_TEXT_BYTES.true answered.result answered.ensures in
    (h.answered, h.written, c.check_sheet.ensures.1)

pub returns-then-list-text : goal.returns-then-list-text
unfolding recognise
returns-then-list-text c =
    let p = passed_parts (check c.args.sheet.now (length c.args.work.now)) c.check_sheet.ensures.0 c.in-Ok.is in
    let answered = c.answer-then-list-text in
    let h = ends_20 c.args.text.now c.args.list.now (check c.args.sheet.now (length c.args.work.now)) p.0 p.1 c.if-text-gt-MOST_TEXT_BYTES.false c.if-list-text.true
    answered.result answered.ensures in
    (h.answered, h.written, c.check_sheet.ensures.1)

pub recognise_text-requires : goal.recognise_text-requires
recognise_text-requires c =
    let p = passed_parts (check c.args.sheet.now (length c.args.work.now)) c.check_sheet.ensures.0 c.in-Ok.is in
    (c.if-text-gt-MOST_TEXT_BYTES.false, c.if-list-text.false, (p.0, p.2))

pub returns-in-Err : goal.returns-in-Err
unfolding recognise
returns-in-Err c =
    let k = c.check_sheet in
    let h = ends_refused c.args.text.now c.args.list.now (check c.args.sheet.now (length c.args.work.now)) _ _
    (failed_by (check c.args.sheet.now (length c.args.work.now)) k.ensures.0 c.in-Err.is) c.answer.result c.answer.ensures in
    (h.answered, h.written, k.ensures.1)

pub returns-else-list-text : goal.returns-else-list-text
unfolding recognise
returns-else-list-text c =
    let p = passed_parts (check c.args.sheet.now (length c.args.work.now)) c.check_sheet.ensures.0 c.in-Ok.is in
    let called = c.recognise_text in
    let h = ends_read c.args.text.now c.args.list.now (check c.args.sheet.now (length c.args.work.now)) p.0 p.1 c.if-text-gt-MOST_TEXT_BYTES.false c.if-list-text.false
    called.result called.new.list (called.ensures p.0 p.2) in
    (h.answered, h.written, c.check_sheet.ensures.1)
