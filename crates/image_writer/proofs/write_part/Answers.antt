-- `image_writer::write_part` meets its contract.
use mathlib.Core.Path.{sym, ◌∙◌}
use lib.ListN.{length}
use lib.Seq.{length-take-le}
use Rattle.image.specs.Write as page
use Rattle.image_writer.proofs.Parts.{part_done, part_error}
use Rattle.image_writer.proofs.write_part.Goals as goal

pub slice_bounds-result-end : goal.slice_bounds-result-end
slice_bounds-result-end c =
    let z = c.args in
    let r = c.write-written in
    sym
    (length-take-le _ r.new.image
    (part_done (page.write z.sheet.now (length z.work.now) (length z.image.now)) z.image.now r.new.image
    (sym r.ensures.0 ∙ c.in-Ok.is) r.ensures.1).0)

pub returns-in-Ok : goal.returns-in-Ok
returns-in-Ok c =
    let z = c.args in
    let r = c.write-written in
    let p =
    part_done (page.write z.sheet.now (length z.work.now) (length z.image.now)) z.image.now r.new.image
    (sym r.ensures.0 ∙ c.in-Ok.is) r.ensures.1 in (p.1, p.2, r.ensures.2)

pub returns-in-Err : goal.returns-in-Err
returns-in-Err c =
    let z = c.args in
    let r = c.write-written in
    let p =
    part_error (page.write z.sheet.now (length z.work.now) (length z.image.now)) (sym r.ensures.0 ∙ c.in-Err.is) in
    (p.0, c.numbers_of.ensures ∙ p.1, r.ensures.2)
