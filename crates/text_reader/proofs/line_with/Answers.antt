-- `text_reader::line_with` meets its contract: the promise of `read_text`, with buffers of the program's lengths.
use borrow.Author.Rules.{rules}
use mathlib.Core.Path.{◌≡◌, sym, subst, ◌∙◌}
use lib.ListN.{length}
use Rattle.image.specs.Check.{work_bytes}
use Rattle.text_reader.specs.Program.{program_room, program_entries, OwnLine}
use Rattle.text_reader.proofs.Ways.{program_prints}
use Rattle.text_reader.proofs.line_with.Goals as goal

pub returns : goal.returns
returns c =
    let z = c.args in
    let read = c.read_text-read in
    let work : length z.work.now ≡ work_bytes = search rules in
    let image : length z.image.now ≡ program_room = search rules in
    let stack : length z.stack.now ≡ program_entries = search rules in
    let p =
    program_prints z.sheet.now z.text.now (length z.work.now) (length z.image.now) z.stack.now work image stack _
    read.ensures.0 read.ensures.4 in
    let e = c.line_for.ensures in (e ∙ p.0, subst (OwnLine z.sheet.now z.text.now) (sym e) p.1)
