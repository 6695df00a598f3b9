-- `text_reader::line_for` meets its contract.
use Rattle.text_reader.proofs.Ways.{line_sheet, line_accepted, line_refused}
use Rattle.text_reader.proofs.line_for.Goals as goal

pub returns-in-Err : goal.returns-in-Err
returns-in-Err c = line_sheet c.args.read c.in-Err.refusal c.in-Err.is

pub returns-then-answer-eq0 : goal.returns-then-answer-eq0
returns-then-answer-eq0 c = line_accepted c.args.read c.in-Ok.answer c.in-Ok.is c.if-answer-eq0.true

pub returns-else-answer-eq0 : goal.returns-else-answer-eq0
returns-else-answer-eq0 c = line_refused c.args.read c.in-Ok.answer c.in-Ok.is c.if-answer-eq0.false
