-- `hex_lines::first_line` meets its contract: the line end is at the place that was found, or nowhere.
use Rattle.std.proofs.Common.{rules, sym}
use Rattle.hex_lines.proofs.Ends.{ends_at, ends_never}
use Rattle.hex_lines.proofs.first_line.Goals as goal

pub returns-in-Some-clause-length : goal.returns-in-Some-clause-length
returns-in-Some-clause-length c = sym (ends_at c.args.text.now c.in-Some.n (search rules) (search rules) (search rules))

pub returns-in-None-clause-length : goal.returns-in-None-clause-length
returns-in-None-clause-length c = sym (ends_never c.args.text.now (search rules))
