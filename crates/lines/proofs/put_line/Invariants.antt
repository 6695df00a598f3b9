-- `lines::put_line` meets its contract. The loop's invariant: what the numbers from here on make is still to be written.
use Rattle.std.proofs.Common.{◌++◌, drop}
use Rattle.lines.specs.Lines.{numbers_bytes}
use Rattle.lines.proofs.Writing.{Left}
use Rattle.lines.proofs.put_line.Given as goal

abbrev pub invariant-loop-n : goal.invariant-loop-n
invariant-loop-n l =
    Left l.fn.buffer (l.word ++ numbers_bytes l.numbers) l.buffer l.at (numbers_bytes (drop l.n-index l.numbers))
