-- `hex_lines::next_line` meets its contract: the part from the place on is all that is left.
use Rattle.std.proofs.Common.{arith, ap, ◌∙◌, ◌+◌, ℕ, drop, length-drop}
use Rattle.std.proofs.Math.Seq.{take_all}
use Rattle.hex_lines.specs.LineEnds.{after_line, line_length}
use Rattle.hex_lines.proofs.next_line.Goals as goal

pub returns-clause-place : goal.returns-clause-place
unfolding after_line
returns-clause-place c =
    let text = c.args.text.now in
    ap (λ (n : ℕ). c.args.at + n) (c.first_line.ensures.length ∙ ap line_length (take_all _ (drop c.args.at text) (omega (arith, length-drop c.args.at text))))
