-- What `write_line` wrote is the program's line.
use Rattle.std.proofs.Common.{ap, subst, ◌∙◌}
use Rattle.lines.specs.Lines.{line_bytes}
use Rattle.lines.proofs.laws.LineLaws.{front_is, front-counts}
use Rattle.text_reader.specs.Program.{OwnLine}
use Rattle.vinzagew_program.proofs.put_output.Goals as goal

pub returns : goal.returns
returns c =
    let line = c.program_line-line in
    let d = c.args.buffer.now in
    let put = c.write_line.ensures in (
      front-counts line.result d put.0 put.1,
      front_is line.result d put.0 put.1 ∙ ap line_bytes line.ensures.0,
      subst (OwnLine c.args.sheet.now c.args.text.now) line.ensures.0 line.ensures.1,
    )
