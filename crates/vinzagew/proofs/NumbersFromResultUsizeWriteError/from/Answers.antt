-- What writing answers gives its three numbers.
use mathlib.Core.Path.{ap, ◌∙◌}
use Rattle.std.specs.Prelude.{Err}
use Rattle.image_writer.specs.declared.WriteError.{WriteError}
use Rattle.vinzagew.proofs.Laws.{told_done, told_long, told_refused}
use Rattle.vinzagew.proofs.NumbersFromResultUsizeWriteError.from.Goals as goal

pub returns-in-Ok : goal.returns-in-Ok
returns-in-Ok c = c.three.ensures ∙ told_done c.args.written c.in-Ok.length c.in-Ok.is

pub returns-in-TooLong : goal.returns-in-TooLong
returns-in-TooLong c =
    let h = c.in-TooLong in
    c.three-in-TooLong.ensures ∙ told_long c.args.written h.needed (c.in-Err.is ∙ ap (λ (e : WriteError). Err e) h.is)

pub returns-in-Refused : goal.returns-in-Refused
returns-in-Refused c =
    let h = c.in-Refused in
    c.from.ensures ∙ told_refused c.args.written h.refusal (c.in-Err.is ∙ ap (λ (e : WriteError). Err e) h.is)
