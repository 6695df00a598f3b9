-- What checking answers gives its three numbers.
use mathlib.Core.Path.{◌∙◌}
use Rattle.vinzagew.proofs.Laws.{told_passed, told_failed}
use Rattle.vinzagew.proofs.NumbersFromResultUnitRefusal.from.Goals as goal

pub returns-in-Ok : goal.returns-in-Ok
returns-in-Ok c = c.three.ensures ∙ told_passed c.args.checked c.in-Ok.is

pub returns-in-Err : goal.returns-in-Err
returns-in-Err c = c.from.ensures ∙ told_failed c.args.checked c.in-Err.refusal c.in-Err.is
