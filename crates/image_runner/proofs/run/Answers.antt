-- `run` meets its contract: the run of the image that was read.
use Rattle.std.proofs.Common.{rules}
use mathlib.Core.Path.{sym, ◌∙◌}
use Rattle.image_runner.proofs.Laws.{run_alone}
use Rattle.image_runner.proofs.run.Goals as goal

pub returns : goal.returns
returns c =
    let r = c.in-Ok.ensures in
    let ran = c.run_read.ensures in
    run_alone r.image _ _ _ _ (ran.1 r.image (search rules)) ran.0 ∙ sym (r.runs _ (λ x. x))
