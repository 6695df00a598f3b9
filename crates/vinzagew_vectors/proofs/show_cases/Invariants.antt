-- The loop of `vinzagew_vectors::show_cases`: each line starts after the one before it.
use Rattle.std.proofs.Common.{length, ◌-◌}
use Rattle.vinzagew_vectors.proofs.show_cases.Given as goal

abbrev pub decreases-loop-at : goal.decreases-loop-at
decreases-loop-at g l = length l.text - l.at
