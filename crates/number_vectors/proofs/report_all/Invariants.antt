-- The loop of `number_vectors::report_all`: each line starts after the one before it.
use Rattle.std.proofs.Common.{length, ◌-◌}
use Rattle.number_vectors.proofs.report_all.Given as goal

abbrev pub decreases-loop-at : goal.decreases-loop-at
decreases-loop-at g l = length l.text - l.at
