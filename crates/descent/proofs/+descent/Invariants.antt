-- The functions of the descent's cycle meet their contracts, together: each by its law, on the strength of what its calls promise. The
-- falling number orders them; at one falling number `visit` comes before `enter` and `leave`, and these before the kinds.
use Rattle.std.proofs.Common.{◌+◌, ◌*◌}
use Rattle.descent.proofs.+descent.Given as goal

abbrev pub decreases-alternative : goal.decreases-alternative
decreases-alternative l = 4 * l.falling + 1

abbrev pub decreases-enter : goal.decreases-enter
decreases-enter l = 4 * l.falling + 2

abbrev pub decreases-fixed_point : goal.decreases-fixed_point
decreases-fixed_point l = 4 * l.falling + 1

abbrev pub decreases-leave : goal.decreases-leave
decreases-leave l = 4 * l.falling + 2

abbrev pub decreases-repetition : goal.decreases-repetition
decreases-repetition l = 4 * l.falling + 1

abbrev pub decreases-sequence : goal.decreases-sequence
decreases-sequence l = 4 * l.falling + 1

abbrev pub decreases-token : goal.decreases-token
decreases-token l = 4 * l.falling + 1

abbrev pub decreases-variable : goal.decreases-variable
decreases-variable l = 4 * l.falling + 1

abbrev pub decreases-visit : goal.decreases-visit
decreases-visit l = 4 * l.falling + 3
