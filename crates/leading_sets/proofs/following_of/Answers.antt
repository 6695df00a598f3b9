-- `leading_sets::following_of` meets its contract.
use mathlib.Core.Path.{◌∙◌}
use Rattle.leading_sets.proofs.laws.LeadingLaws.{both_upper}
use Rattle.leading_sets.proofs.following_of.Goals as goal

pub returns : goal.returns
returns c = λ follow u. c.union_of.ensures follow u ∙ both_upper follow c.args.set
