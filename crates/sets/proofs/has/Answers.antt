-- `sets::has` meets its contract: the bit that a shifted one picks.
use borrow.Author.Rules.{rules}
use Rattle.basics.proofs.laws.BitLaws.{shl_one, and_test}
use Rattle.sets.proofs.has.Goals as goal

pub overflow_shl-result : goal.overflow_shl-result
overflow_shl-result c = search rules

pub returns : goal.returns
returns c = rw (shl_one c.args.n c.requires) (and_test c.args.set c.args.n)
