-- `sets::all_below` meets its contract: 64 ones, or one less than a power.
use mathlib.Core.Path.{◌≡◌}
use native.Mathlib.Omega.{arith}
use lib.Pow.{pow_pos}
use borrow.Author.Rules.{rules}
use Rattle.basics.proofs.laws.BitLaws.{shl_one}
use Rattle.sets.proofs.all_below.Goals as goal

pub returns-then-count-gt63 : goal.returns-then-count-gt63
returns-then-count-gt63 c = let e : c.args.count ≡ 64 = omega (arith, c.requires) in rw e

pub overflow_shl-result : goal.overflow_shl-result
overflow_shl-result c = search rules

pub overflow_sub-result : goal.overflow_sub-result
overflow_sub-result c = rw (shl_one c.args.count (omega arith)) (pow_pos c.args.count)

pub returns : goal.returns
returns c = rw (shl_one c.args.count (omega arith))
