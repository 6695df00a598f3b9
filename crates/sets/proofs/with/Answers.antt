-- `sets::with` meets its contract.
use borrow.Author.Rules.{rules}
use Rattle.basics.proofs.laws.BitLaws.{shl_one}
use Rattle.sets.proofs.with.Goals as goal

pub overflow_shl-result : goal.overflow_shl-result
overflow_shl-result c = search rules

pub returns-then-member : goal.returns-then-member
returns-then-member c = rw (shl_one c.args.n c.requires, c.if-member.true)

pub returns : goal.returns
returns c = search rules
