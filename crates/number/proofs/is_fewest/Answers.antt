-- `number::is_fewest` meets its contract.
use borrow.Author.Tests.{eq-eqb, ne_eqb}
use Rattle.number.specs.Number.{fewest}
use Rattle.number.proofs.is_fewest.Goals as goal

pub returns-then-count-eq1 : goal.returns-then-count-eq1
unfolding fewest
returns-then-count-eq1 c = rw (eq-eqb _ _ c.if-count-eq1.true)

pub returns-else-count-eq1 : goal.returns-else-count-eq1
unfolding fewest
returns-else-count-eq1 c = rw (ne_eqb _ _ c.if-count-eq1.false)
