-- `scanner::latest` meets its contract.
use borrow.Author.Tests.{eq-eqb, ne_eqb}
use Rattle.scanner.specs.Sets.{latest_ended}
use Rattle.scanner.proofs.latest.Goals as goal

pub returns-then-ending-eq0 : goal.returns-then-ending-eq0
unfolding latest_ended
returns-then-ending-eq0 c = rw (eq-eqb _ 0 c.if-ending-eq0.true)

pub returns : goal.returns
unfolding latest_ended
returns c = rw (ne_eqb _ 0 c.if-ending-eq0.false)
