-- `node_numbering::rule_tail` meets its contract: a rule that skips has no tail, any other that of its token's production.
use Rattle.node_numbering.proofs.Tails.{skipping_tail, returning-tail}
use Rattle.node_numbering.proofs.rule_tail.Goals as goal

pub returns-then-action-eq0-clause-same : goal.returns-then-action-eq0-clause-same
returns-then-action-eq0-clause-same c = λ e h inside. skipping_tail _ _ c.if-action-eq0.true

pub returns-clause-same : goal.returns-clause-same
returns-clause-same c = λ e h inside. returning-tail _ _ c.if-action-eq0.false _ (c.production.ensures.same e h inside)
