-- `at_end` meets its contract.
use Rattle.machine_turn.proofs.Answers.{ends_well, ends_early}
use borrow.Author.Rules.{rules}
use Rattle.machine_turn.proofs.at_end.Goals as goal

pub all_nullable-requires : goal.all_nullable-requires
all_nullable-requires c = search rules

pub answer-requires : goal.answer-requires
answer-requires c = search rules

pub returns-then-all_nullable : goal.returns-then-all_nullable
returns-then-all_nullable c =
    let tested = c.before.before in
    ends_well _ _ _ _ _ tested.all_nullable.ensures tested.if-all_nullable.true _ c.answer.ensures

pub answer-requires-2 : goal.answer-requires-2
answer-requires-2 c = search rules

pub returns : goal.returns
returns c =
    let tested = c.before.before in
    ends_early _ _ _ _ _ tested.all_nullable.ensures tested.if-all_nullable.false _ c.answer-2.ensures
