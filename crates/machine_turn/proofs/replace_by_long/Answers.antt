-- `replace_by_long` meets its contract: one law of `Replacing` for each answer.
use Rattle.machine_turn.proofs.Replacing.{long_too_deep, long_fits}
use borrow.Author.Rules.{rules}
use Rattle.machine_turn.proofs.replace_by_long.Goals as goal

pub bounds-image-at : goal.bounds-image-at
bounds-image-at c = search rules

pub overflow_cast-size : goal.overflow_cast-size
overflow_cast-size c = search rules

pub overflow_sub-stack : goal.overflow_sub-stack
overflow_sub-stack c = search rules

pub returns-then-stack-below : goal.returns-then-stack-below
returns-then-stack-below c =
    let start = c.before.before.before.before.before in
    long_too_deep start.args.image.now start.args.stack.now _ _ start.requires.1 start.requires.2 start.requires.0 c.if-stack-below.true

pub overflow_add-at : goal.overflow_add-at
overflow_add-at c = search rules

pub overflow_sub-size : goal.overflow_sub-size
overflow_sub-size c = search rules

pub overflow_add-below : goal.overflow_add-below
overflow_add-below c = search rules

pub push_tail-requires : goal.push_tail-requires
push_tail-requires c = search rules

pub overflow_add-result : goal.overflow_add-result
overflow_add-result c = search rules

pub overflow_add-result-2 : goal.overflow_add-result-2
overflow_add-result-2 c = search rules

pub bounds-image-at-2 : goal.bounds-image-at-2
bounds-image-at-2 c = search rules

pub shape_of-stack : goal.shape_of-stack
shape_of-stack c = search rules

pub returns : goal.returns
returns c =
    let pushing = c.before.before.before.before in
    let tested = pushing.before.before in
    let start = tested.before.before.before.before in
    long_fits start.args.image.now start.args.stack.now _ _ start.requires.1 start.requires.2 start.requires.0
    tested.if-stack-below.false _ pushing.push_tail.ensures
