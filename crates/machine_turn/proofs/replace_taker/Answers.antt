-- `replace_taker` meets its contract: one law of `Replacing` for each kind of entry.
use mathlib.Core.Path.{◌≡◌}
use Prim.Native.Nat.{◌/◌}
use native.Mathlib.Omega.{arith}
use Rattle.machine_turn.proofs.Replacing.{entry_of-none, entry_of_one, entry_of_two_deep, entry_of_two, entry_of-more}
use borrow.Author.Rules.{rules}
use Rattle.machine_turn.proofs.replace_taker.Goals as goal
use Rattle.machine_turn.proofs.replace_taker.Lts as lts
use Rattle.machine_turn.proofs.replace_taker.Tie as tie
use Rattle.machine_turn.proofs.replace_taker.Reads as reads

abbrev Lts-Else-size-eq1 : Type 0
Lts-Else-size-eq1 = lts.Else3 tie.the-claims reads.Pre reads.Post

-- A tail of none, one or more than two members was tried before.
two-members : (c : Lts-Else-size-eq1) → c.args.entry / 16384 ≡ 2
two-members c =
    let start = c.before.before.before.before.before in
    omega (arith, start.ranges.entry, c.if-size-eq0.false, c.if-size-eq3.false, c.if-size-eq1.false)

pub bounds-stack-below : goal.bounds-stack-below
bounds-stack-below c = search rules

pub returns-then-size-eq0 : goal.returns-then-size-eq0
returns-then-size-eq0 c =
    let tested = c.before.before in
    let start = tested.before.before.before in
    entry_of-none start.args.image.now _ _ start.args.stack.now _ start.requires.0 tested.if-size-eq0.true

pub overflow_cast-entry : goal.overflow_cast-entry
overflow_cast-entry c = search rules

pub overflow_add-start : goal.overflow_add-start
overflow_add-start c =
    let start = c.before.before.before.before.before in
    let w = start.requires.1.2.inside (omega (arith, c.if-size-eq3.true)) in
    omega (arith, w.1)

pub replace_by_long-requires : goal.replace_by_long-requires
replace_by_long-requires c =
    let tested = c.before.before in
    let start = tested.before.before.before.before in
    let w = start.requires.1.2.inside (omega (arith, tested.if-size-eq3.true)) in
    (start.requires.0, w.0, w.1)

pub shape_of-stack-then-size-eq3 : goal.shape_of-stack-then-size-eq3
shape_of-stack-then-size-eq3 c = search rules

pub returns-then-size-eq3 : goal.returns-then-size-eq3
returns-then-size-eq3 c =
    let replacing = c.before.before.before in
    let tested = replacing.before.before in
    let start = tested.before.before.before.before in
    entry_of-more start.args.image.now _ _ start.args.stack.now _ start.requires.0 tested.if-size-eq3.true _ _
    replacing.replace_by_long.ensures

pub overflow_cast-first : goal.overflow_cast-first
overflow_cast-first c = search rules

pub overflow_add-result : goal.overflow_add-result
overflow_add-result c = search rules

pub returns-then-size-eq1 : goal.returns-then-size-eq1
returns-then-size-eq1 c =
    let start = c.before.before.before.before.before.before in
    entry_of_one start.args.image.now _ _ start.args.stack.now _ start.requires.0 c.if-size-eq1.true

pub overflow_sub-stack : goal.overflow_sub-stack
overflow_sub-stack c = search rules

pub returns-then-stack-below-lt2 : goal.returns-then-stack-below-lt2
returns-then-stack-below-lt2 c =
    let start = c.before.before.before.before.before.before.before in
    entry_of_two_deep start.args.image.now _ _ start.args.stack.now _ start.requires.0 (two-members c.before.before) c.if-stack-below-lt2.true

pub overflow_add-top : goal.overflow_add-top
overflow_add-top c = search rules

pub overflow_cast-second : goal.overflow_cast-second
overflow_cast-second c = search rules

pub bounds-stack-top : goal.bounds-stack-top
bounds-stack-top c = search rules

pub overflow_add-result-2 : goal.overflow_add-result-2
overflow_add-result-2 c = search rules

pub shape_of-stack : goal.shape_of-stack
shape_of-stack c = search rules

pub returns : goal.returns
returns c =
    let start = c.before.before.before.before.before.before.before in
    entry_of_two start.args.image.now start.args.start _ start.args.stack.now _ start.requires.0 (two-members c.before.before)
    c.if-stack-below-lt2.false
