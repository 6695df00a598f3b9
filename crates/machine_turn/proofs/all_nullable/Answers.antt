use mathlib.Core.Path.{refl, sym, ◌∙◌}
use native.Mathlib.Omega.{arith}
use Rattle.machine_turn.proofs.laws.StackLaws.{all-behind}
use Rattle.machine_turn.proofs.Entries.{members_stop, members_pass, members-none}
use Rattle.machine_turn.proofs.all_nullable.Goals as goal

pub loop-below-init : goal.loop-below-init
loop-below-init c = (c.requires.0, c.requires.1, refl)

pub overflow_cast-nonterminal : goal.overflow_cast-nonterminal
overflow_cast-nonterminal c = omega (arith, (all-behind 64 _ _ _ c.loop-below-test.true c.loop-below.invariant.1).0)

pub has-requires : goal.has-requires
has-requires c = (all-behind 64 _ _ _ c.loop-below-test.true c.loop-below.invariant.1).0

pub bounds-stack-below : goal.bounds-stack-below
bounds-stack-below c =
    let turn = c.before.before.before.before in
    omega (arith, turn.loop-below.invariant.0, turn.loop-below-test.true)

pub returns : goal.returns
returns c = members-none _ _ _ _ c.loop-below-test.false ∙ c.loop-below.invariant.2

pub loop-below-preserved : goal.loop-below-preserved
loop-below-preserved c =
    let tested = c.before.before in
    let member = tested.before in
    let turn = member.before in
    let l = turn.loop-below in (
      omega (arith, l.invariant.0),
      (all-behind 64 _ _ _ turn.loop-below-test.true l.invariant.1).1,
      members_pass _ _ _ _ turn.loop-below-test.true (sym member.has.ensures ∙ tested.if-not-has.false) ∙ l.invariant.2,
    )

pub returns-then-not-has : goal.returns-then-not-has
returns-then-not-has c =
    let member = c.before.before in
    let turn = member.before in
    let l = turn.loop-below in
    members_stop _ _ _ _ turn.loop-below-test.true (sym member.has.ensures ∙ c.if-not-has.true) ∙ l.invariant.2
