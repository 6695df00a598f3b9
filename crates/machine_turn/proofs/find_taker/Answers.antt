use mathlib.Core.Path.{refl, sym, ◌∙◌}
use Prim.Native.Nat.{◌<◌}
use native.Mathlib.Omega.{arith}
use Rattle.machine_turn.proofs.laws.StackLaws.{all-behind}
use Rattle.machine_turn.proofs.Entries.{taker_found, taker_stops, taker_passes, taker-none}
use Rattle.machine_turn.proofs.find_taker.Goals as goal
use Rattle.machine_turn.proofs.find_taker.Lts as lts
use Rattle.machine_turn.proofs.find_taker.Tie as tie
use Rattle.machine_turn.proofs.find_taker.Reads as reads

abbrev Lts-In-loop-below : Type 0
Lts-In-loop-below = lts.In-loop tie.the-claims reads.Pre reads.Post goal.the-invariant-loop-below goal.the-decreases-loop-below

pub loop-below-init : goal.loop-below-init
loop-below-init c = (c.requires.1, c.requires.2, refl)

-- The nonterminal and the rule have their place in the table.
small : (c : Lts-In-loop-below) → (c.loop-below.nonterminal < 64) × (c.args.rule < 32)
small c = ((all-behind 64 _ _ _ c.loop-below-test.true c.loop-below.invariant.1).0, c.requires.0)

pub overflow_cast-entry : goal.overflow_cast-entry
overflow_cast-entry c = let w = small c.before in omega (arith, w.0)

pub overflow_mul-entry : goal.overflow_mul-entry
overflow_mul-entry c = let w = small c.before in omega (arith, w.0)

pub overflow_add-entry : goal.overflow_add-entry
overflow_add-entry c = let w = small c.before in omega (arith, w.0, w.1)

pub offset_bounds-productions-nonterminal : goal.offset_bounds-productions-nonterminal
offset_bounds-productions-nonterminal c = let w = small c.before in omega (arith, w.0, w.1)

pub bounds-productions-nonterminal : goal.bounds-productions-nonterminal
bounds-productions-nonterminal c = let w = small c.before.before in omega (arith, w.0, w.1)

pub returns-then-entry-ne0 : goal.returns-then-entry-ne0
returns-then-entry-ne0 c =
    let turn = c.before.before.before in
    let l = turn.loop-below in
    taker_found _ _ _ _ l.below _ turn.loop-below-test.true c.if-entry-ne0.true ∙ l.invariant.2

pub overflow_cast-nonterminal : goal.overflow_cast-nonterminal
overflow_cast-nonterminal c = let w = small c.before.before.before.before in omega (arith, w.0)

pub has-requires : goal.has-requires
has-requires c = (small c.before.before.before.before).0

pub bounds-stack-below : goal.bounds-stack-below
bounds-stack-below c =
    let turn = c.before.before.before.before.before.before in
    omega (arith, turn.loop-below.invariant.0, turn.loop-below-test.true)

pub returns : goal.returns
returns c = taker-none _ _ _ _ _ _ c.loop-below-test.false ∙ c.loop-below.invariant.2

pub loop-below-preserved : goal.loop-below-preserved
loop-below-preserved c =
    let passed = c.before.before in
    let member = passed.before in
    let tested = member.before in
    let turn = tested.before.before in
    let l = turn.loop-below in
    let empty = sym member.has.ensures ∙ passed.if-not-has.false in (
      omega (arith, l.invariant.0),
      (all-behind 64 _ _ _ turn.loop-below-test.true l.invariant.1).1,
      taker_passes _ _ _ _ l.below _ turn.loop-below-test.true tested.if-entry-ne0.false empty ∙ l.invariant.2,
    )

pub returns-then-not-has : goal.returns-then-not-has
returns-then-not-has c =
    let member = c.before.before in
    let tested = member.before in
    let turn = tested.before.before in
    let l = turn.loop-below in
    let empty = sym member.has.ensures ∙ c.if-not-has.true in
    taker_stops _ _ _ _ l.below _ turn.loop-below-test.true tested.if-entry-ne0.false empty ∙ l.invariant.2
