-- `one_turn` meets its contract: one law of `Answers` for each answer.
use Rattle.std.specs.Prelude.{Option, Some}
use mathlib.Core.Path.{◌≡◌, refl, sym, subst, ◌∙◌}
use Prim.Native.Nat.{◌+◌, ◌<◌}
use native.Mathlib.Omega.{arith}
use Rattle.scanner.specs.declared.Match.{Match}
use Rattle.machine_turn.specs.Steps.{step_after_take, MatchFits}
use Rattle.machine_turn.specs.declared.State.{State}
use Rattle.machine_turn.specs.declared.Taken.TheVariants.{Pending, NoTaker, TooDeep}
use Rattle.machine_turn.proofs.Answers.{step_unmatched, step_skips, step_takes, step_answers}
use Rattle.machine_turn.proofs.one_turn.Goals as goal

-- What the caller ensures of the match that was found.
fits : {f : Option Match} (s : State) {m : Match} → f ≡ Some m → MatchFits f s
    → (m.rule < 32) × (s.place + m.length < 18446744073709551616) × (s.count < s.place + m.length)
fits s e h = subst (λ (f : Option Match). MatchFits f s) e h

pub returns-in_default : goal.returns-in_default
returns-in_default c = step_unmatched _ _ _ _ _ _ _ _ c.in_default.is _ c.answer.ensures

pub overflow_cast-matched : goal.overflow_cast-matched
overflow_cast-matched c = let w = fits c.args.state c.in-Some.is c.requires.0 in omega (arith, w.0)

pub has-requires : goal.has-requires
has-requires c = let w = fits c.args.state c.in-Some.is c.requires.0 in omega (arith, w.0)

pub overflow_add-result : goal.overflow_add-result
overflow_add-result c = let w = fits c.args.state c.in-Some.is c.requires.0 in omega (arith, w.1)

pub returns-then-has : goal.returns-then-has
returns-then-has c = step_skips _ _ _ _ _ _ _ _ _ c.in-Some.is (sym c.has.ensures ∙ c.if-has.true)

pub take_rule-taken-requires : goal.take_rule-taken-requires
take_rule-taken-requires c = ((fits c.args.state c.in-Some.is c.requires.0).0, c.requires.1)

pub returns-in-NoTaker : goal.returns-in-NoTaker
unfolding step_after_take
returns-in-NoTaker c =
    step_answers _ _ _ _ _ _ _ _ _ c.in-Some.is (sym c.has.ensures ∙ c.if-has.false) _ _ c.take_rule-taken.ensures NoTaker c.in-NoTaker.is
    _ _ c.answer-in-NoTaker.ensures refl

pub returns-in-TooDeep : goal.returns-in-TooDeep
unfolding step_after_take
returns-in-TooDeep c =
    step_answers _ _ _ _ _ _ _ _ _ c.in-Some.is (sym c.has.ensures ∙ c.if-has.false) _ _ c.take_rule-taken.ensures TooDeep c.in-TooDeep.is
    _ _ c.answer-in-TooDeep.ensures refl

pub overflow_add-result-in-Pending : goal.overflow_add-result-in-Pending
overflow_add-result-in-Pending c = let w = fits c.args.state c.in-Some.is c.requires.0 in omega (arith, w.1)

pub overflow_add-result-in-Pending-2 : goal.overflow_add-result-in-Pending-2
overflow_add-result-in-Pending-2 c = let w = fits c.args.state c.in-Some.is c.requires.0 in omega (arith, w.1, w.2)

pub returns-in-Pending : goal.returns-in-Pending
unfolding step_after_take
returns-in-Pending c =
    step_takes _ _ _ _ _ _ _ _ _ c.in-Some.is (sym c.has.ensures ∙ c.if-has.false) _ _ c.take_rule-taken.ensures
    (Pending c.in-Pending.depth c.in-Pending.first) c.in-Pending.is
