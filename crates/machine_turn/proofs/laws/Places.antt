-- Where a turn leads: past the match that it was given, or it ends the run at its own place.
use Rattle.std.specs.Prelude.{◌≡◌, Bool, List, ℕ, ◌+◌, Option, Some, None, Result, Ok, Err}
use Rattle.std.proofs.Math.Path.{refl, sym}
use Rattle.std.proofs.Common.{ap, arith}
use Rattle.std.proofs.Math.Bool.{true, false}
use Rattle.basics.specs.Bits.{bit}
use Rattle.scanner.specs.declared.Match.{Match}
use Rattle.machine_turn.specs.Steps.{TakeStep, step_after_take, turn_by, turn_step}
use Rattle.machine_turn.specs.declared.RunAnswer.{RunAnswer}
use Rattle.machine_turn.specs.declared.Taken.{Taken}
use Rattle.machine_turn.specs.declared.Taken.TheVariants.{Pending, NoTaker, TooDeep}
use Rattle.machine_turn.specs.declared.State.{State}

place_of : Result State RunAnswer → ℕ
place_of (Ok s) = s.place
place_of (Err a) = a.place

ends_not : {X : Type 0} {a : RunAnswer} {s : State} → Err a ≡ Ok s → X
ends_not e = let z : ◌≡◌ {A = ℕ} 0 1 = cc in absurd (omega arith)

goes-not : {X : Type 0} {a : RunAnswer} {s : State} → Ok s ≡ Err a → X
goes-not e = ends_not (sym e)

module _ (n : ℕ) (s : State) where
  after_taken : (o : Taken) (s' : State) → step_after_take n s o ≡ Ok s' → s'.place ≡ s.place + n
  unfolding step_after_take place_of
  after_taken (Pending depth first) s' e = sym (ap place_of e)
  after_taken NoTaker s' e = ends_not e
  after_taken TooDeep s' e = ends_not e

  after_by : (b : Bool) (stack : List ℕ) (t : TakeStep) (s' : State) → (turn_by b stack n s t).outcome ≡ Ok s' → s'.place ≡ s.place + n
  unfolding turn_by place_of
  after_by true stack t s' e = sym (ap place_of e)
  after_by false stack t s' e = after_taken t.outcome s' e

  untaken : (o : Taken) (a : RunAnswer) → step_after_take n s o ≡ Err a → a.place ≡ s.place
  unfolding step_after_take place_of
  untaken (Pending depth first) a e = goes-not e
  untaken NoTaker a e = sym (ap place_of e)
  untaken TooDeep a e = sym (ap place_of e)

  ended_by : (b : Bool) (stack : List ℕ) (t : TakeStep) (a : RunAnswer) → (turn_by b stack n s t).outcome ≡ Err a → a.place ≡ s.place
  unfolding turn_by
  ended_by true stack t a e = goes-not e
  ended_by false stack t a e = untaken t.outcome a e

module _ (bytes starts productions : List ℕ) (empty skips : ℕ) (stack : List ℕ) (s : State) where
  -- A turn that goes on was given a match, and goes past it.
  pub next_place : (f : Option Match) (s' : State) → (turn_step bytes starts productions empty skips stack f s).outcome ≡ Ok s'
      → (m : Match) × (f ≡ Some m) × (s'.place ≡ s.place + m.length)
  unfolding turn_step
  next_place None s' e = ends_not e
  next_place (Some m) s' e = (m, refl, after_by m.length s (bit skips m.rule) stack _ s' e)

  -- A turn that ends the run, ends it at its place.
  pub done_place : (f : Option Match) (a : RunAnswer) → (turn_step bytes starts productions empty skips stack f s).outcome ≡ Err a → a.place ≡ s.place
  unfolding turn_step place_of
  done_place None a e = sym (ap place_of e)
  done_place (Some m) a e = ended_by m.length s (bit skips m.rule) stack _ a e
