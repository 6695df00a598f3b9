-- What a take and a turn answer: one law for each way through the code.
use Rattle.std.specs.Prelude.{Option, Some, None, Ok, Err}
use mathlib.Core.Path.{◌≡◌, refl, sym, ap, ◌∙◌}
use mathlib.Core.Bool.{Bool, true, false, cond}
use mathlib.Core.List.{List}
use Prim.Native.Nat.{ℕ, ◌+◌}
use lib.ListN.{get_or}
use Rattle.basics.specs.Bits.{bit}
use Rattle.scanner.specs.declared.Match.{Match}
use Rattle.image_reader.specs.Tables.{entry_tail}
use Rattle.machine_turn.specs.Steps.{taker, TakeStep, replaced, replace_taker, take_step}
use Rattle.machine_turn.specs.Steps.{run_answer, state_at, all_members, end_answer}
use Rattle.machine_turn.specs.Steps.{step_after_take, turn_by, TurnStep, turn_step}
use Rattle.machine_turn.specs.declared.RunAnswer.{RunAnswer}
use Rattle.machine_turn.specs.declared.Taker.{Taker}
use Rattle.machine_turn.specs.declared.Taken.{Taken}
use Rattle.machine_turn.specs.declared.Taken.TheVariants.{NoTaker}
use Rattle.machine_turn.specs.declared.State.{State}
use Rattle.machine_turn.proofs.Replacing.{Leaves, leaves_same}

module _ (bytes starts productions : List ℕ) (empty : ℕ) (stack : List ℕ) (depth first rule : ℕ) where
  abbrev step : TakeStep
  step = take_step bytes starts productions empty stack depth first rule

  pub no_taker : taker productions empty stack depth first rule ≡ None → Leaves NoTaker stack step
  unfolding take_step replace_taker
  no_taker e = (rw e, rw e)

  pub took : (t : Taker) (start : ℕ) → taker productions empty stack depth first rule ≡ Some t → get_or starts t.nonterminal 0 ≡ start
      → (r : Taken) (stack' : List ℕ) → Leaves r stack' (replaced stack t.below (entry_tail bytes start t.entry)) → Leaves r stack' step
  unfolding take_step replace_taker
  took t start e f r stack' h =
      leaves_same r stack' _ step
      (ap (λ (x : ℕ). replaced stack t.below (entry_tail bytes x t.entry)) (sym f) ∙ sym (ap (replace_taker bytes starts stack) e)) h

-- ---- a turn

module _ (bytes starts productions : List ℕ) (empty skips : ℕ) (stack : List ℕ) (f : Option Match) (s : State) where
  abbrev whole_turn : TurnStep
  whole_turn = turn_step bytes starts productions empty skips stack f s

  pub step_unmatched : f ≡ None → (a : RunAnswer) → a ≡ run_answer 14 s.place s.count
      → (Err a ≡ whole_turn.outcome) × (stack ≡ whole_turn.stack)
  unfolding turn_step
  step_unmatched e a g = rw e (ap Err g, refl)

  module _ (m : Match) (matched : f ≡ Some m) where
    abbrev take_of_turn : TakeStep
    take_of_turn = take_step bytes starts productions empty stack s.depth s.first m.rule

    by_match : whole_turn ≡ turn_by (bit skips m.rule) stack m.length s take_of_turn
    unfolding turn_step
    by_match = ap (λ (x : Option Match). turn_step bytes starts productions empty skips stack x s) matched

    pub step_skips : bit skips m.rule ≡ true
        → (Ok (state_at (s.place + m.length) s.depth s.first s.count) ≡ whole_turn.outcome) × (stack ≡ whole_turn.stack)
    unfolding turn_by
    step_skips e =
        let w = by_match ∙ ap (λ (b : Bool). turn_by b stack m.length s take_of_turn) e in
        (sym (ap (λ (x : TurnStep). x.outcome) w), sym (ap (λ (x : TurnStep). x.stack) w))

    pub step_takes : bit skips m.rule ≡ false → (r : Taken) (stack' : List ℕ)
        → (r ≡ take_of_turn.outcome) × (stack' ≡ take_of_turn.stack) → (o : Taken) → r ≡ o
        → (step_after_take m.length s o ≡ whole_turn.outcome) × (stack' ≡ whole_turn.stack)
    unfolding turn_by
    step_takes e r stack' h o g =
        let w = by_match ∙ ap (λ (b : Bool). turn_by b stack m.length s take_of_turn) e in (
          ap (step_after_take m.length s) (sym g ∙ h.0) ∙ sym (ap (λ (x : TurnStep). x.outcome) w),
          h.1 ∙ sym (ap (λ (x : TurnStep). x.stack) w),
        )

    -- A turn that ends with an answer.
    pub step_answers : bit skips m.rule ≡ false → (r : Taken) (stack' : List ℕ)
        → (r ≡ take_of_turn.outcome) × (stack' ≡ take_of_turn.stack) → (o : Taken) → r ≡ o
        → (a b : RunAnswer) → a ≡ b → step_after_take m.length s o ≡ Err b
        → (Err a ≡ whole_turn.outcome) × (stack' ≡ whole_turn.stack)
    step_answers e r stack' h o g a b k l =
        let t = step_takes e r stack' h o g in (ap Err k ∙ sym l ∙ t.0, t.1)

-- At the text's end.
module _ (empty : ℕ) (l : List ℕ) (p count : ℕ) where
  pub ends_well : (r : Bool) → r ≡ all_members empty l → r ≡ true → (a : RunAnswer) → a ≡ run_answer 0 p count
      → a ≡ end_answer empty l p count
  unfolding end_answer
  ends_well r e f a g = g ∙ ap (λ (b : Bool). cond b (run_answer 0 p count) (run_answer 16 p count)) (sym f ∙ e)

  pub ends_early : (r : Bool) → r ≡ all_members empty l → r ≡ false → (a : RunAnswer) → a ≡ run_answer 16 p count
      → a ≡ end_answer empty l p count
  unfolding end_answer
  ends_early r e f a g = g ∙ ap (λ (b : Bool). cond b (run_answer 0 p count) (run_answer 16 p count)) (sym f ∙ e)
