-- A turn by the tables and the stack is a turn of the machine over the image that the tables hold, and so is the end of the text.
use Rattle.std.specs.Prelude.{◌≡◌, Bool, cond, ℕ, ◌<◌, ◌≤◌, get_or, drop, Option, Some, None, Result, Ok, Err}
use Rattle.std.proofs.Math.Path.{refl, ap₂}
use Rattle.std.proofs.Common.{sym, subst, ◌∙◌, arith}
use Rattle.std.proofs.Math.Bool.{true, false, ◌&&◌}
use mathlib.Core.List.{List, [], ◌∷◌, ◌++◌}
use Rattle.std.proofs.Math.ListN.{length, length-append}
use Rattle.basics.specs.Bits.{bit}
use Rattle.scanner.specs.Meaning.{match_of}
use Rattle.scanner.specs.declared.Match.{Match}
use Rattle.image.specs.Image.{Image}
use Rattle.image_reader.specs.Decoded.{ImageTables, Decoded}
use Rattle.normal_form.specs.RowNames.{taken_by}
use Rattle.machine.specs.Trace.{Take, take_of, taking, all_nullable}
use Rattle.machine.specs.Trace as machine
use Rattle.machine.specs.Run as run
use Rattle.machine.specs.Run.{end_number}
use Rattle.machine.proofs.laws.RunLaws.{turn_unmatched, turn_skips, turn_refuses, turn_overflows, turn_takes}
use Rattle.machine_turn.specs.Stack.{pending, Ready}
use Rattle.machine_turn.specs.Steps.{answer_held, run_answer, state_held, all_members, end_answer}
use Rattle.machine_turn.specs.Steps.{take_step, step_after_take, turn_by, TurnStep, turn_step, MatchFits}
use Rattle.machine_turn.proofs.laws.StackLaws.{length-pending}
use Rattle.machine_turn.proofs.laws.TakingLaws.{TakeLeads, take_leads}
use Rattle.machine_turn.specs.declared.RunAnswer.{RunAnswer}
use Rattle.machine_turn.specs.declared.Taken.{Taken}
use Rattle.machine_turn.specs.declared.Taken.TheVariants.{Pending, NoTaker, TooDeep}
use Rattle.machine_turn.specs.declared.State.{State}

module _ (i : Image) (bytes : List ℕ) (t : ImageTables) (decoded : Decoded bytes t i) (stack : List ℕ) (s : State) (takes : List Take)
    (counted : length takes ≡ s.count)
    (ready : Ready bytes (drop 384 t.tables) t.productions t.empty i.rows t.nonterminals stack s.depth s.first) where
  abbrev ReadyIn : List ℕ → State → Type 0
  ReadyIn stack' s' =
      Ready bytes (drop 384 t.tables) t.productions t.empty i.rows t.nonterminals stack' s'.depth s'.first

  abbrev here : machine.State
  here = state_held takes stack s

  abbrev machine_turn : Option Match → run.Turn
  machine_turn f = run.turn i (length stack) (match_of f) here

  -- The machine goes on to the state that is held then, with the takes that are counted, and the stack is ready for the next turn.
  pub record GoesOn (x : run.Turn) (stack' : List ℕ) (s' : State) : Type 0 where
    pub next_takes : List Take
    pub next_is : x ≡ run.goes_on (state_held next_takes stack' s')
    pub next_counted : length next_takes ≡ s'.count
    pub next_ready : ReadyIn stack' s'

  -- What a turn leaves is what the machine's turn leads to.
  abbrev TurnIs : run.Turn → List ℕ → Result State RunAnswer → Type 0
  TurnIs x stack' (Ok s') = GoesOn x stack' s'
  TurnIs x stack' (Err a) = (x ≡ run.ends a.number) × (a.place ≡ s.place) × (a.count ≡ s.count)

  module _ (m : Match) (small : m.rule < 32) where
    by_take : (stack' : List ℕ) (o : Taken) → get_or i.skips m.rule false ≡ false
        → TakeLeads bytes (drop 384 t.tables) t.productions t.empty i.rows t.nonterminals stack
        (taking i.rows (pending stack s.depth s.first) m.rule) stack' o
        → TurnIs (machine_turn (Some m)) stack' (step_after_take m.length s o)
    unfolding step_after_take match_of
    by_take stack' NoTaker f x = (turn_refuses i (length stack) here m.rule m.length f x, refl, refl)
    by_take stack' TooDeep f x = (turn_overflows i (length stack) here m.rule m.length f x.0 x.1 x.2, refl, refl)
    by_take stack' (Pending depth first) f x =
        let next = pending stack' depth first in
        let fits : length next ≤ length stack = omega (arith, length-pending stack' depth first, x.2.inside, x.3) in
        let one : List Take = take_of s.place m.length m.rule x.0 ∷ [] in record {
          next_takes = takes ++ one;
          next_is = turn_takes i (length stack) here m.rule m.length f (taken_by x.0 next) x.1 fits;
          next_counted = omega (arith, length-append takes one, counted);
          next_ready = x.2;
        }

    by_flag : (b : Bool) → bit t.skips m.rule ≡ b
        → let x = turn_by b stack m.length s (take_step bytes (drop 384 t.tables) t.productions t.empty stack s.depth s.first m.rule) in
        TurnIs (machine_turn (Some m)) x.stack x.outcome
    unfolding turn_by match_of
    by_flag true e = record {
      next_takes = takes;
      next_is = turn_skips i (length stack) here m.rule m.length (sym (decoded.skips m.rule) ∙ e);
      next_counted = counted;
      next_ready = ready;
    }
    by_flag false e =
        by_take _ _ (sym (decoded.skips m.rule) ∙ e)
        (take_leads bytes (drop 384 t.tables) t.productions t.empty i.rows t.nonterminals stack s.depth s.first m.rule small ready)

  abbrev step : Option Match → TurnStep
  step f = turn_step bytes (drop 384 t.tables) t.productions t.empty t.skips stack f s

  turn_is : (f : Option Match) → MatchFits f s → TurnIs (machine_turn f) (step f).stack (step f).outcome
  unfolding turn_step match_of
  turn_is None h = (turn_unmatched i (length stack) here, refl, refl)
  turn_is (Some m) h = by_flag m h.0 (bit t.skips m.rule) refl

  -- A turn that ends with an answer, and one that goes on.
  pub turn_done : (f : Option Match) → MatchFits f s → (a : RunAnswer) → (step f).outcome ≡ Err a
      → (machine_turn f ≡ run.ends a.number) × (a.place ≡ s.place) × (a.count ≡ s.count)
  turn_done f h a e = subst (TurnIs (machine_turn f) (step f).stack) e (turn_is f h)

  pub turn-next : (f : Option Match) → MatchFits f s → (stack' : List ℕ) (s' : State) → stack' ≡ (step f).stack → (step f).outcome ≡ Ok s'
      → GoesOn (machine_turn f) stack' s'
  turn-next f h stack' s' g e =
      subst (λ (l : List ℕ). GoesOn (machine_turn f) l s') (sym g) (subst (TurnIs (machine_turn f) (step f).stack) e (turn_is f h))

  -- At the text's end.
  members_are : (l : List ℕ) → all_members t.empty l ≡ all_nullable i.rows l
  unfolding all_members all_nullable
  members_are [] = refl
  members_are (n ∷ l) = ap₂ ◌&&◌ (decoded.rows.empty n) (members_are l)

  pub end_is : answer_held (end_answer t.empty (pending stack s.depth s.first) s.place s.count)
      ≡ machine.answer_of (machine.ended (end_number i here) here)
  unfolding end_answer end_number answer_held machine.answer_of
  end_is = by_test (all_members t.empty (pending stack s.depth s.first)) (members_are (pending stack s.depth s.first))
    where
      by_test : (b : Bool) → b ≡ all_nullable i.rows (pending stack s.depth s.first)
          → answer_held (cond b (run_answer 0 s.place s.count) (run_answer 16 s.place s.count))
          ≡ machine.answer_of (machine.ended (end_number i here) here)
      by_test true e = rw (← e, counted)
      by_test false e = rw (← e, counted)
