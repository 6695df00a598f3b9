use Rattle.std.specs.Prelude.{Option, Ok, Err}
use mathlib.Core.Path.{◌≡◌, sym, ap, subst, ◌∙◌}
use mathlib.Core.List.{List}
use Prim.Native.Nat.{ℕ, ◌+◌, ◌≤◌, ◌<◌}
use native.Mathlib.Omega.{arith}
use lib.ListN.{length, drop}
use Rattle.lexer.specs.Match.{matched}
use Rattle.scanner.specs.Meaning.{match_of}
use Rattle.scanner.specs.declared.Match.{Match}
use Rattle.image.specs.Image.{Image}
use Rattle.machine.specs.Trace.{match_at, Ended, answer_of}
use Rattle.machine_turn.specs.Steps.{answer_held, TurnStep, turn_step, MatchFits}
use Rattle.machine_turn.specs.declared.RunAnswer.{RunAnswer}
use Rattle.machine_turn.specs.declared.State.{State}
use Rattle.machine_turn.specs.laws.Going.{Going}
use Rattle.machine_turn.proofs.laws.Going.{going_fits, going_done, going_next}
use Rattle.machine_turn.proofs.laws.Places.{next_place, done_place}
use Rattle.alive_scanner.specs.Ahead.{Ahead}
use Rattle.machine_loop.specs.declared.Machine.{Machine}
use Rattle.machine_loop.specs.Prepared.{tables_in, WithTables}
use Rattle.machine_loop.specs.Turning.{SeenAt, ChargedAt, Charged}
use Rattle.machine_loop.proofs.TurningLaws.{ahead_next, charged_next, charged_at}
use Rattle.machine_loop.proofs.run_turns.Invariants.{TurnedTo}
use Rattle.machine_loop.proofs.run_turns.Goals as goal
use Rattle.machine_loop.proofs.run_turns.Goals.{In-Ok-after}

-- A turn by the match that was seen.
module _ (i : Image) (m : Machine) (text matches : List ℕ) (start to : ℕ) (stack : List ℕ) (state : State) (turn : ℕ) (whole : Ended)
    (tables : WithTables m i) (turned : TurnedTo i m text matches start to stack state turn whole) (more : state.place < length text)
    (small : length text < 18446744073709551616) (found : Option Match) (seen : SeenAt i text state.place (drop turn matches) (Ok found)) where
  -- The match fits the state.
  fits_here : MatchFits found state
  fits_here = going_fits i m.image.now (tables_in m) tables.decoded text stack state whole turned.going more found seen.0 small

  abbrev step : TurnStep
  step = turn_step m.image.now (drop 384 m.tables.now) m.productions.now m.read.empty m.read.skips stack found state

  -- The state after the turn.
  next_here : (stack' : List ℕ) (next : State) → length stack' ≡ length stack → stack' ≡ step.stack → step.outcome ≡ Ok next
      → TurnedTo i m text matches start to stack' next (turn + 1) whole × (state.place < next.place)
  unfolding match_of
  next_here stack' next kept f e =
      let g = going_next i m.image.now (tables_in m) tables.decoded text stack state whole turned.going more found seen.0 fits_here stack' next kept f e in
      let n = next_place m.image.now (drop 384 m.tables.now) m.productions.now m.read.empty m.read.skips stack state found next e in
      let matched-here : match_at i text state.place ≡ matched n.0.rule n.0.length = sym seen.0 ∙ ap match_of n.1 in (
        record {
          going = g.0;
          left_ahead = subst (λ (p : ℕ). Ahead i.positions i.first text to p (drop (turn + 1) matches)) (sym n.2)
              (ahead_next i text matches state.place n.0.rule n.0.length turn matched-here to turned.left_ahead);
          charged = λ v x. subst (λ (p : ℕ). Charged i text p (drop (turn + 1) matches) v) (sym n.2)
              (charged_next i text matches state.place n.0.rule n.0.length turn matched-here v more seen.1 (turned.charged v x));
        },
        g.1,
      )

  -- The answer that ends the run.
  done_here : (done : RunAnswer) → step.outcome ≡ Err done
      → (answer_held done ≡ answer_of whole) × ((v : ℕ) → Charged i text start matches v → ChargedAt i text done.place v)
  done_here done e =
      let p = done_place m.image.now (drop 384 m.tables.now) m.productions.now m.read.empty m.read.skips stack state found done e in (
        going_done i m.image.now (tables_in m) tables.decoded text stack state whole turned.going more found seen.0 fits_here done e,
        λ v x. subst (λ (q : ℕ). ChargedAt i text q v) (sym p)
            (charged_at i text matches state.place v (drop turn matches) seen.1 (turned.charged v x)),
      )

pub returns-in-Err : goal.returns-in-Err
returns-in-Err c =
    let l = c.loop-state in
    let a = c.args in
    λ i whole to w g h.
    let old = l.invariant.3 i whole to w g h in
    let vain = subst (SeenAt i a.text.now l.state.place (drop l.turn a.matches.now)) c.in-Err.is (c.look-seen.ensures i w to old.left_ahead) in (
      old.going,
      c.loop-state-test.true,
      subst (Ahead i.positions i.first a.text.now to l.state.place) vain.1 old.left_ahead,
      vain.0,
      vain.2,
      λ v x. subst (λ (k : List ℕ). Charged i a.text.now l.state.place k v) vain.1 (old.charged v x),
    )

pub one_turn-after-requires : goal.one_turn-after-requires
one_turn-after-requires c =
    let l = c.loop-state in
    let a = c.args in
    let w = c.requires.2 in
    let old = l.invariant.3 w.0 w.1 w.2 w.3 w.4 w.5 in
    let seen = subst (SeenAt w.0 a.text.now l.state.place (drop l.turn a.matches.now)) c.in-Ok.is (c.look-seen.ensures w.0 w.3 w.2 old.left_ahead) in (
      fits_here w.0 a.machine.now a.text.now a.matches.now a.from.place w.2 l.stack l.state l.turn w.1 w.3 old
          (omega (arith, c.loop-state-test.true, c.requires.0)) (omega arith) c.in-Ok.found seen,
      (_, _, old.going.ready),
    )

pub returns-in-Err-after : goal.returns-in-Err-after
returns-in-Err-after c =
    let l = c.loop-state in
    let a = c.args in
    λ i whole to w g h.
    let old = l.invariant.3 i whole to w g h in
    let seen = subst (SeenAt i a.text.now l.state.place (drop l.turn a.matches.now)) c.in-Ok.is (c.look-seen.ensures i w to old.left_ahead) in
    done_here i a.machine.now a.text.now a.matches.now a.from.place to l.stack l.state l.turn whole w old
    (omega (arith, c.loop-state-test.true, c.requires.0)) (omega arith) c.in-Ok.found seen c.in-Err-after.done
    (sym c.one_turn-after.ensures.0 ∙ c.in-Err-after.is)

-- The state that goes on.
goes_on : (c : In-Ok-after) (i : Image) (whole : Ended) (to : ℕ)
    → let l = c.loop-state in
    let a = c.args in
    let next = c.in-Ok-after.next in
    WithTables a.machine.now i → Going i a.machine.now.image.now (tables_in a.machine.now) a.text.now a.stack.now a.from whole
    → Ahead i.positions i.first a.text.now to a.from.place a.matches.now
    → TurnedTo i a.machine.now a.text.now a.matches.now a.from.place to c.one_turn-after.new.stack next (l.turn + 1) whole
    × (l.state.place < next.place)
goes_on c i whole to w g h =
    let l = c.loop-state in
    let a = c.args in
    let old = l.invariant.3 i whole to w g h in
    let seen = subst (SeenAt i a.text.now l.state.place (drop l.turn a.matches.now)) c.in-Ok.is (c.look-seen.ensures i w to old.left_ahead) in
    next_here i a.machine.now a.text.now a.matches.now a.from.place to l.stack l.state l.turn whole w old
    (omega (arith, c.loop-state-test.true, c.requires.0)) (omega arith) c.in-Ok.found seen c.one_turn-after.new.stack c.in-Ok-after.next
    c.one_turn-after.auto.stack c.one_turn-after.ensures.1 (sym c.one_turn-after.ensures.0 ∙ c.in-Ok-after.is)

-- The place rises.
rises : (c : In-Ok-after) → (c.loop-state.state.place < c.in-Ok-after.next.place) × (c.in-Ok-after.next.place ≤ length c.args.text.now)
rises c = let w = c.requires.2 in let t = goes_on c w.0 w.1 w.2 w.3 w.4 w.5 in (t.1, t.0.going.within)

pub loop-state-smaller : goal.loop-state-smaller
loop-state-smaller c = let r = rises c in omega (arith, r.0, r.1)

pub loop-state-preserved : goal.loop-state-preserved
loop-state-preserved c =
    let l = c.loop-state in
    let r = rises c in (
      c.one_turn-after.auto.stack ∙ l.invariant.0,
      omega (arith, r.0, l.invariant.1),
      λ e. absurd (omega arith),
      λ i whole to w g h. (goes_on c i whole to w g h).0,
    )

pub returns : goal.returns
returns c =
    let l = c.loop-state in
    λ i whole to w g h.
    let old = l.invariant.3 i whole to w g h in
    (old.going, c.loop-state-test.false, (l.turn, l.invariant.2, old.charged))
