-- The turns of a run in code: the state that the loop of turns keeps, and what a turn and the end of the text make of it. The loop itself is
-- not here: whoever goes on by turns, all of them or one, lives on these laws.
use Rattle.std.specs.Prelude.{◌≡◌, refl, List, [], ℕ, suc, ◌-◌, ◌≤◌, ◌<◌, length, drop, Option, Some, None, Ok, Err}
use Rattle.std.proofs.Math.Path.{sym}
use Rattle.std.proofs.Common.{ap, ◌∙◌, arith}
use Rattle.std.proofs.Math.ListN.{length-drop}
use Rattle.lexer.proofs.laws.LongestMatchLaws.{match_within, match_rule-below}
use Rattle.scanner.specs.Meaning.{match_of}
use Rattle.scanner.specs.declared.Match.{Match}
use Rattle.image.specs.Image.{Image}
use Rattle.image_reader.specs.Decoded.{ImageTables, Decoded}
use Rattle.machine.specs.Trace as machine
use Rattle.machine.specs.Trace.{Take, match_at, start_state, Ended, ended, answer_of}
use Rattle.machine.specs.Run as run
use Rattle.machine.specs.Run.{text_turn, trace_from}
use Rattle.machine.proofs.laws.RunLaws.{turn-before_end, trace-goes_on, trace_stops, trace-at_end, turn_onward}
use Rattle.machine_turn.specs.Stack.{stacked, pending}
use Rattle.machine_turn.specs.Steps.{answer_held, state_at, state_held, end_answer, turn_step, MatchFits}
use Rattle.machine_turn.proofs.laws.TurnLaws.{turn_done, turn-next, end_is}
use Rattle.machine_turn.specs.declared.RunAnswer.{RunAnswer}
use Rattle.machine_turn.specs.declared.State.{State}
use Rattle.machine_turn.specs.laws.Going.{Going}

-- At the start: 0 alone is pending.
going_start : (i : Image) (bytes : List ℕ) (t : ImageTables) → Decoded bytes t i → (text stack : List ℕ) → 1 ≤ length stack
    → Going i bytes t text stack (state_at 0 1 0 0) (trace_from i (length stack) text (length text) start_state)
unfolding pending stacked
going_start i bytes t decoded text stack room =
    record {
      takes = [];
      kept = refl;
      turns = length text;
      enough = omega arith;
      within = omega arith;
      counted = omega arith;
      same = refl;
      ready = record {
        held = decoded.rows;
        most = decoded.most_nonterminals;
        inside = room;
        below = (omega (arith, decoded.some_nonterminals), tt);
      };
    }

pub going_first : (i : Image) (bytes : List ℕ) (t : ImageTables) → Decoded bytes t i → (text stack : List ℕ) {s : State}
    → s ≡ state_at 0 1 0 0 → 1 ≤ length stack
    → Going i bytes t text stack s (trace_from i (length stack) text (length text) start_state)
going_first i bytes t decoded text stack e room = rw e (going_start i bytes t decoded text stack room)

module _ (i : Image) (bytes : List ℕ) (t : ImageTables) (decoded : Decoded bytes t i) (text stack : List ℕ) (s : State) (whole : Ended)
    (going : Going i bytes t text stack s whole) where
  abbrev now_state : machine.State
  now_state = state_held going.takes stack s

  -- At the end.
  pub going_ends : length text ≤ s.place
      → answer_held (end_answer t.empty (pending stack s.depth s.first) s.place s.count) ≡ answer_of whole
  going_ends h =
      end_is i bytes t decoded stack s going.takes going.kept going.ready
      ∙ ap answer_of (sym (trace-at_end i (length stack) text going.turns now_state h) ∙ going.same)

  module _ (more : s.place < length text) (f : Option Match) where
    -- The match is not empty, lies within the text, and its rule is one of the image's.
    pub going_fits : match_of f ≡ match_at i text s.place → length text < 18446744073709551616 → MatchFits f s
    unfolding match_of
    going_fits e small = by_match f e
      where
        by_match : (g : Option Match) → match_of g ≡ match_at i text s.place → MatchFits g s
        by_match None e = tt
        by_match (Some m) e =
            let w = match_within i.positions i.first (drop s.place text) m.rule m.length (sym e) in
            let r = match_rule-below i.positions t.rules decoded.positions_below i.first (drop s.place text) m.rule m.length (sym e) in
            let l = length-drop s.place text in
            (omega (arith, r, decoded.most_rules), omega (arith, w.1, l, more, small), omega (arith, w.0, going.counted))

    module _ (e : match_of f ≡ match_at i text s.place) (fits : MatchFits f s) where
      -- The machine's turn in the text, and a turn more.
      turned : (x : run.Turn) → run.turn i (length stack) (match_of f) now_state ≡ x → text_turn i (length stack) text now_state ≡ x
      turned x g = turn-before_end i (length stack) text now_state more ∙ sym (ap (λ m. run.turn i (length stack) m now_state) e) ∙ g

      present : trace_from i (length stack) text (suc (going.turns - 1)) now_state ≡ whole
      present =
          let k : suc (going.turns - 1) ≡ going.turns = omega (arith, going.enough) in
          ap (λ (k : ℕ). trace_from i (length stack) text k now_state) k ∙ going.same

      pub going_done : (a : RunAnswer) → (turn_step bytes (drop 384 t.tables) t.productions t.empty t.skips stack f s).outcome ≡ Err a
          → answer_held a ≡ answer_of whole
      unfolding answer_held answer_of
      going_done a g =
          let x = turn_done i bytes t decoded stack s going.takes going.kept going.ready f fits a g in
          let w : ended a.number now_state ≡ whole =
          sym (trace_stops i (length stack) text (going.turns - 1) now_state a.number (turned _ x.0)) ∙ present in
          rw (x.1, x.2, ← going.kept) (ap answer_of w)

      pub going_next : (stack' : List ℕ) (s' : State) → length stack' ≡ length stack
          → stack' ≡ (turn_step bytes (drop 384 t.tables) t.productions t.empty t.skips stack f s).stack
          → (turn_step bytes (drop 384 t.tables) t.productions t.empty t.skips stack f s).outcome ≡ Ok s'
          → Going i bytes t text stack' s' whole × (s.place < s'.place)
      going_next stack' s' kept g h =
          let x = turn-next i bytes t decoded stack s going.takes going.kept going.ready f fits stack' s' g h in
          let onto = turned _ x.next_is in
          let o = turn_onward i (length stack) text now_state (state_held x.next_takes stack' s') going.within onto in (
            record {
              takes = x.next_takes;
              kept = x.next_counted;
              turns = going.turns - 1;
              enough = omega (arith, o.further, going.enough);
              within = o.within;
              counted = omega (arith, o.further, o.counted, going.counted, going.kept, x.next_counted);
              same = ap (λ (k : ℕ). trace_from i k text (going.turns - 1) (state_held x.next_takes stack' s')) kept
                  ∙ sym (trace-goes_on i (length stack) text (going.turns - 1) now_state (state_held x.next_takes stack' s') onto) ∙ present;
              ready = x.next_ready;
            },
            o.further,
          )
