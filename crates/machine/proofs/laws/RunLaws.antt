-- The laws of a turn and of turns in a row, which the code's proofs live on; and that `trace` gives what the relation says and nothing else.
use Rattle.std.specs.Prelude.{◌≡◌, Bool, cond, List, [], ◌∷◌, ◌++◌, get_or, drop}
use Rattle.std.proofs.Math.Path.{refl}
use Rattle.std.proofs.Common.{ap, subst, ◌∙◌, ⊎_elim, arith, length-drop, length-append}
use Rattle.std.proofs.Math.Bool.{true, false}
use Rattle.std.proofs.Math.Option.{Option, none, some}
use Prim.Native.Nat.{ℕ, zero, suc, ◌+◌, ◌≤◌, ◌<◌}
use Rattle.std.proofs.Math.ListN.{length}
use borrow.Author.Tests.{lt-ltb, le-ltb}
use Rattle.basics.proofs.laws.Order.{lt-or-le}
use Rattle.normal_form.specs.Productions.{Taking}
use Rattle.lexer.specs.Match.{Match, no_match, matched}
use Rattle.lexer.proofs.laws.LongestMatchLaws.{match_within}
use Rattle.image.specs.Image.{Image}
use Rattle.machine.specs.Trace.{match_at, taking, all_nullable, take_of, State, state, start_state, Ended, ended}
use Rattle.machine.specs.Runs.{Matches, Traces, rule_skipped, rule_taken, nothing_matched, rule_untaken, stack_overflowed}
use Rattle.machine.specs.Runs.{nullable_at_end, pending_at_end}
use Rattle.machine.specs.Run.{Turn, goes_on, ends, after_taking, turn, end_number, text_turn, trace_from, trace}

-- ---- one turn, by the way that it goes

module _ (image : Image) (entries : ℕ) (s : State) where
  pub turn_unmatched : turn image entries no_match s ≡ ends 14
  unfolding turn
  turn_unmatched = refl

  module _ (rule n : ℕ) where
    pub turn_skips : get_or image.skips rule false ≡ true
        → turn image entries (matched rule n) s ≡ goes_on (state (s.place + n) s.pending s.takes)
    unfolding turn
    turn_skips e = rw e

    module _ (returns : get_or image.skips rule false ≡ false) where
      pub turn_refuses : taking image.rows s.pending rule ≡ none → turn image entries (matched rule n) s ≡ ends 15
      unfolding turn after_taking
      turn_refuses e = rw (returns, e)

      pub turn_overflows : (t : Taking) → taking image.rows s.pending rule ≡ some t → entries < length t.pending
          → turn image entries (matched rule n) s ≡ ends 17
      unfolding turn after_taking
      turn_overflows t e o = rw (returns, e, lt-ltb entries (length t.pending) o)

      pub turn_takes : (t : Taking) → taking image.rows s.pending rule ≡ some t → length t.pending ≤ entries
          → turn image entries (matched rule n) s
          ≡ goes_on (state (s.place + n) t.pending (s.takes ++ (take_of s.place n rule t.taker ∷ [])))
      unfolding turn after_taking
      turn_takes t e o = rw (returns, e, le-ltb entries (length t.pending) o)

-- ---- turns in a row

module _ (image : Image) (entries : ℕ) (text : List ℕ) where
  pub turn-at_end : (s : State) → length text ≤ s.place → text_turn image entries text s ≡ ends (end_number image s)
  unfolding text_turn
  turn-at_end s h = rw (le-ltb s.place (length text) h)

  pub turn-before_end : (s : State) → s.place < length text
      → text_turn image entries text s ≡ turn image entries (match_at image text s.place) s
  unfolding text_turn
  turn-before_end s h = rw (lt-ltb s.place (length text) h)

  pub trace-goes_on : (turns : ℕ) (s next : State) → text_turn image entries text s ≡ goes_on next
      → trace_from image entries text (suc turns) s ≡ trace_from image entries text turns next
  unfolding trace_from
  trace-goes_on turns s next e = rw (e, trace_from)

  pub trace_stops : (turns : ℕ) (s : State) (number : ℕ) → text_turn image entries text s ≡ ends number
      → trace_from image entries text (suc turns) s ≡ ended number s
  unfolding trace_from
  trace_stops turns s number e = rw (e, trace_from)

  pub trace-at_end : (turns : ℕ) (s : State) → length text ≤ s.place
      → trace_from image entries text turns s ≡ ended (end_number image s) s
  unfolding trace_from
  trace-at_end zero s h = refl
  trace-at_end (suc turns) s h = trace_stops turns s (end_number image s) (turn-at_end s h)

  -- A match moves further, within the text.
  pub further : (p rule n : ℕ) → p < length text → match_at image text p ≡ matched rule n → (0 < n) × (p + n ≤ length text)
  further p rule n l m =
      let w = match_within image.positions image.first (drop p text) rule n m in
      (w.0, omega (arith, w.1, length-drop p text))

  -- A turn that goes on moves further, within the text, and takes one token at most.
  pub record Onward (s next : State) : Type 0 where
    pub further : s.place < next.place
    pub within : next.place ≤ length text
    pub counted : length next.takes ≤ suc (length s.takes)

  -- ---- as the relation has it

  -- A turn as the relation has it.
  abbrev Given : State → Turn → Type 0
  Given s (ends number) = Traces image text entries s (ended number s)
  Given s (goes_on next) = Onward s next × ((e : Ended) → Traces image text entries next e → Traces image text entries s e)

  given_end : (s : State) → s.place ≡ length text → Given s (ends (end_number image s))
  unfolding end_number
  given_end s e = by_test (all_nullable image.rows s.pending) refl
    where
      by_test : (b : Bool) → all_nullable image.rows s.pending ≡ b → Traces image text entries s (ended (cond b 0 16) s)
      by_test true f = nullable_at_end e f
      by_test false f = pending_at_end e f

  given_turn : (s : State) → s.place < length text → (m : Match) → match_at image text s.place ≡ m
      → Given s (turn image entries m s)
  given_turn s l no_match f = rw (turn_unmatched image entries s) (nothing_matched l f)
  given_turn s l (matched rule n) f = by_flag (get_or image.skips rule false) refl
    where
      here : (b : Bool) → get_or image.skips rule false ≡ b → Matches image text s rule n b
      here b k = record { before_end = l; longest = f; skipping = k }

      on : (0 < n) × (s.place + n ≤ length text)
      on = further s.place rule n l f

      onward_take : (t : Taking) → Onward s (state (s.place + n) t.pending (s.takes ++ (take_of s.place n rule t.taker ∷ [])))
      onward_take t = record {
        further = omega (arith, on.0);
        within = on.1;
        counted = omega (arith, length-append s.takes (take_of s.place n rule t.taker ∷ []));
      }

      by_taker : get_or image.skips rule false ≡ false → (o : Option Taking) → taking image.rows s.pending rule ≡ o
          → Given s (turn image entries (matched rule n) s)
      by_taker k none e = rw (turn_refuses image entries s rule n k e) (rule_untaken rule n (here false k) e)
      by_taker k (some t) e =
          ⊎_elim
          (λ o. rw (turn_overflows image entries s rule n k t e o) (stack_overflowed rule n t (here false k) e o))
          (λ o. rw (turn_takes image entries s rule n k t e o) (onward_take t, λ x r. rule_taken rule n t (here false k) e o r))
          (lt-or-le entries (length t.pending))

      by_flag : (b : Bool) → get_or image.skips rule false ≡ b → Given s (turn image entries (matched rule n) s)
      by_flag true k = rw (turn_skips image entries s rule n k) (record { further = omega (arith, on.0); within = on.1; counted = omega arith }, λ x r. rule_skipped rule n (here true k) r)
      by_flag false k = by_taker k (taking image.rows s.pending rule) refl

  given_text : (s : State) → s.place ≤ length text → Given s (text_turn image entries text s)
  given_text s h =
      ⊎_elim
      (λ l. rw (turn-before_end s l) (given_turn s l (match_at image text s.place) refl))
      (λ l. rw (turn-at_end s l) (given_end s (omega arith)))
      (lt-or-le s.place (length text))

  pub turn_onward : (s next : State) → s.place ≤ length text → text_turn image entries text s ≡ goes_on next → Onward s next
  turn_onward s next h e = (subst (Given s) e (given_text s h)).0

  pub from_traces : (turns : ℕ) (s : State) → s.place ≤ length text → length text ≤ s.place + turns
      → Traces image text entries s (trace_from image entries text turns s)
  unfolding trace_from
  from_traces zero s h enough = given_end s (omega arith)
  from_traces (suc turns) s h enough =
      by_turn (from_traces turns) (text_turn image entries text s) (given_text s h)
    where
      by_turn : ((next : State) → next.place ≤ length text → length text ≤ next.place + turns
          → Traces image text entries next (trace_from image entries text turns next))
          → (t : Turn) → Given s t
          → Traces image text entries s (elim t [ goes_on next ↦ trace_from image entries text turns next | ends number ↦ ended number s ])
      by_turn later (ends number) g = g
      by_turn later (goes_on next) g = g.1 _ (later next g.0.within (omega (arith, g.0.further)))

  -- ---- nothing else

  abbrev Only : State → Ended → Type 0
  Only s e = (turns : ℕ) → length text ≤ s.place + turns → trace_from image entries text turns s ≡ e

  module _ (s : State) (l : s.place < length text) (m : Match) (matches : match_at image text s.place ≡ m) where
    by_match : (t : Turn) → turn image entries m s ≡ t → text_turn image entries text s ≡ t
    by_match t e = turn-before_end s l ∙ ap (λ (x : Match). turn image entries x s) matches ∙ e

    only_stops : (number : ℕ) → turn image entries m s ≡ ends number → Only s (ended number s)
    only_stops number e zero h = absurd (omega arith)
    only_stops number e (suc turns) h = trace_stops turns s number (by_match (ends number) e)

    only_goes_on : (next : State) (e : Ended) → s.place < next.place → turn image entries m s ≡ goes_on next → Only next e → Only s e
    only_goes_on next e o f later zero h = absurd (omega arith)
    only_goes_on next e o f later (suc turns) h = trace-goes_on turns s next (by_match (goes_on next) f) ∙ later turns (omega arith)

  pub traces_only : {s : State} {e : Ended} → Traces image text entries s e → Only s e
  unfolding end_number
  traces_only {s} (rule_skipped rule n w r) =
      only_goes_on s w.before_end (matched rule n) w.longest _ _
      (let o = further s.place rule n w.before_end w.longest in omega (arith, o.0))
      (turn_skips image entries s rule n w.skipping) (traces_only r)
  traces_only {s} (rule_taken rule n t w e o r) =
      only_goes_on s w.before_end (matched rule n) w.longest _ _
      (let o = further s.place rule n w.before_end w.longest in omega (arith, o.0))
      (turn_takes image entries s rule n w.skipping t e o) (traces_only r)
  traces_only {s} (nothing_matched l m) = only_stops s l no_match m 14 (turn_unmatched image entries s)
  traces_only {s} (rule_untaken rule n w e) =
      only_stops s w.before_end (matched rule n) w.longest 15 (turn_refuses image entries s rule n w.skipping e)
  traces_only {s} (stack_overflowed rule n t w e o) =
      only_stops s w.before_end (matched rule n) w.longest 17 (turn_overflows image entries s rule n w.skipping t e o)
  traces_only {s} (nullable_at_end e n) = λ turns h. trace-at_end turns s (omega arith) ∙ rw n
  traces_only {s} (pending_at_end e n) = λ turns h. trace-at_end turns s (omega arith) ∙ rw n

-- ---- from the start

module _ (image : Image) (entries : ℕ) (text : List ℕ) where
  pub trace_no_entry : entries < 1 → trace image entries text ≡ ended 17 start_state
  unfolding trace
  trace_no_entry h = rw (lt-ltb entries 1 h)

  pub trace-some_entry : 1 ≤ entries → trace image entries text ≡ trace_from image entries text (length text) start_state
  unfolding trace
  trace-some_entry h = rw (le-ltb entries 1 h)

  pub start_traces : Traces image text entries start_state (trace_from image entries text (length text) start_state)
  start_traces = from_traces image entries text (length text) start_state (omega arith) (omega arith)
