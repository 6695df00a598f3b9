-- A run gives a sheet's own answer by number, by one induction over the run, from four facts about the image: it finds the longest
-- match, it knows which rules skip, taking a rule agrees with what the expression still allows, and so does ending.
-- That the image of a sheet whose rules stand in its order has these facts is shown elsewhere.
use Rattle.std.specs.Prelude.{◌≡◌, refl, true, false, List, [], ◌∷◌, ◌++◌, ◌↔◌, ℕ, zero, suc, ◌+◌, ◌*◌, ◌≤◌, ◌<◌, length, drop, get_or, eqb}
use Rattle.std.proofs.Common.{sym, subst, ◌∙◌, arith, length-append, length-drop, eq-eqb, ne_eqb}
use Rattle.std.proofs.Math.Bool.{true≢false}
use Rattle.std.proofs.Math.Option.{Option, none, some}
use Rattle.sheet.specs.Sheet.{Rule, Sheet}
use Rattle.types.specs.Denotation.{Denotes}
use Rattle.normal_form.specs.Productions.{Taking, most_growth}
use Rattle.lexer.specs.Words.{RuleAt}
use Rattle.lexer.specs.RuleOrder.{by_number}
use Rattle.lexer.specs.LongestMatch.{LongestMatch, NoMatch}
use Rattle.lexer.specs.Match.{no_match, matched}
use Rattle.lexer.specs.Walk.{longest_match}
use Rattle.lexer.proofs.laws.LongestMatchLaws.{Right}
use Rattle.image.specs.Image.{Image}
use Rattle.machine.specs.Trace.{match_at, taking, all_nullable, take_of, State, start_state, Ended, answer_of}
use Rattle.machine.specs.Lent.{long_enough}
use Rattle.machine.specs.Runs.{Matches, Traces, rule_skipped, rule_taken, nothing_matched, rule_untaken, stack_overflowed}
use Rattle.machine.specs.Runs.{nullable_at_end, pending_at_end}
use Rattle.machine.specs.OwnAnswer.{Allowed, ActionOf, AnswersFrom, accepts, ends_early, no_rule, skips, takes, refuses, OwnAnswerByNumber}

-- What taking a token's rule answers: refused, and no denoted sequence goes on with the token; or taken, some does, and the
-- pending ones that are left stand for the tokens with it. `StandsFor pending tokens` is what they stand for.
abbrev pub TakenIs : Sheet → (List ℕ → List ℕ → Type 0) → List ℕ → List ℕ → ℕ → Option Taking → Type 0
TakenIs s StandsFor pending tokens t none = Allowed s tokens t → ⊥
TakenIs s StandsFor pending tokens t (some x) =
    Allowed s tokens t × StandsFor x.pending (tokens ++ (t ∷ [])) × (length x.pending ≤ length pending + most_growth)

-- The four facts about an image of a sheet.
pub record Faithful (s : Sheet) (image : Image) (StandsFor : List ℕ → List ℕ → Type 0) : Type 0 where
  pub matching : (text : List ℕ) → Right s.rules text (longest_match image.positions image.first text)
  pub skipping : (k : ℕ) (r : Rule) → RuleAt s.rules k r → get_or image.skips k false ≡ eqb r.action 0
  pub taking : (pending tokens : List ℕ) (k t : ℕ) → StandsFor pending tokens → ActionOf s k (suc t)
      → TakenIs s StandsFor pending tokens t (taking image.rows pending k)
  pub ending : (pending tokens : List ℕ) → StandsFor pending tokens → (all_nullable image.rows pending ≡ true) ↔ Denotes s.expression tokens

module _ (s : Sheet) (text : List ℕ) (image : Image) (entries : ℕ) (StandsFor : List ℕ → List ℕ → Type 0)
    (faithful : Faithful s image StandsFor) (room : long_enough text ≤ entries) where
  -- In a state whose pending nonterminals stand for the tokens so far.
  record Here (x : State) (tokens : List ℕ) : Type 0 where
    inside : x.place ≤ length text
    counted : length x.takes ≡ length tokens
    stands : StandsFor x.pending tokens
    few : length x.pending ≤ 1 + most_growth * length x.takes
    earlier : length x.takes ≤ x.place

  -- A match that the image finds is the sheet's, with the action of its rule.
  record MatchFound (p rule n : ℕ) : Type 0 where
    longest : LongestMatch by_number s.rules (drop p text) rule n
    some_bytes : 0 < n
    further : p + n ≤ length text
    action : ℕ
    acts : ActionOf s rule action

  found : (p rule n : ℕ) → p < length text → match_at image text p ≡ matched rule n → MatchFound p rule n
  found p rule n l e =
      let m = subst (Right s.rules (drop p text)) e (faithful.matching (drop p text)) in
      let w = m.0.matches in
      record {
        longest = m.0;
        some_bytes = m.1;
        further = (let i = m.0.within in omega (arith, length-drop p text));
        action = w.0.action;
        acts = (w.0, w.1, refl);
      }

  not_found : (p : ℕ) → match_at image text p ≡ no_match → NoMatch s.rules (drop p text)
  not_found p e = subst (Right s.rules (drop p text)) e (faithful.matching (drop p text))

  -- The action of a rule by its flag.
  skipping : (rule action : ℕ) → ActionOf s rule action → get_or image.skips rule false ≡ true → ActionOf s rule 0
  skipping rule zero a f = a
  skipping rule (suc t) a f =
      let e = faithful.skipping rule a.0 a.1 ∙ ne_eqb a.0.action 0 (λ z. let k = a.2 in omega arith) in
      absurd (true≢false (sym f ∙ e))

  returning : (rule action : ℕ) → ActionOf s rule action → get_or image.skips rule false ≡ false → (t : ℕ) × ActionOf s rule (suc t)
  returning rule zero a f =
      let e = faithful.skipping rule a.0 a.1 ∙ eq-eqb a.0.action 0 a.2 in
      absurd (true≢false (sym e ∙ f))
  returning rule (suc t) a f = (t, a)

  -- What is taken leaves a stack that is long enough.
  few_next : (p count : ℕ) (pending next : List ℕ) → p < length text → count ≤ p → length pending ≤ 1 + most_growth * count
      → length next ≤ length pending + most_growth → (length next ≤ 1 + most_growth * suc count) × (length next ≤ entries)
  few_next p count pending next l c f g = (omega arith, omega (arith, room))

  -- What the sheet says of the token of a rule that a run takes or refuses.
  module _ (x : State) (tokens : List ℕ) (h : Here x tokens) (rule n : ℕ) (w : Matches image text x rule n false) where
    match_here : MatchFound x.place rule n
    match_here = found x.place rule n w.before_end w.longest

    token_here : (t : ℕ) × ActionOf s rule (suc t)
    token_here = returning rule match_here.action match_here.acts w.skipping

    taken_here : (o : Option Taking) → taking image.rows x.pending rule ≡ o → TakenIs s StandsFor x.pending tokens token_here.0 o
    taken_here o e =
        subst (TakenIs s StandsFor x.pending tokens token_here.0) e
        (faithful.taking x.pending tokens rule token_here.0 h.stands token_here.1)

    fits_here : (t : Taking) → taking image.rows x.pending rule ≡ some t
        → (length t.pending ≤ 1 + most_growth * suc (length x.takes)) × (length t.pending ≤ entries)
    fits_here t e =
        few_next x.place (length x.takes) x.pending t.pending w.before_end h.earlier h.few (taken_here (some t) e).2

    -- The state after the take.
    next_here : (t : Taking) (e : taking image.rows x.pending rule ≡ some t)
        → Here (record {
          place = x.place + n;
          pending = t.pending;
          takes = x.takes ++ (take_of x.place n rule t.taker ∷ []);
        })
        (tokens ++ (token_here.0 ∷ []))
    next_here t e =
        let one = length-append x.takes (take_of x.place n rule t.taker ∷ []) in
        let few = (fits_here t e).0 in record {
          inside = match_here.further;
          counted = omega (arith, h.counted, length-append tokens (token_here.0 ∷ []), one);
          stands = (taken_here (some t) e).1;
          few = omega (arith, few, one);
          earlier = omega (arith, h.earlier, match_here.some_bytes, one);
        }

  runs_answer : {x : State} {e : Ended} → Traces image text entries x e → (tokens : List ℕ) → Here x tokens
      → AnswersFrom by_number s text x.place tokens (answer_of e)
  unfolding answer_of
  runs_answer {x} (nullable_at_end e n) tokens h = rw h.counted (accepts e ((faithful.ending x.pending tokens h.stands).0 n))
  runs_answer {x} (pending_at_end e n) tokens h =
      rw h.counted (ends_early e (λ d. true≢false (sym ((faithful.ending x.pending tokens h.stands).1 d) ∙ n)))
  runs_answer {x} (nothing_matched l m) tokens h = rw h.counted (no_rule l (not_found x.place m))
  runs_answer {x} (rule_skipped rule n w r) tokens h =
      let f = found x.place rule n w.before_end w.longest in
      skips rule n w.before_end f.longest (skipping rule f.action f.acts w.skipping)
      (runs_answer r tokens (record {
        inside = f.further;
        counted = h.counted;
        stands = h.stands;
        few = h.few;
        earlier = (let c = h.earlier in omega arith);
      }))
  runs_answer {x} (rule_untaken rule n w t) tokens h =
      let token = token_here x tokens h rule n w in
      rw h.counted
      (refuses rule n token.0 w.before_end (match_here x tokens h rule n w).longest token.1 (taken_here x tokens h rule n w none t))
  runs_answer {x} (stack_overflowed rule n t w e o) tokens h = absurd (omega (arith, o, (fits_here x tokens h rule n w t e).1))
  runs_answer {x} (rule_taken rule n t w e o r) tokens h =
      let token = token_here x tokens h rule n w in
      takes rule n token.0 w.before_end (match_here x tokens h rule n w).longest token.1 (taken_here x tokens h rule n w (some t) e).0
      (runs_answer r (tokens ++ (token.0 ∷ [])) (next_here x tokens h rule n w t e))

  -- From the start: nonterminal 0 alone stands for no tokens yet.
  pub runs_own-answer : StandsFor (0 ∷ []) [] → {e : Ended} → Traces image text entries start_state e → OwnAnswerByNumber s text (answer_of e)
  runs_own-answer start r =
      runs_answer r [] (record { inside = omega arith; counted = refl; stands = start; few = omega arith; earlier = omega arith })
