-- The image of a typed sheet whose rules match no empty text, numbered as they stand, is faithful to the sheet: it has the four facts from
-- which a run gives the sheet's own answer by number.
use Rattle.std.specs.Prelude.{◌≡◌, refl, true, false, ◌↔◌, ℕ, suc, eqb, length, get_or}
use Rattle.std.proofs.Common.{sym, ◌∙◌, arith}
use Rattle.std.proofs.Math.Path.{ap}
use mathlib.Core.List.{List, [], ◌∷◌, ◌++◌, map, append-nil, append_assoc}
use Rattle.std.proofs.Math.Option.{Option, none, some}
use Rattle.std.proofs.lemmas.List.{length-map}
use Rattle.basics.specs.Lists.{All}
use Rattle.sheet.specs.Expression.{Expression}
use Rattle.sheet.specs.Sheet.{Rule, Sheet}
use Rattle.sheet.specs.WellFormed.{WithinLimits}
use Rattle.types.specs.Denotation.{Denotes}
use Rattle.types.specs.Types.{LanguageType, ◌⊢◌∶◌}
use Rattle.normal_form.specs.Productions.{row_of, Taking, most_growth}
use Rattle.normal_form.specs.NormalForm.{normal_form}
use Rattle.types.specs.NodeLanguages.{language_of}
use Rattle.normal_form.proofs.laws.Unfolding.{concatenation}
use Rattle.normal_form.proofs.laws.Pending.{Ready, StepWords, step-words, end_exact, GrowsBy, ready_one}
use Rattle.normal_form.proofs.laws.NormalFormLaws.{normal_form_fits, start-words}
use Rattle.normal_form.proofs.laws.Tails.{pending_grows}
use Rattle.lexer.specs.Words.{RuleAt, first_rule, later_rule}
use Rattle.lexer.specs.Positions.{empty_match}
use Rattle.lexer.proofs.laws.LongestMatchLaws.{match_right}
use Rattle.image.specs.Fusion.{fused}
use Rattle.basics.specs.Meeting.{number_of}
use Rattle.image.specs.Numbering.{reached, numbered}
use Rattle.basics.specs.laws.MeetingLaws.{Met}
use Rattle.image.proofs.laws.Simulation.{Simulates, image_simulates}
use Rattle.image.proofs.laws.ImageLaws.{normal_form-inside, normal_form-some}
use Rattle.image.specs.Image.{plain_image}
use Rattle.image.proofs.laws.RowRanges.{skips_rule}
use Rattle.image.proofs.laws.FusionLaws.{Returns}
use Rattle.machine.specs.Trace.{taking, all_nullable, start_state, answer_of}
use Rattle.machine.specs.Lent.{long_enough}
use Rattle.machine.specs.Run.{trace_from}
use Rattle.machine.proofs.laws.RunLaws.{start_traces}
use Rattle.machine.specs.OwnAnswer.{ActionOf, OwnAnswerByNumber}
use Rattle.machine.proofs.laws.TakingLaws.{taken, nullable_same, numbers_of, AllKnown}
use Rattle.machine.proofs.laws.RunAnswers.{TakenIs, Faithful, runs_own-answer}

-- The image's flag of a rule says whether it skips.
skip_flag : {rules : List Rule} {k : ℕ} {r : Rule} → RuleAt rules k r → get_or (map skips_rule rules) k false ≡ eqb r.action 0
skip_flag first_rule = refl
skip_flag (later_rule a) = skip_flag a

module _ (s : Sheet) {a : LanguageType} (limits : WithinLimits s) (typed : [] ⊢ s.expression ∶ a) where
  abbrev e : Expression
  e = s.expression

  abbrev number : ℕ → ℕ
  number = number_of (reached (fused s.rules (normal_form e)))

  abbrev Known : ℕ → Type 0
  Known n = Met n (reached (fused s.rules (normal_form e)))

  same : Simulates s.rules (normal_form e) (numbered (fused s.rules (normal_form e))) number Known
  same = image_simulates s.rules (normal_form e) (normal_form-inside e s.tokens limits.closed) (normal_form-some e)

  -- The pending nonterminals stand for the tokens so far: they are the numbers of known nodes, which are ready, and the words of
  -- these nodes are just what may follow the tokens in a denoted sequence.
  pub record StandsFor (pending tokens : List ℕ) : Type 0 where
    nodes : List ℕ
    pending_are : pending ≡ map number nodes
    known : All Known nodes
    ready : Ready (language_of e) nodes
    words : (w : List ℕ) → concatenation (language_of e) nodes w ↔ Denotes e (tokens ++ w)

  -- The start stands for no tokens.
  pub start_stands : StandsFor (0 ∷ []) []
  start_stands = record {
    nodes = 0 ∷ [];
    pending_are = ap (λ n. n ∷ []) (sym same.start_number);
    known = (same.start_known, tt);
    ready = ready_one (language_of e) 0;
    words = start-words e;
  }

  ends : (pending tokens : List ℕ) → StandsFor pending tokens
      → (all_nullable (plain_image s).rows pending ≡ true) ↔ Denotes e tokens
  unfolding plain_image
  ends pending tokens h =
      let n = nullable_same s.rules (normal_form e) (numbered (fused s.rules (normal_form e))) number Known same h.nodes h.known in
      let x = end_exact (language_of e) (row_of (normal_form e)) (normal_form_fits typed) h.nodes in
      let w : concatenation (language_of e) h.nodes [] ↔ Denotes e tokens = rw append-nil at (h.words []) in
      rw h.pending_are (λ y. w.0 (x.0 (n.0 y)), λ y. n.1 (x.1 (w.1 y)))

  -- What the token's step says of the words is what the sheet allows.
  after_step : (pending tokens : List ℕ) (h : StandsFor pending tokens) (t : ℕ) (o : Option Taking) → StepWords (language_of e) t h.nodes o
      → AllKnown Known o → GrowsBy most_growth h.nodes o → TakenIs s StandsFor pending tokens t (numbers_of number o)
  after_step pending tokens h t none f k g = λ l. f l.0 ((h.words (t ∷ l.0)).1 l.1)
  after_step pending tokens h t (some x) f k g = (
    (f.2.0, (h.words (t ∷ f.2.0)).0 f.2.1),
    record {
      nodes = x.pending;
      pending_are = refl;
      known = k.1;
      ready = f.0;
      words = λ w. rw (append_assoc tokens (t ∷ []) w) (λ y. (h.words (t ∷ w)).0 ((f.1 w).1 y), λ y. (f.1 w).0 ((h.words (t ∷ w)).1 y));
    },
    omega (arith, ap length h.pending_are, length-map h.nodes number, length-map x.pending number),
  )

  takes_right : (pending tokens : List ℕ) (k t : ℕ) → StandsFor pending tokens → ActionOf s k (suc t)
      → TakenIs s StandsFor pending tokens t (taking (plain_image s).rows pending k)
  unfolding plain_image
  takes_right pending tokens k t h act =
      let r : Returns s.rules k t = record { rule = act.0; at = act.1; returns = act.2 } in
      let x = taken s.rules (normal_form e) (numbered (fused s.rules (normal_form e))) number Known same t k r h.nodes h.known in
      let step = step-words (language_of e) (row_of (normal_form e)) (normal_form_fits typed) x.token_step h.ready in
      let o : taking (numbered (fused s.rules (normal_form e))) pending k ≡ numbers_of number x.after =
      ap (λ (l : List ℕ). taking (numbered (fused s.rules (normal_form e))) l k) h.pending_are ∙ x.numbered in
      rw o (after_step pending tokens h t x.after step x.known (pending_grows typed limits.nodes_most x.token_step))

  pub image_faithful : empty_match s.rules 0 ≡ none → Faithful s (plain_image s) StandsFor
  unfolding plain_image
  image_faithful no_empty = record {
    matching = match_right s.rules no_empty;
    skipping = λ k r at. skip_flag at;
    taking = takes_right;
    ending = ends;
  }

  -- So there is an own answer by number to every text: what a run of this image answers.
  pub answered_by_number : empty_match s.rules 0 ≡ none → (text : List ℕ)
      → OwnAnswerByNumber s text (answer_of (trace_from (plain_image s) (long_enough text) text (length text) start_state))
  answered_by_number no_empty text =
      runs_own-answer s text (plain_image s) (long_enough text) StandsFor (image_faithful no_empty) (omega arith) start_stands
      (start_traces (plain_image s) (long_enough text) text)
