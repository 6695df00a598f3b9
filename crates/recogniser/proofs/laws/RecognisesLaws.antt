-- The recogniser's answer and its tokens are the ones that the request's terms fix: `recognise` gives them, whatever is handed over, and
-- there are no others. The tokens fit in the list; and where the text is read to its end, the descent decides.
use Rattle.std.specs.Prelude.{◌≡◌, List, [], ◌∷◌, ◌↔◌, ℕ, ◌-◌, ◌≤◌, ◌<◌, length}
use Rattle.std.proofs.Math.Path.{refl, ap, subst}
use Rattle.std.proofs.Common.{sym, ◌∙◌, inl, inr, arith}
use Rattle.std.proofs.Math.Logic.{⊎_elim}
use Rattle.std.proofs.Math.ListN.{length-map}
use borrow.Author.Tests.{lt-ltb, le-ltb}
use Rattle.basics.proofs.laws.Order.{lt-or-le}
use Rattle.sheet.specs.Sheet.{Sheet}
use Rattle.sheet.specs.Spelling.{Bytes}
use Rattle.sheet.proofs.laws.ReadingLaws.{spelled_limits}
use Rattle.lexer.specs.RuleOrder.{by_kind}
use Rattle.image.specs.Answer.{Answer, answer}
use Rattle.image.specs.Check.{work_bytes, Verdict, failed, passed, check, check_answer}
use Rattle.image.specs.Checks.{Passable, Checks}
use Rattle.image.proofs.laws.CheckQuestions.{check_answers, checks_only, passable_passes, passed_passable, failed_numbered}
use Rattle.machine.specs.OwnAnswer.{OwnAnswer}
use Rattle.machine.specs.Lexes.{Lexeme, tokens_of, Lexes}
use Rattle.machine.proofs.laws.OwnAnswerLaws.{own-answer_one}
use Rattle.types.proofs.laws.LeastTypeLaws.{least_solves}
use Rattle.recogniser.specs.Recognises.{most_recognised_bytes, NotTurnedAway, Recognises, not_passed, long_text, short_list, no_rule, read_to_end}
use Rattle.recogniser.specs.Descends.{Descent, left, stuck, DescendsFromStart, rest_of, number_for, place_for}
use Rattle.recogniser.specs.Descending.{descend_whole}
use Rattle.recogniser.specs.Listing.{listed}
use Rattle.recogniser.specs.Recognise.{Ending, ending, descent_answer, after_listing, after_checking, recognise}
use Rattle.recogniser.specs.ReadingStops.{starts_of, Unmatched, ReadingStops}
use Rattle.recogniser.proofs.laws.ListingLaws.{list_tokens_reads, list_tokens_is}
use Rattle.recogniser.proofs.laws.DescendingLaws.{descend_whole_descends}
use Rattle.recogniser.proofs.laws.DescentAnswers.{descent_own-answer}
use Rattle.recogniser.proofs.laws.OneDescent.{start_one}

-- Of a sheet that passes, the function descends over any tokens, and there is no other descent.
descends : {sheet : List ℕ} {s : Sheet} → Passable sheet s → (tokens : List ℕ)
    → DescendsFromStart s.expression tokens (descend_whole s.expression tokens)
descends {sheet} {s} p tokens =
    let limits = spelled_limits sheet s p.well_formed in
    descend_whole_descends p.has_type.1 (least_solves s.tokens limits.tokens_most s.expression limits.closed)
    limits.nodes_most tokens

pub one_descent : {sheet : List ℕ} {s : Sheet} → Passable sheet s → (tokens : List ℕ)
    → (o : Descent) × DescendsFromStart s.expression tokens o × ((r : Descent) → DescendsFromStart s.expression tokens r → r ≡ o)
one_descent {sheet} {s} p tokens =
    (descend_whole s.expression tokens, descends p tokens, λ r y. start_one p.has_type.1 y (descends p tokens))

module _ (sheet text : List ℕ) (work room : ℕ) where
  abbrev gives : Ending
  gives = recognise sheet text work room

  -- ---- what the function gives, by the way in which recognising begins

  passing : (s : Sheet) → work_bytes ≤ work → Passable sheet s → gives ≡ after_checking text room (passed s)
  unfolding recognise
  passing s w p = ap (after_checking text room) (passable_passes sheet work w s p)

  gives_12 : (s : Sheet) → work_bytes ≤ work → Passable sheet s → most_recognised_bytes < length text → gives ≡ ending (answer 12 0 0) []
  unfolding after_checking
  gives_12 s w p l = passing s w p ∙ rw (lt-ltb most_recognised_bytes (length text) l)

  gives_20 : (s : Sheet) → work_bytes ≤ work → Passable sheet s → length text ≤ most_recognised_bytes → room < length text
      → gives ≡ ending (answer 20 0 0) []
  unfolding after_checking
  gives_20 s w p l r = passing s w p ∙ rw (le-ltb most_recognised_bytes (length text) l, lt-ltb room (length text) r)

  module _ (s : Sheet) (b : NotTurnedAway sheet text work room s) where
    -- Where reading stops, the tokens are listed.
    listing : {p : ℕ} {lexemes : List Lexeme} → Lexes by_kind s text p lexemes → ReadingStops s text p
        → gives ≡ after_listing s (length text) (listed (tokens_of lexemes) (starts_of lexemes) p)
    unfolding after_checking
    listing x e =
        passing s b.enough_work b.passable
        ∙ rw (le-ltb most_recognised_bytes (length text) b.within, le-ltb room (length text) b.list_holds)
        (ap (after_listing s (length text)) (list_tokens_is s text b.passable.no_empty_text x e))

    gives_14 : {p : ℕ} {lexemes : List Lexeme} → Lexes by_kind s text p lexemes → Unmatched s text p
        → gives ≡ ending (answer 14 p (length lexemes)) (tokens_of lexemes)
    unfolding after_listing
    gives_14 {p} {lexemes} x h = listing x (inr h) ∙ rw (lt-ltb p (length text) h.0, length-map lexemes (λ l. l.token))

    -- The descent decides.
    by_descent : {lexemes : List Lexeme} → Lexes by_kind s text (length text) lexemes
        → (o : Descent) → DescendsFromStart s.expression (tokens_of lexemes) o
        → gives ≡ ending (answer (number_for o) (place_for (starts_of lexemes) o (length text)) (length lexemes)) (tokens_of lexemes)
    unfolding after_listing descent_answer
    by_descent {lexemes} x o d =
        let same = start_one b.passable.has_type.1 (descends b.passable (tokens_of lexemes)) d in
        listing x (inl refl) ∙ rw (le-ltb (length text) (length text) (omega arith), same, length-map lexemes (λ l. l.start))

    gives_own : {lexemes : List Lexeme} → Lexes by_kind s text (length text) lexemes → (a : Answer) → OwnAnswer s text a
        → gives ≡ ending (answer a.number a.place (length lexemes)) (tokens_of lexemes)
    gives_own {lexemes} x a own =
        let d = descends b.passable (tokens_of lexemes) in
        let same = own-answer_one s text (descent_own-answer s text b.passable.has_type.1 x d) own in
        by_descent x _ d ∙ ap (λ (c : Answer). ending (answer c.number c.place (length lexemes)) (tokens_of lexemes)) same

  -- ---- nothing else is given, and that is given

  module _ (bytes : Bytes sheet) where
    abbrev Gives : Ending → Type 0
    Gives e = Recognises sheet text work room e.answer e.tokens

    refusal : (a : Answer) (v : Verdict) → check sheet work ≡ v → check_answer v ≡ a → 1 ≤ a.number → gives ≡ ending a []
    unfolding recognise after_checking check_answer
    refusal a (failed question place) e h n = ap (after_checking text room) e ∙ ap (λ (b : Answer). ending b []) h
    refusal a (passed s) e h n = let z : 0 ≡ a.number = ap (λ (x : Answer). x.number) h in absurd (omega (arith, z, n))

    recognises_only : {a : Answer} {tokens : List ℕ} → Recognises sheet text work room a tokens → gives ≡ ending a tokens
    recognises_only (not_passed a h n) = refusal a (check sheet work) refl (checks_only bytes h) n
    recognises_only (long_text s w p l) = gives_12 s w p l
    recognises_only (short_list s w p l r) = gives_20 s w p l r
    recognises_only (no_rule s p lexemes b x l m) = gives_14 s b x (l, m)
    recognises_only (read_to_end s a lexemes b x own) = gives_own s b x a own

    begun : (s : Sheet) → NotTurnedAway sheet text work room s → Gives gives
    begun s b = let r = list_tokens_reads s text b.passable.no_empty_text in go r.reads r.stops
      where
        go : {p : ℕ} {lexemes : List Lexeme} → Lexes by_kind s text p lexemes → ReadingStops s text p → Gives gives
        go {p} {lexemes} x (inl e) =
            let y = subst (λ (q : ℕ). Lexes by_kind s text q lexemes) e x in
            let own = descent_own-answer s text b.passable.has_type.1 y (descends b.passable (tokens_of lexemes)) in
            rw (gives_own s b y _ own) (read_to_end s _ lexemes b y own)
        go {p} {lexemes} x (inr h) = rw (gives_14 s b x h) (no_rule s p lexemes b x h.0 h.1)

    by_verdict : (v : Verdict) → check sheet work ≡ v → Gives gives
    unfolding check_answer
    by_verdict (failed question place) e =
        let h = subst (λ (v : Verdict). Checks sheet work (check_answer v)) e (check_answers sheet work bytes) in
        let n = (failed_numbered sheet bytes work question place e).0 in
        rw (refusal (answer question place 0) (failed question place) e refl n) (not_passed (answer question place 0) h n)
    by_verdict (passed s) e =
        let p = passed_passable sheet bytes work s e in
        ⊎_elim (λ l. rw (gives_12 s p.0 p.1 l) (long_text s p.0 p.1 l))
        (λ l. ⊎_elim (λ r. rw (gives_20 s p.0 p.1 l r) (short_list s p.0 p.1 l r))
        (λ r. begun s (record { enough_work = p.0; passable = p.1; within = l; list_holds = r }))
        (lt-or-le room (length text)))
        (lt-or-le most_recognised_bytes (length text))

    recognise_recognises : Gives gives
    recognise_recognises = by_verdict (check sheet work) refl

    -- What `recognise` gives is what the relation says, and nothing else is.
    pub recognises_iff : (a : Answer) (tokens : List ℕ) → (gives ≡ ending a tokens) ↔ Recognises sheet text work room a tokens
    recognises_iff a tokens = ((λ e. subst Gives e recognise_recognises), recognises_only)

    -- One answer and one list of tokens.
    given : {a b : Answer} {tokens others : List ℕ} → Recognises sheet text work room a tokens → gives ≡ ending b others
        → (a ≡ b) × (tokens ≡ others)
    given x h = let e = sym (recognises_only x) ∙ h in (ap (λ (z : Ending). z.answer) e, ap (λ (z : Ending). z.tokens) e)

    pub recognises_one : {a b : Answer} {tokens others : List ℕ} → Recognises sheet text work room a tokens
        → Recognises sheet text work room b others → (a ≡ b) × (tokens ≡ others)
    recognises_one x y = given x (recognises_only y)

    -- ---- what a text gets that meets neither 12 nor 20

    module _ {a : Answer} {tokens : List ℕ} (x : Recognises sheet text work room a tokens) (s : Sheet)
        (b : NotTurnedAway sheet text work room s) where
      -- "14 at the first place where no rule matches", wherever the sheet's own answer stands.
      pub no_rule-first : {p : ℕ} {lexemes : List Lexeme} → Lexes by_kind s text p lexemes → Unmatched s text p
          → (a ≡ answer 14 p (length lexemes)) × (tokens ≡ tokens_of lexemes)
      no_rule-first y h = given x (gives_14 s b y h)

      module _ {lexemes : List Lexeme} (y : Lexes by_kind s text (length text) lexemes) where
        -- "where there is none", the own answer's number and place.
        pub as_own-answer : (own : Answer) → OwnAnswer s text own
            → (a ≡ answer own.number own.place (length lexemes)) × (tokens ≡ tokens_of lexemes)
        as_own-answer own z = given x (gives_own s b y own z)

        -- What the descent ends with decides.
        pub descent_decides : (o : Descent) → DescendsFromStart s.expression (tokens_of lexemes) o
            → a ≡ answer (number_for o) (place_for (starts_of lexemes) o (length text)) (length lexemes)
        descent_decides o d = (given x (by_descent s b y o d)).0

        -- The whole own answer, its count too, unless the number is 15: then fewer tokens are before the place than are written.
        pub unless_15 : (own : Answer) → OwnAnswer s text own → (own.number ≡ 15 → ⊥) → a ≡ own
        unless_15 own z never =
            let d = one_descent b.passable (tokens_of lexemes) in
            go d.0 (own-answer_one s text z (descent_own-answer s text b.passable.has_type.1 y d.1))
            (descent_decides d.0 d.1)
          where
            by : Descent → ℕ → Answer
            by o count = answer (number_for o) (place_for (starts_of lexemes) o (length text)) count

            go : (o : Descent) → own ≡ by o (length lexemes - length (rest_of o)) → a ≡ by o (length lexemes) → a ≡ own
            go (left []) e f = f ∙ (ap (by (left [])) (let k : length lexemes ≡ length lexemes - 0 = omega arith in k) ∙ sym e)
            go (left (t ∷ rest)) e f = absurd (never (ap (λ (c : Answer). c.number) e))
            go (stuck []) e f = f ∙ (ap (by (stuck [])) (let k : length lexemes ≡ length lexemes - 0 = omega arith in k) ∙ sym e)
            go (stuck (t ∷ rest)) e f = absurd (never (ap (λ (c : Answer). c.number) e))
