-- From the run of tokens to what the expression denotes, and to the sheet's own answer: its number, its place, and how many tokens stand
-- before that place.
use Rattle.std.specs.Prelude.{◌≡◌, refl, List, [], ◌∷◌, ◌++◌, ◌↔◌, ℕ, suc, ◌+◌, ◌-◌, ◌≤◌, length, get_or}
use Rattle.std.proofs.Common.{sym, ap, subst, append-nil, append_assoc, arith, length-append}
use Rattle.std.proofs.lemmas.List.{length-map}
use Rattle.sheet.specs.Expression.{Expression}
use Rattle.sheet.specs.Sheet.{Sheet}
use Rattle.types.specs.Denotation.{Language, Denotes}
use Rattle.types.specs.Languages.{HasWord}
use Rattle.types.specs.NodeLanguages.{language_of}
use Rattle.types.specs.Types.{LanguageType, ◌⊢◌∶◌}
use Rattle.normal_form.specs.Productions.{Row, row_of}
use Rattle.normal_form.specs.NormalForm.{normal_form}
use Rattle.normal_form.proofs.laws.NodeLanguages.{start_language}
use Rattle.normal_form.proofs.laws.Unfolding.{concatenation}
use Rattle.normal_form.proofs.laws.Pending.{Ready, none_left, step-words, end_exact, ready_one}
use Rattle.normal_form.proofs.laws.NormalFormLaws.{normal_form_fits, start-words}
use Rattle.lexer.specs.RuleOrder.{by_kind}
use Rattle.image.specs.Answer.{Answer, answer}
use Rattle.machine.specs.OwnAnswer.{AnswersFrom, accepts, ends_early, skips, takes, refuses, OwnAnswer}
use Rattle.machine.specs.Lexes.{Lexeme, tokens_of, Lexes}
use Rattle.recogniser.specs.Descends.{Descent, left, stuck, DescendsFromStart, entered, not_entered, rest_of, number_for, place_for}
use Rattle.recogniser.proofs.laws.TokenRun.{to_next, to_none, TokenRun, run_accepts, run_ends_early, run_takes, run_refuses}
use Rattle.recogniser.proofs.laws.TokenRun.{TokensAnswer, denoted, not_denoted, allowed, not_allowed, comes_to}
use Rattle.recogniser.proofs.laws.DescentRuns.{descent_runs, Continues}
use Rattle.recogniser.specs.ReadingStops.{starts_of}
use Rattle.recogniser.proofs.laws.Reading.{LexesOn, no_more, on_over_skip, on_over_token, lexes_whole}

module _ {e : Expression} {a : LanguageType} (d : [] ⊢ e ∶ a) where
  abbrev N : ℕ → Language
  N = language_of e

  abbrev M : ℕ → Row
  M = row_of (normal_form e)

  -- A run over ready nodes, whose words are what may follow the tokens before, answers as the expression does.
  run_answers : {β ts : List ℕ} {r : Descent} → TokenRun M β ts r → (before : List ℕ) → Ready N β
      → ((w : List ℕ) → concatenation N β w ↔ Denotes e (before ++ w)) → TokensAnswer e before ts r
  run_answers (run_accepts {β = β} n) before i f =
      denoted (subst (Denotes e) (append-nil before) ((f []).0 ((end_exact N M (normal_form_fits d) β).0 n)))
  run_answers (run_ends_early {β = β} n) before i f =
      not_denoted (λ x. n ((end_exact N M (normal_form_fits d) β).1 ((f []).1 (subst (Denotes e) (sym (append-nil before)) x))))
  run_answers (run_takes {t = t} (to_next s) x) before i f =
      let k = step-words N M (normal_form_fits d) s i in
      allowed (k.2.0, (f (t ∷ k.2.0)).0 k.2.1) (run_answers x (before ++ (t ∷ [])) k.0
      (λ w. rw (append_assoc before (t ∷ []) w) (λ y. (f (t ∷ w)).0 ((k.1 w).1 y), λ y. (k.1 w).0 ((f (t ∷ w)).1 y))))
  run_answers (run_refuses {t = t} (to_none s)) before i f =
      not_allowed (λ x. step-words N M (normal_form_fits d) s i x.0 ((f (t ∷ x.0)).1 x.1))

  after_all : (o : Descent) → Continues d [] o (comes_to o)
  after_all (left []) = run_accepts tt
  after_all (left (t ∷ ts)) = run_refuses (to_none none_left)
  after_all (stuck ts) = refl

  nothing_denoted : (ts : List ℕ) → (HasWord (Denotes e) → ⊥) → TokensAnswer e [] ts (stuck ts)
  nothing_denoted [] h = not_denoted (λ x. h ([], x))
  nothing_denoted (t ∷ ts) h = not_allowed (λ x. h (t ∷ x.0, x.1))

  -- The recogniser answers on tokens as the expression does: so document 001's recogniser is right.
  pub descent_answers : {ts : List ℕ} {o : Descent} → DescendsFromStart e ts o → TokensAnswer e [] ts (comes_to o)
  descent_answers (entered {o = o} w x) =
      run_answers (descent_runs d x 0 refl (w.0, subst (λ L. L w.0) (sym (start_language e)) w.1) [] (comes_to o) (after_all o))
      [] (ready_one N 0) (start-words e)
  descent_answers {ts} (not_entered h) = nothing_denoted ts h

-- ---- along a text

rest_within : {e : Expression} {before ts : List ℕ} {r : Descent} → TokensAnswer e before ts r → length (rest_of r) ≤ length ts
rest_within (denoted x) = omega arith
rest_within (not_denoted x) = omega arith
rest_within (allowed x y) = let h = rest_within y in omega arith
rest_within (not_allowed x) = omega arith

same_answer : {n p q c b : ℕ} → p ≡ q → c ≡ b → answer n p c ≡ answer n q b
same_answer {n} x y = λ i. answer n (x i) (y i)

module _ (s : Sheet) (text : List ℕ) where
  -- How many lexemes stand before the rest.
  abbrev taken : List Lexeme → Descent → ℕ
  taken lexemes r = length lexemes - length (rest_of r)

  abbrev Here : ℕ → List ℕ → Answer → Type 0
  Here p before a = AnswersFrom by_kind s text p before a

  from_place : {p q : ℕ} {lexemes : List Lexeme} → LexesOn s text p lexemes q → q ≡ length text → (before : List ℕ) (r : Descent)
      → TokensAnswer s.expression before (tokens_of lexemes) r
      → Here p before (answer (number_for r) (place_for (starts_of lexemes) r (length text)) (length before + taken lexemes r))
  from_place {p} no_more z before r (denoted x) =
      let count : length before ≡ length before + taken [] (left []) = omega arith in
      subst (Here p before) (same_answer z count) (accepts z x)
  from_place {p} no_more z before r (not_denoted x) =
      let count : length before ≡ length before + taken [] (stuck []) = omega arith in
      subst (Here p before) (same_answer z count) (ends_early z x)
  from_place (on_over_skip k n l m a x) z before r y = skips k n l m a (from_place x z before r y)
  from_place {p} (on_over_token {lexemes = ls} k n t l m a x) end before r (allowed w y) =
      let many = length-map ls (λ l. l.start) in
      let tokens = length-map ls (λ l. l.token) in
      let within = rest_within y in
      let longer = length-append before (t ∷ []) in
      let count : length (before ++ (t ∷ [])) + taken ls r ≡ length before + (suc (length ls) - length (rest_of r)) = omega arith in
      let later : suc (length (starts_of ls)) - length (rest_of r) ≡ suc (length (starts_of ls) - length (rest_of r)) = omega arith in
      takes k n t l m a w (subst (Here (p + n) (before ++ (t ∷ [])))
      (same_answer (sym (ap (λ (i : ℕ). get_or (p ∷ starts_of ls) i (length text)) later)) count)
      (from_place x end (before ++ (t ∷ [])) r y))
  from_place {p} (on_over_token {lexemes = ls} k n t l m a x) end before r (not_allowed w) =
      let many = length-map ls (λ l. l.start) in
      let tokens = length-map ls (λ l. l.token) in
      let count : length before ≡ length before + (suc (length ls) - suc (length (tokens_of ls))) = omega arith in
      let first : suc (length (starts_of ls)) - suc (length (tokens_of ls)) ≡ 0 = omega arith in
      subst (Here p before) (same_answer (sym (ap (λ (i : ℕ). get_or (p ∷ starts_of ls) i (length text)) first)) count)
      (refuses k n t l m a w)

  number_comes_to : (o : Descent) → number_for (comes_to o) ≡ number_for o
  number_comes_to (left []) = refl
  number_comes_to (left (t ∷ ts)) = refl
  number_comes_to (stuck []) = refl
  number_comes_to (stuck (t ∷ ts)) = refl

  rest_comes_to : (o : Descent) → rest_of (comes_to o) ≡ rest_of o
  rest_comes_to (left []) = refl
  rest_comes_to (left (t ∷ ts)) = refl
  rest_comes_to (stuck ts) = refl

  -- Where the text is read to its end, the descent gives the own answer: its number, its place, and how many tokens stand before it.
  pub descent_own-answer : {a : LanguageType} → [] ⊢ s.expression ∶ a → {lexemes : List Lexeme} {o : Descent}
      → Lexes by_kind s text (length text) lexemes → DescendsFromStart s.expression (tokens_of lexemes) o
      → OwnAnswer s text (answer (number_for o) (place_for (starts_of lexemes) o (length text)) (length lexemes - length (rest_of o)))
  descent_own-answer d {lexemes} {o} x y =
      let z : OwnAnswer s text (answer (number_for o) (place_for (starts_of lexemes) o (length text)) (0 + taken lexemes o)) =
      rw (number_comes_to o, rest_comes_to o) at (from_place (lexes_whole s text x) refl [] (comes_to o) (descent_answers d y)) in
      let c : 0 + taken lexemes o ≡ taken lexemes o = omega arith in
      subst (OwnAnswer s text) (same_answer refl c) z
