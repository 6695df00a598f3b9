-- What users ask of the sheet's own answer: what it says of the reading of a text, when a text is accepted, where it is refused, and that 17
-- is never an answer.
use Rattle.std.specs.Prelude.{◌≡◌, refl, List, [], ◌∷◌, ◌++◌, ◌↔◌, ◌⊎◌, ℕ, suc, ◌+◌, ◌≤◌, ◌<◌, length, drop}
use Rattle.std.proofs.Common.{sym, ap, subst, ◌∙◌, append-nil, append_assoc, inl, inr, arith}
use Rattle.std.proofs.lemmas.List.{length-map}
use Rattle.sheet.specs.Sheet.{Sheet}
use Rattle.types.specs.Denotation.{Denotes}
use Rattle.lexer.specs.RuleOrder.{by_kind, Order}
use Rattle.lexer.specs.LongestMatch.{LongestMatch}
use Rattle.image.specs.Answer.{Answer, answer}
use Rattle.machine.specs.OwnAnswer.{Allowed, ActionOf, AnswersFrom, accepts, ends_early, no_rule, skips, takes, refuses, OwnAnswer}
use Rattle.machine.proofs.laws.OwnAnswerLaws.{own-answer_one}
use Rattle.machine.specs.Lexes.{Lexeme, lexeme, tokens_of, Lexes, from_start, over_skip, over_token, AllowedInTurn, none_yet, one_more}
use Rattle.machine.specs.Lexes.{ReadingEnds, denoted, no_rule_matches, token_not_allowed, not_denoted, AnswerOfReading}

-- One lexeme more, and its token.
pub tokens_more : (lexemes : List Lexeme) (l : Lexeme) → tokens_of (lexemes ++ (l ∷ [])) ≡ tokens_of lexemes ++ (l.token ∷ [])
tokens_more [] l = refl
tokens_more (m ∷ ls) l = ap (λ (w : List ℕ). m.token ∷ w) (tokens_more ls l)

module _ (s : Sheet) (text : List ℕ) where
  -- The reading so far, with the tokens that the answer's steps have kept.
  pub record ReadSoFar (order : Order) (p : ℕ) (tokens : List ℕ) : Type 0 where
    pub lexemes : List Lexeme
    pub reached : Lexes order s text p lexemes
    pub kept : tokens_of lexemes ≡ tokens
    pub allowed : AllowedInTurn s tokens

  abbrev pub nothing_read : {order : Order} → ReadSoFar order 0 []
  nothing_read = record { lexemes = []; reached = from_start; kept = refl; allowed = none_yet }

  -- A skip, and a token that is allowed.
  abbrev pub after_skip : {order : Order} {p : ℕ} {tokens : List ℕ} (k n : ℕ) → p < length text → LongestMatch order s.rules (drop p text) k n
      → ActionOf s k 0 → ReadSoFar order p tokens → ReadSoFar order (p + n) tokens
  after_skip k n l m a h =
      record { lexemes = h.lexemes; reached = over_skip k n h.reached l m a; kept = h.kept; allowed = h.allowed }

  abbrev pub after_token : {order : Order} {p : ℕ} {tokens : List ℕ} (k n t : ℕ) → p < length text → LongestMatch order s.rules (drop p text) k n
      → ActionOf s k (suc t) → Allowed s tokens t → ReadSoFar order p tokens → ReadSoFar order (p + n) (tokens ++ (t ∷ []))
  after_token {order} {p} k n t l m a c h = record {
    lexemes = h.lexemes ++ (lexeme p n k t ∷ []);
    reached = over_token k n t h.reached l m a;
    kept = tokens_more h.lexemes (lexeme p n k t) ∙ ap (λ (w : List ℕ). w ++ (t ∷ [])) h.kept;
    allowed = one_more t h.allowed c;
  }

  ended : {p number : ℕ} {tokens : List ℕ} → ReadSoFar by_kind p tokens → ReadingEnds s text p tokens number
      → AnswerOfReading s text number p (length tokens)
  ended {p} {number} h e = record {
    lexemes = h.lexemes;
    reached = h.reached;
    allowed = subst (AllowedInTurn s) (sym h.kept) h.allowed;
    ends = subst (λ (w : List ℕ). ReadingEnds s text p w number) (sym h.kept) e;
    counted = ap (λ (w : List ℕ). length w) (sym h.kept) ∙ length-map h.lexemes (λ l. l.token);
  }

  answered_from : {p : ℕ} {before : List ℕ} {a : Answer} → AnswersFrom by_kind s text p before a → ReadSoFar by_kind p before
      → AnswerOfReading s text a.number a.place a.amount
  answered_from (accepts e d) h = ended h (denoted e d)
  answered_from (ends_early e d) h = ended h (not_denoted e d)
  answered_from (no_rule l m) h = ended h (no_rule_matches l m)
  answered_from (skips k n l m a r) h = answered_from r (after_skip k n l m a h)
  answered_from (takes k n t l m a c r) h = answered_from r (after_token k n t l m a c h)
  answered_from (refuses k n t l m a c) h = ended h (token_not_allowed k n t l m a c)

  -- What the own answer says of the reading, whether the text is accepted or refused.
  pub answered_reading : (a : Answer) → OwnAnswer s text a → AnswerOfReading s text a.number a.place a.amount
  answered_reading a own = answered_from own nothing_read

  -- From the place that reading came to, an answer with tokens that a denoted sequence begins with is the answer from the start.
  from_the_start : {p : ℕ} {lexemes : List Lexeme} {a : Answer} → Lexes by_kind s text p lexemes → (more : List ℕ)
      → Denotes s.expression (tokens_of lexemes ++ more) → AnswersFrom by_kind s text p (tokens_of lexemes) a → OwnAnswer s text a
  from_the_start from_start more d x = x
  from_the_start (over_skip k n r l m c) more d x = from_the_start r more d (skips k n l m c x)
  from_the_start {a = a} (over_token {p = p} {lexemes = ls} k n t r l m c) more d x =
      let e = tokens_more ls (lexeme p n k t) in
      let w = subst (Denotes s.expression) (ap (λ (u : List ℕ). u ++ more) e ∙ append_assoc (tokens_of ls) (t ∷ []) more) d in
      from_the_start r (t ∷ more) w (takes k n t l m c (more, w) (subst (λ (u : List ℕ). AnswersFrom by_kind s text (p + n) u a) e x))

  accepting : {lexemes : List Lexeme} → Lexes by_kind s text (length text) lexemes → Denotes s.expression (tokens_of lexemes)
      → OwnAnswer s text (answer 0 (length text) (length (tokens_of lexemes)))
  accepting {lexemes} r d = from_the_start r [] (rw append-nil d) (accepts refl d)

  accepted : {number place count : ℕ} → AnswerOfReading s text number place count → number ≡ 0
      → (lexemes : List Lexeme) × Lexes by_kind s text (length text) lexemes × Denotes s.expression (tokens_of lexemes)
  accepted {number} {place} x z = go x.ends z
    where
      go : {n : ℕ} → ReadingEnds s text place (tokens_of x.lexemes) n → n ≡ 0
          → (lexemes : List Lexeme) × Lexes by_kind s text (length text) lexemes × Denotes s.expression (tokens_of lexemes)
      go (denoted e d) y = (x.lexemes, subst (λ (p : ℕ). Lexes by_kind s text p x.lexemes) e x.reached, d)
      go (no_rule_matches l m) y = absurd (omega arith)
      go (token_not_allowed k n t l m c f) y = absurd (omega arith)
      go (not_denoted e d) y = absurd (omega arith)

  -- "A text is accepted exactly when longest match over all rules reads it to its end and the expression denotes the tokens found"
  pub accepted_iff : (a : Answer) → OwnAnswer s text a
      → (a.number ≡ 0) ↔ ((lexemes : List Lexeme) × Lexes by_kind s text (length text) lexemes × Denotes s.expression (tokens_of lexemes))
  accepted_iff a own =
      (accepted (answered_reading a own), λ x. ap (λ (b : Answer). b.number) (own-answer_one s text own (accepting x.1 x.2)))

  -- "the count is how many they are", and the place is the text's length.
  pub accepted_answer : (a : Answer) → OwnAnswer s text a → (lexemes : List Lexeme) → Lexes by_kind s text (length text) lexemes
      → Denotes s.expression (tokens_of lexemes) → a ≡ answer 0 (length text) (length lexemes)
  accepted_answer a own lexemes l d =
      own-answer_one s text own (accepting l d) ∙ ap (λ (n : ℕ). answer 0 (length text) n) (length-map lexemes (λ l. l.token))

  -- The numbers of the own answer: 0, 14, 15 and 16.
  reading_number : {p n : ℕ} {tokens : List ℕ} → ReadingEnds s text p tokens n → (n ≡ 0) ⊎ ((14 ≤ n) × (n ≤ 16))
  reading_number (denoted e d) = inl refl
  reading_number (no_rule_matches l m) = inr (omega arith, omega arith)
  reading_number (token_not_allowed k n t l m c f) = inr (omega arith, omega arith)
  reading_number (not_denoted e d) = inr (omega arith, omega arith)

  pub own-answer-number : (a : Answer) → OwnAnswer s text a → (a.number ≡ 0) ⊎ ((14 ≤ a.number) × (a.number ≤ 16))
  own-answer-number a own = reading_number (answered_reading a own).ends

  -- The sheet's own answer is never 17.
  pub own-answer-not_17 : (a : Answer) → OwnAnswer s text a → a.number ≡ 17 → ⊥
  own-answer-not_17 a own z = elim (own-answer-number a own) [ inl h ↦ omega (arith, h, z) | inr h ↦ omega (arith, h.1, z) ]
