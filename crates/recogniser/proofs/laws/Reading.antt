-- Reading by longest match, from a place on: it is the reading from the start, and it is one. Nothing is asked of the expression; that a
-- function reads so is in ListingLaws.
use Rattle.std.specs.Prelude.{◌≡◌, refl, List, [], ◌∷◌, ◌++◌, ℕ, zero, suc, ◌+◌, ◌≤◌, ◌<◌, length, drop}
use Rattle.std.proofs.Common.{subst, append-nil, append_assoc, inl, inr, arith, length-append}
use Rattle.sheet.specs.Sheet.{Sheet}
use Rattle.lexer.specs.Words.{NoEmptyRule}
use Rattle.lexer.specs.RuleOrder.{by_kind}
use Rattle.lexer.specs.LongestMatch.{LongestMatch}
use Rattle.lexer.proofs.laws.LongestMatchLaws.{longest_one, longest_not-none}
use Rattle.machine.specs.OwnAnswer.{ActionOf}
use Rattle.machine.specs.Lexes.{Lexeme, lexeme, Lexes, from_start, over_skip, over_token}
use Rattle.machine.proofs.laws.OwnAnswerLaws.{same_action}
use Rattle.recogniser.specs.ReadingStops.{ReadingStops, MatchedThroughout}

-- From p reading comes to q by these lexemes.
pub data LexesOn (s : Sheet) (text : List ℕ) : ℕ → List Lexeme → ℕ → Type 0 where
  no_more : {p : ℕ} → LexesOn s text p [] p
  on_over_skip : {p q : ℕ} {lexemes : List Lexeme} (k n : ℕ) → p < length text → LongestMatch by_kind s.rules (drop p text) k n
      → ActionOf s k 0 → LexesOn s text (p + n) lexemes q → LexesOn s text p lexemes q
  on_over_token : {p q : ℕ} {lexemes : List Lexeme} (k n t : ℕ) → p < length text → LongestMatch by_kind s.rules (drop p text) k n
      → ActionOf s k (suc t) → LexesOn s text (p + n) lexemes q → LexesOn s text p (lexeme p n k t ∷ lexemes) q

module _ (s : Sheet) (text : List ℕ) where
  lexes_on : {p q : ℕ} {before lexemes : List Lexeme} → Lexes by_kind s text p before → LexesOn s text p lexemes q
      → LexesOn s text 0 (before ++ lexemes) q
  lexes_on from_start y = y
  lexes_on (over_skip k n x l m a) y = lexes_on x (on_over_skip k n l m a y)
  lexes_on {lexemes = more} (over_token {p = p} {lexemes = before} k n t x l m a) y =
      rw (append_assoc before (lexeme p n k t ∷ []) more) (lexes_on x (on_over_token k n t l m a y))

  pub lexes_whole : {q : ℕ} {lexemes : List Lexeme} → Lexes by_kind s text q lexemes → LexesOn s text 0 lexemes q
  lexes_whole {q} {lexemes} x = rw (append-nil lexemes) at (lexes_on x no_more)

  lexes_to : {p q : ℕ} {before lexemes : List Lexeme} → LexesOn s text p lexemes q → Lexes by_kind s text p before
      → Lexes by_kind s text q (before ++ lexemes)
  lexes_to {before = before} no_more x = rw (append-nil before) x
  lexes_to (on_over_skip k n l m a y) x = lexes_to y (over_skip k n x l m a)
  lexes_to {p = p} {before = before} (on_over_token {lexemes = more} k n t l m a y) x =
      rw (append_assoc before (lexeme p n k t ∷ []) more) at (lexes_to y (over_token k n t x l m a))

  pub lexes_from_start : {q : ℕ} {lexemes : List Lexeme} → LexesOn s text 0 lexemes q → Lexes by_kind s text q lexemes
  lexes_from_start y = lexes_to y from_start

  -- ---- one reading

  goes_on_or_stops : {X : Type 0} {p k n : ℕ} → p < length text → LongestMatch by_kind s.rules (drop p text) k n
      → ReadingStops s text p → X
  goes_on_or_stops l m (inl e) = absurd (omega arith)
  goes_on_or_stops l m (inr h) = absurd (longest_not-none m h.1)

  -- Reading is one, as far as it goes.
  one_from : {p q q' : ℕ} {lexemes others : List Lexeme} → LexesOn s text p lexemes q → ReadingStops s text q
      → LexesOn s text p others q' → ReadingStops s text q' → (lexemes ≡ others) × (q ≡ q')
  one_from no_more e no_more f = (refl, refl)
  one_from no_more e (on_over_skip k n l m a y) f = goes_on_or_stops l m e
  one_from no_more e (on_over_token k n t l m a y) f = goes_on_or_stops l m e
  one_from (on_over_skip k n l m a x) e no_more f = goes_on_or_stops l m f
  one_from (on_over_token k n t l m a x) e no_more f = goes_on_or_stops l m f
  one_from {p} (on_over_skip k n l m a x) e (on_over_skip {q = q'} {lexemes = others} j i l' m' a' y) f =
      one_from x e (subst (λ z. LexesOn s text (p + z) others q') (same_action by_kind s text m' a' m a).0 y) f
  one_from (on_over_skip k n l m a x) e (on_over_token j i t l' m' a' y) f =
      absurd (let z = (same_action by_kind s text m a m' a').1 in omega arith)
  one_from (on_over_token k n t l m a x) e (on_over_skip j i l' m' a' y) f =
      absurd (let z = (same_action by_kind s text m a m' a').1 in omega arith)
  one_from {p} (on_over_token k n t l m a x) e (on_over_token {q = q'} {lexemes = others} j i t' l' m' a' y) f =
      let z = same_action by_kind s text m' a' m a in
      let same_token : t ≡ t' = (let g = z.1 in omega arith) in
      let same_rule : k ≡ j = (longest_one m m').0 in
      let r = one_from x e (subst (λ o. LexesOn s text (p + o) others q') z.0 y) f in
      (cc (same_token, same_rule, z.0, r.0), r.1)

  -- Two readings from the start that stop are one.
  pub reading_one : {p q : ℕ} {lexemes others : List Lexeme} → Lexes by_kind s text p lexemes → ReadingStops s text p
      → Lexes by_kind s text q others → ReadingStops s text q → (lexemes ≡ others) × (p ≡ q)
  reading_one x e y f = one_from (lexes_whole x) e (lexes_whole y) f

  pub read_to_end_matched : {lexemes : List Lexeme} → Lexes by_kind s text (length text) lexemes → MatchedThroughout s text
  read_to_end_matched x p others y h = let e = (reading_one x (inl refl) y (inr h)).1 in let l = h.0 in omega arith

  -- Each lexeme takes a byte of the text or more, if no rule matches the empty word.
  pub lexemes_within : NoEmptyRule s.rules → {p : ℕ} {lexemes : List Lexeme} → Lexes by_kind s text p lexemes → length lexemes ≤ p
  lexemes_within no_empty from_start = omega arith
  lexemes_within no_empty (over_skip k n x l m a) = let h = lexemes_within no_empty x in omega arith
  lexemes_within no_empty (over_token {p = p} {lexemes = before} k n t x l m a) =
      let h = lexemes_within no_empty x in
      let i = length-append before (lexeme p n k t ∷ []) in
      let j = some_bytes n m in
      omega arith
    where
      some_bytes : (n : ℕ) → LongestMatch by_kind s.rules (drop p text) k n → 1 ≤ n
      some_bytes zero m = absurd (no_empty k m.matches)
      some_bytes (suc n) m = omega arith
