-- Which numbers the recogniser answers with, and what is written then: none of the text's tokens where it is turned away, else those up to
-- the place that reading comes to. They are counted, and they fit in the list. When it answers so is said in Recognises.
use Rattle.std.specs.Prelude.{◌≡◌, refl, List, [], ◌⊎◌, ℕ, ◌≤◌, ◌<◌, length}
use Rattle.std.proofs.Common.{sym, ap, ◌∙◌, inl, inr, arith}
use Rattle.std.proofs.lemmas.List.{length-map}
use Rattle.sheet.specs.Sheet.{Sheet}
use Rattle.image.specs.Answer.{Answer}
use Rattle.image.specs.Checks.{Checks}
use Rattle.image.proofs.laws.CheckNumbers.{OneToTen, check_cases, check_amount}
use Rattle.machine.proofs.laws.AcceptanceLaws.{own-answer-number}
use Rattle.recogniser.specs.Recognises.{most_recognised_bytes, Recognises, not_passed, long_text, short_list, no_rule, read_to_end}
use Rattle.recogniser.specs.ReadingStops.{ReadingStops, TurnedAway, TextRead, TokensFound}
use Rattle.recogniser.proofs.laws.Reading.{lexemes_within}

pub not_both_ways : {n : ℕ} → TurnedAway n → TextRead n → ⊥
not_both_ways (inl h) (inl e) = omega (arith, h.0)
not_both_ways (inl h) (inr k) = omega (arith, h.1, k.0)
not_both_ways (inr (inl z)) (inl e) = omega arith
not_both_ways (inr (inl z)) (inr k) = omega (arith, k.0)
not_both_ways (inr (inr z)) (inl e) = omega arith
not_both_ways (inr (inr z)) (inr k) = omega (arith, k.1)

module _ (sheet text : List ℕ) (work room : ℕ) where
  -- It is turned away and nothing is written, or the text is read.
  pub recognises_ways : {a : Answer} {tokens : List ℕ} → Recognises sheet text work room a tokens
      → (TurnedAway a.number × (tokens ≡ [])) ⊎ (TextRead a.number × TokensFound sheet text work room tokens)
  recognises_ways (not_passed a h n) =
      elim (check_cases h) [ inl x ↦ absurd (omega (arith, x.0, n)) | inr x ↦ inl (inl x, refl) ]
  recognises_ways (long_text s w p l) = inl (inr (inl refl), refl)
  recognises_ways (short_list s w p l r) = inl (inr (inr refl), refl)
  recognises_ways (no_rule s p lexemes b x l m) = inr (
    inr (omega arith, omega arith),
    record {
      of_sheet = s;
      not_turned_away = b;
      place = p;
      lexemes = lexemes;
      reached = x;
      stops = inr (l, m);
      tokens_are = refl;
    },
  )
  recognises_ways (read_to_end s a lexemes b x own) = inr (
    own-answer-number s text a own,
    record {
      of_sheet = s;
      not_turned_away = b;
      place = length text;
      lexemes = lexemes;
      reached = x;
      stops = inl refl;
      tokens_are = refl;
    },
  )

-- A number from 1 to 10 is checking's.
pub refused_checks : {sheet text : List ℕ} {work room : ℕ} {a : Answer} {tokens : List ℕ} → Recognises sheet text work room a tokens
    → OneToTen a.number → Checks sheet work a
refused_checks (not_passed a h n) few = h
refused_checks (long_text s w p l) few = absurd (omega (arith, few.1))
refused_checks (short_list s w p l r) few = absurd (omega (arith, few.1))
refused_checks (no_rule s p lexemes b x l m) few = absurd (omega (arith, few.1))
refused_checks {text = text} (read_to_end s a lexemes b x own) few = absurd (not_both_ways (inl few) (own-answer-number s text a own))

-- "with the count of tokens written"
pub tokens_counted : {sheet text : List ℕ} {work room : ℕ} {a : Answer} {tokens : List ℕ} → Recognises sheet text work room a tokens
    → a.amount ≡ length tokens
tokens_counted (not_passed a h n) = check_amount h
tokens_counted (long_text s w p l) = refl
tokens_counted (short_list s w p l r) = refl
tokens_counted (no_rule s p lexemes b x l m) = sym (length-map lexemes (λ l. l.token))
tokens_counted (read_to_end s a lexemes b x own) = sym (length-map lexemes (λ l. l.token))

stops_within : (s : Sheet) (text : List ℕ) (q : ℕ) → ReadingStops s text q → q ≤ length text
stops_within s text q (inl e) = omega arith
stops_within s text q (inr h) = let l = h.0 in omega arith

-- The tokens fit in the list: each took a byte of the text.
pub tokens_fit : {sheet text : List ℕ} {work room : ℕ} {a : Answer} {tokens : List ℕ} → Recognises sheet text work room a tokens
    → (length tokens ≤ length text) × (length tokens ≤ room)
tokens_fit {sheet} {text} {work} {room} x = elim (recognises_ways sheet text work room x) [
  | inl h ↦ let e = ap (λ (w : List ℕ). length w) h.1 in (omega arith, omega arith)
  | inr h ↦
      let r = h.1 in
      let most = lexemes_within r.of_sheet text r.not_turned_away.passable.no_empty_text r.reached in
      let within = stops_within r.of_sheet text r.place r.stops in
      let holds = r.not_turned_away.list_holds in
      let many = ap (λ (w : List ℕ). length w) r.tokens_are ∙ length-map r.lexemes (λ l. l.token) in
      (omega arith, omega arith)
]

-- 12 and 20 are given only as the request says.
pub number_12 : {sheet text : List ℕ} {work room : ℕ} {a : Answer} {tokens : List ℕ} → Recognises sheet text work room a tokens
    → a.number ≡ 12 → most_recognised_bytes < length text
number_12 (not_passed a h n) z = elim (check_cases h) [ inl x ↦ absurd (omega (arith, x.0, z)) | inr x ↦ absurd (omega (arith, x.1, z)) ]
number_12 (long_text s w p l) z = l
number_12 (short_list s w p l r) z = absurd (omega (arith, z))
number_12 (no_rule s p lexemes b x l m) z = absurd (omega (arith, z))
number_12 {text = text} (read_to_end s a lexemes b x own) z = absurd (not_both_ways (inr (inl z)) (own-answer-number s text a own))

pub number_20 : {sheet text : List ℕ} {work room : ℕ} {a : Answer} {tokens : List ℕ} → Recognises sheet text work room a tokens
    → a.number ≡ 20 → (length text ≤ most_recognised_bytes) × (room < length text)
number_20 (not_passed a h n) z = elim (check_cases h) [ inl x ↦ absurd (omega (arith, x.0, z)) | inr x ↦ absurd (omega (arith, x.1, z)) ]
number_20 (long_text s w p l) z = absurd (omega (arith, z))
number_20 (short_list s w p l r) z = (l, r)
number_20 (no_rule s p lexemes b x l m) z = absurd (omega (arith, z))
number_20 {text = text} (read_to_end s a lexemes b x own) z = absurd (not_both_ways (inr (inr z)) (own-answer-number s text a own))
