-- The laws of formats: bytes have exactly one answer, and reading from the left gives it. Which formats there are is not asked here.
use Rattle.std.specs.Prelude.{◌≡◌, refl, Bool, true, false, cond, List, ◌↔◌, ℕ, ◌+◌, ◌≤◌, ◌<◌, eqb, length, Option, Some, None}
use Rattle.std.proofs.Common.{sym, ap, subst, subst₂, ◌∙◌, arith, eqb-true}
use Rattle.std.proofs.Math.Option.{none, some}
use Rattle.std.proofs.Math.Option as maybe
use Rattle.std.proofs.lemmas.Bool.{eqb-false}
use Rattle.number.specs.declared.Number.{Number}
use Rattle.sheet.specs.Spelling.{StandsAt}
use Rattle.sheet.specs.Field.{Reading, stop, got, and_then}
use Rattle.sheet.specs.Format.{Format, done, number, FormatAnswer, made, left_over, no_number, not_allowed, onward}

-- ---- reading

abbrev pub judged : maybe.Option ℕ → ℕ → ℕ → ℕ → Reading ℕ
judged none v at next = got v next
judged (some question) v at next = stop question at

-- The number that was found at a place, by what is asked of it.
abbrev pub asked : ℕ → (ℕ → maybe.Option ℕ) → ℕ → Option Number → Reading ℕ
asked missing ask at None = stop missing at
asked missing ask at (Some n) = judged (ask n.value) n.value at (at + n.used)

-- A part: what follows it is not looked at. `find` tells the number at a place.
abbrev pub read_part : (ℕ → Option Number) → ℕ → {A : Type 0} → Format A → ℕ → Reading A
read_part find missing (done a) at = got a at
read_part find missing (number ask next) at = and_then (asked missing ask at (find at)) (λ v end. read_part find missing (next v at) end)

abbrev pub at_end : ℕ → ℕ → {A : Type 0} → A → ℕ → Reading A
at_end whole leftover a at = cond (eqb at whole) (got a at) (stop leftover at)

-- The whole, with nothing after it.
abbrev pub read : (ℕ → Option Number) → ℕ → ℕ → ℕ → {A : Type 0} → Format A → ℕ → Reading A
read find whole missing leftover f at = and_then (read_part find missing f at) (at_end whole leftover)

pub then_same : {A B : Type 0} (r : Reading A) {f g : A → ℕ → Reading B} → ((a : A) (end : ℕ) → f a end ≡ g a end) → and_then r f ≡ and_then r g
then_same (stop question place) e = refl
then_same (got a end) e = e a end

pub then_then : {A B C : Type 0} (r : Reading A) (f : A → ℕ → Reading B) (g : B → ℕ → Reading C)
    → and_then (and_then r f) g ≡ and_then r (λ a end. and_then (f a end) g)
then_then (stop question place) f g = refl
then_then (got a end) f g = refl

-- ---- exactly one answer

-- At most one number stands at a place.
abbrev pub Once : (ℕ → ℕ → ℕ → Type 0) → Type 0
Once At = (at m n x y : ℕ) → At at m x → At at n y → (m ≡ n) × (x ≡ y)

module _ (Written : ℕ → List ℕ → Type 0) (bytes : List ℕ) (missing leftover : ℕ) (once : Once (StandsAt Written bytes)) where
  apart : {C : Type 0} {v : maybe.Option ℕ} {k : ℕ} → v ≡ none → v ≡ some k → C
  apart e f = let z : ◌≡◌ {A = ℕ} 0 1 = cc in absurd (omega arith)

  pub answer_one : {A : Type 0} {f : Format A} {at : ℕ} {x y : Reading A} → FormatAnswer Written bytes missing leftover f at x → FormatAnswer Written bytes missing leftover f at y → x ≡ y
  answer_one (made e) (made h) = refl
  answer_one (made e) (left_over l) = absurd (omega arith)
  answer_one (left_over l) (made e) = absurd (omega arith)
  answer_one (left_over l) (left_over k) = refl
  answer_one (no_number n) (no_number m) = refl
  answer_one (no_number n) (not_allowed {v = v} {mid = mid} s e) = absurd (n v mid s)
  answer_one (no_number n) (onward {v = v} {mid = mid} s e r) = absurd (n v mid s)
  answer_one (not_allowed {v = v} {mid = mid} s e) (no_number n) = absurd (n v mid s)
  answer_one (not_allowed {ask = ask} {at = at} {v = v} {mid = x} s e) (not_allowed {v = w} {mid = y} t h) =
      let same = (once at v w x y s t).0 in let z : ask v ≡ ask w = ap ask same in cc
  answer_one (not_allowed {ask = ask} {at = at} {v = v} {mid = x} s e) (onward {v = w} {mid = y} t h r) =
      apart (ap ask (once at v w x y s t).0 ∙ h) e
  answer_one (onward {v = v} {mid = mid} s e r) (no_number n) = absurd (n v mid s)
  answer_one (onward {ask = ask} {at = at} {v = v} {mid = x} s e r) (not_allowed {v = w} {mid = y} t h) =
      apart (sym (ap ask (once at v w x y s t).0) ∙ e) h
  answer_one (onward {next = next} {at = at} {v = v} {mid = x} s e r) (onward {v = w} {mid = y} {x = z} t h u) =
      let same = once at v w x y s t in
      answer_one r (subst₂ (λ (k p : ℕ). FormatAnswer Written bytes missing leftover (next k at) p z) (sym same.0) (sym same.1) u)

-- ---- reading gives the answer

-- A number is found exactly where one stands, within the bytes.
pub record Finds (At : ℕ → ℕ → ℕ → Type 0) (whole : ℕ) (find : ℕ → Option Number) : Type 0 where
  pub none_there : (at : ℕ) → find at ≡ None → (v mid : ℕ) → At at v mid → ⊥
  pub there : (at : ℕ) (n : Number) → find at ≡ Some n → At at n.value (at + n.used)
  pub inside : (at : ℕ) (n : Number) → find at ≡ Some n → at + n.used ≤ whole

module _ (Written : ℕ → List ℕ → Type 0) (bytes : List ℕ) (missing leftover : ℕ) (find : ℕ → Option Number)
    (finds : Finds (StandsAt Written bytes) (length bytes) find) where
  pub read_answers : {A : Type 0} (f : Format A) (at : ℕ) → at ≤ length bytes → FormatAnswer Written bytes missing leftover f at (read find (length bytes) missing leftover f at)
  read_answers (done a) at l = by_test (eqb at (length bytes)) refl
    where
      by_test : (c : Bool) → eqb at (length bytes) ≡ c → FormatAnswer Written bytes missing leftover (done a) at (cond c (got a at) (stop leftover at))
      by_test true e = made (eqb-true at (length bytes) e)
      by_test false e = let less : at < length bytes = omega (arith, eqb-false at (length bytes) e) in left_over less
  read_answers (number ask next) at l = by_number (λ v. read_answers (next v at)) (find at) refl
    where
      by_value : ((v p : ℕ) → p ≤ length bytes → FormatAnswer Written bytes missing leftover (next v at) p (read find (length bytes) missing leftover (next v at) p)) → (n : Number)
          → find at ≡ Some n → (o : maybe.Option ℕ) → ask n.value ≡ o
          → FormatAnswer Written bytes missing leftover (number ask next) at
          (and_then (and_then (judged o n.value at (at + n.used)) (λ v end. read_part find missing (next v at) end)) (at_end (length bytes) leftover))
      by_value later n e none h = onward (finds.there at n e) h (later n.value (at + n.used) (finds.inside at n e))
      by_value later n e (some question) h = not_allowed (finds.there at n e) h

      by_number : ((v p : ℕ) → p ≤ length bytes → FormatAnswer Written bytes missing leftover (next v at) p (read find (length bytes) missing leftover (next v at) p)) → (n : Option Number) → find at ≡ n
          → FormatAnswer Written bytes missing leftover (number ask next) at
          (and_then (and_then (asked missing ask at n) (λ v end. read_part find missing (next v at) end)) (at_end (length bytes) leftover))
      by_number later None e = no_number (finds.none_there at e)
      by_number later (Some n) e = by_value later n e (ask n.value) refl

  -- What reading gives is the answer, and nothing else is.
  pub read_iff : Once (StandsAt Written bytes) → {A : Type 0} (f : Format A) (at : ℕ) → at ≤ length bytes → (x : Reading A) → (read find (length bytes) missing leftover f at ≡ x) ↔ FormatAnswer Written bytes missing leftover f at x
  read_iff once f at l x = (
    λ e. subst (FormatAnswer Written bytes missing leftover f at) e (read_answers f at l),
    λ a. answer_one Written bytes missing leftover once (read_answers f at l) a,
  )
