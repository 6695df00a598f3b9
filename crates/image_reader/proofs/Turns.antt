-- Laws of things read one after the other by a loop: what was read so far, and that the rest is read from the present place on.
use mathlib.Core.Path.{◌≡◌, refl, sym, ap, subst, ◌∙◌}
use mathlib.Core.List.{List, [], ◌∷◌, ◌++◌, append_assoc, append-nil}
use mathlib.Core.Bool.{Bool, true}
use Prim.Native.Nat.{ℕ, suc, ◌+◌, ◌-◌, ◌≤◌, ◌<◌}
use native.Mathlib.Omega.{arith}
use Rattle.sheet.specs.Field.{Reading, stop, got, and_then, read_many}
use Rattle.image.specs.ImageReading.{read_list}
use Rattle.image_reader.proofs.Parts.{many_none, many_more, list_is}
use Rattle.image_reader.proofs.Steps.{read_on, read_stops}

-- A list that was read, before what a reading gives.
unfoldable pub prepend : {A : Type 0} → List A → Reading (List A) → Reading (List A)
prepend done (stop q p) = stop q p
prepend done (got l end) = got (done ++ l) end

module _ {A : Type 0} where
  prepend_cons : (done : List A) (a : A) (r : Reading (List A))
      → prepend done (and_then r (λ l end. got (a ∷ l) end)) ≡ prepend (done ++ (a ∷ [])) r
  unfolding prepend
  prepend_cons done a (stop q p) = refl
  prepend_cons done a (got l end) = ap (λ x. got x end) (sym (append_assoc done (a ∷ []) l))

  prepend_none : (r : Reading (List A)) → r ≡ prepend [] r
  unfolding prepend
  prepend_none (stop q p) = refl
  prepend_none (got l end) = refl

-- After i turns of n, `done` was read, and the rest is read from the state s and a place on.
pub record Turns {S A : Type 0} (one : S → ℕ → Reading A) (update : S → A → S) (whole : Reading (List A)) (n i : ℕ) (s : S) (at : ℕ)
    (done : List A) : Type 0 where
  pub rest : prepend done (read_many one update s (n - i) at) ≡ whole

module _ {S A : Type 0} {one : S → ℕ → Reading A} {update : S → A → S} where
  module _ {whole : Reading (List A)} {n i : ℕ} {s : S} {at : ℕ} {done : List A} (t : Turns one update whole n i s at done) where
    -- What remains begins with one more, where one more is to be read.
    opened : i < n
        → prepend done (and_then (one s at) (λ a next. and_then (read_many one update (update s a) (n - (i + 1)) next) (λ l end. got (a ∷ l) end)))
        ≡ whole
    opened h =
        let m : suc (n - (i + 1)) ≡ n - i = omega arith in
        ap (prepend done) (sym (many_more one update s (n - (i + 1)) at) ∙ ap (λ (x : ℕ). read_many one update s x at) m) ∙ t.rest

    pub turns_more : {next : ℕ} {a : A} → i < n → one s at ≡ got a next
        → Turns one update whole n (i + 1) (update s a) next (done ++ (a ∷ []))
    turns_more {next} {a} h e = record {
      rest = sym (prepend_cons done a (read_many one update (update s a) (n - (i + 1)) next))
          ∙ ap (prepend done) (sym (read_on _ e)) ∙ opened h;
    }

    -- The same state under another name.
    pub turns_state : {s' : S} → s ≡ s' → Turns one update whole n i s' at done
    turns_state e = subst (λ (x : S). Turns one update whole n i x at done) e t

    pub turns_stop : {q p : ℕ} → i < n → one s at ≡ stop q p → whole ≡ stop q p
    unfolding prepend
    turns_stop h e = sym (opened h) ∙ ap (prepend done) (read_stops _ e)

    pub turns_end : n ≤ i → whole ≡ got done at
    unfolding prepend
    turns_end h =
        let m : n - i ≡ 0 = omega arith in
        sym t.rest ∙ ap (prepend done) (ap (λ (x : ℕ). read_many one update s x at) m ∙ many_none one update s at)
        ∙ ap (λ (l : List A). got l at) (append-nil done)

pub turns_start : {S A : Type 0} (one : S → ℕ → Reading A) (update : S → A → S) (s : S) (n at : ℕ)
    → Turns one update (read_many one update s n at) n 0 s at []
turns_start one update s n at = record {
  rest = sym (prepend_none (read_many one update s (n - 0) at)) ∙ ap (λ (x : ℕ). read_many one update s x at) (omega arith);
}

-- The same for things that are read alike.
abbrev pub Listing : {A : Type 0} → (ℕ → Reading A) → ℕ → ℕ → ℕ → ℕ → List A → Type 0
Listing one from n i at done = Turns (λ (s : Bool) at. one at) (λ s a. s) (read_list one n from) n i true at done

pub listing_start : {A : Type 0} (one : ℕ → Reading A) (n from : ℕ) → Listing one from n 0 from []
listing_start one n from = record {
  rest = (turns_start (λ (s : Bool) at. one at) (λ s a. s) true n from).rest ∙ sym (list_is one n from);
}
