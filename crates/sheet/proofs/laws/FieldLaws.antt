-- The laws of fields: what a reading gives, one field, several in a row, and where numbers in their fewest bytes stand, as an image has them.
-- Where the numbers of a sheet stand is said in NumberLaws.
use Rattle.std.specs.Prelude.{◌≡◌, Bool, true, ◌&&◌, ◌↔◌, T, leb, ltb, length, drop}
use Rattle.std.proofs.Math.Path.{refl}
use Rattle.std.proofs.Common.{sym, ap, subst, ◌∙◌, arith, leb→le, le→leb, ltb→lt, lit<, length-append, drop-drop}
use mathlib.Core.List.{List, [], ◌∷◌, ◌++◌, append_assoc, append-nil}
use Prim.Native.Nat.{ℕ, zero, suc, ◌+◌, ◌≤◌}
use Rattle.std.proofs.Math.Seq.{drop-length, drop-append_seam}
use Rattle.basics.proofs.laws.Truth.{holds_true, true_holds, and_both, and-first, and-second, and-true-first, and-true-second}
use Rattle.number.specs.Number.{encode}
use Rattle.sheet.specs.Spelling.{spell}
pub use Rattle.sheet.specs.Spelling.{Bytes}
use Rattle.sheet.specs.Field.{Reading, stop, got, and_then, between, read_many}

-- ---- where numbers stand

-- The same as a test, for bytes that are written out.
abbrev pub all_bytes : List ℕ → Bool
all_bytes [] = true
all_bytes (b ∷ l) = ltb b 256 && all_bytes l

pub tested_bytes : (l : List ℕ) → T (all_bytes l) → Bytes l
tested_bytes [] t i = lit< tt
tested_bytes (b ∷ l) t zero = ltb→lt b 256 (and-first (ltb b 256) (all_bytes l) t)
tested_bytes (b ∷ l) t (suc i) = tested_bytes l (and-second (ltb b 256) (all_bytes l) t) i

-- The place after some numbers that stand from a place on.
abbrev pub after : ℕ → List ℕ → ℕ
after at ns = at + length (spell ns)

-- From a place to an end, the bytes are those of the numbers, the fewest of each.
pub record Stands (bytes : List ℕ) (at : ℕ) (ns : List ℕ) (end : ℕ) : Type 0 where
  pub there : drop at bytes ≡ spell ns ++ drop end bytes
  pub until : end ≡ after at ns
  pub inside : end ≤ length bytes

pub spell-append : (ms ns : List ℕ) → spell (ms ++ ns) ≡ spell ms ++ spell ns
unfolding spell
spell-append [] ns = refl
spell-append (m ∷ ms) ns = ap (λ (l : List ℕ). encode m ++ l) (spell-append ms ns) ∙ sym (append_assoc (encode m) (spell ms) (spell ns))

pub after-append : (at : ℕ) (ms ns : List ℕ) → after at (ms ++ ns) ≡ after (after at ms) ns
after-append at ms ns = omega (arith, ap length (spell-append ms ns), length-append (spell ms) (spell ns))

pub stands_none : (bytes : List ℕ) (at : ℕ) → at ≤ length bytes → Stands bytes at [] at
unfolding spell
stands_none bytes at h = record { there = refl; until = omega arith; inside = h }

pub stands_append : {bytes ms ns : List ℕ} {at mid end : ℕ} → Stands bytes at ms mid → Stands bytes mid ns end
    → Stands bytes at (ms ++ ns) end
stands_append {bytes} {ms} {ns} {at} {mid} {end} a b =
    let e = after-append at ms ns in record {
      there = a.there ∙ ap (λ (l : List ℕ). spell ms ++ l) b.there ∙ sym (append_assoc (spell ms) (spell ns) (drop end bytes))
          ∙ ap (λ (l : List ℕ). l ++ drop end bytes) (sym (spell-append ms ns));
      until = omega (arith, a.until, b.until);
      inside = b.inside;
    }

module _ (bytes : List ℕ) (at : ℕ) (ms ns : List ℕ) (end : ℕ) (s : Stands bytes at (ms ++ ns) end) where
  parted : drop at bytes ≡ spell ms ++ (spell ns ++ drop end bytes)
  parted = s.there ∙ ap (λ (l : List ℕ). l ++ drop end bytes) (spell-append ms ns) ∙ append_assoc (spell ms) (spell ns) (drop end bytes)

  -- The bytes after the first numbers are those of the others.
  beyond : drop (after at ms) bytes ≡ spell ns ++ drop end bytes
  beyond =
      sym (drop-drop (length (spell ms)) at bytes) ∙ ap (drop (length (spell ms))) parted
      ∙ drop-append_seam (spell ms) (spell ns ++ drop end bytes)

  pub stands_rest : Stands bytes (after at ms) ns end
  stands_rest = record { there = beyond; until = s.until ∙ after-append at ms ns; inside = s.inside }

  pub stands_first : Stands bytes at ms (after at ms)
  stands_first = record {
    there = parted ∙ ap (λ (l : List ℕ). spell ms ++ l) (sym beyond);
    until = refl;
    inside = omega (arith, s.until, s.inside, after-append at ms ns);
  }

-- From the first byte to the last.
pub stands_whole : (bytes ns : List ℕ) → Stands bytes 0 ns (length bytes) ↔ (bytes ≡ spell ns)
stands_whole bytes ns = (
  λ s. s.there ∙ ap (λ (l : List ℕ). spell ns ++ l) (drop-length bytes) ∙ append-nil (spell ns),
  λ e. record {
    there = e ∙ sym (append-nil (spell ns)) ∙ ap (λ (l : List ℕ). spell ns ++ l) (sym (drop-length bytes));
    until = omega (arith, ap length e);
    inside = omega arith;
  },
)

-- ---- outcomes

-- What holds of a refusal, by its number and place, or of what was read and its next place.
pub data Outcome {A : Type 0} (R : ℕ → ℕ → Type 0) (Q : A → ℕ → Type 0) : Reading A → Type 0 where
  refused : (question place : ℕ) → R question place → Outcome R Q (stop question place)
  accepted : (a : A) (end : ℕ) → Q a end → Outcome R Q (got a end)

pub then_outcome : {A B : Type 0} {R : ℕ → ℕ → Type 0} {P : A → ℕ → Type 0} {Q : B → ℕ → Type 0} {r : Reading A} {next : A → ℕ → Reading B}
    → Outcome R P r → ((a : A) (place : ℕ) → P a place → Outcome R Q (next a place)) → Outcome R Q (and_then r next)
then_outcome (refused question place h) k = refused question place h
then_outcome (accepted a end h) k = k a end h

pub outcome_got : {A : Type 0} {R : ℕ → ℕ → Type 0} {Q : A → ℕ → Type 0} {r : Reading A} {a : A} {end : ℕ} → Outcome R Q r
    → r ≡ got a end → Q a end
outcome_got {A} {R} {Q} {r} {a} {end} h e = go (subst (Outcome R Q) e h)
  where
    go : Outcome R Q (got a end) → Q a end
    go (accepted b last q) = q

pub outcome_stop : {A : Type 0} {R : ℕ → ℕ → Type 0} {Q : A → ℕ → Type 0} {r : Reading A} {question place : ℕ} → Outcome R Q r
    → r ≡ stop question place → R question place
outcome_stop {A} {R} {Q} {r} {question} {place} h e = go (subst (Outcome R Q) e h)
  where
    go : Outcome R Q (stop question place) → R question place
    go (refused q p x) = x

-- ---- one field

pub between-true : (least most v : ℕ) → least ≤ v → v ≤ most → between least most v ≡ true
unfolding between
between-true least most v l m = holds_true (between least most v) (and_both (leb least v) (leb v most) (le→leb least v l) (le→leb v most m))

pub true-between : (least most v : ℕ) → between least most v ≡ true → (least ≤ v) × (v ≤ most)
unfolding between
true-between least most v e = (
  leb→le least v (true_holds (leb least v) (and-true-first (leb least v) (leb v most) e)),
  leb→le v most (true_holds (leb v most) (and-true-second (leb least v) (leb v most) e)),
)

-- ---- several in a row

-- Each member of a list is so from where the one before it ended, in the state that those before it leave.
abbrev pub OneAfterOther : {S A : Type 0} → (S → ℕ → A → ℕ → Type 0) → (S → A → S) → S → ℕ → List A → ℕ → Type 0
OneAfterOther Q update s at [] end = at ≡ end
OneAfterOther Q update s at (a ∷ l) end = (mid : ℕ) × Q s at a mid × OneAfterOther Q update (update s a) mid l end

-- What one reading gives from an allowed place, with an allowed place after it, several in a row give too.
module _ {S A : Type 0} (R : ℕ → ℕ → Type 0) (I : ℕ → Type 0) (Q : S → ℕ → A → ℕ → Type 0) (one : S → ℕ → Reading A) (update : S → A → S)
    (step : (s : S) (at : ℕ) → I at → Outcome R (λ a end. Q s at a end × I end) (one s at)) where
  pub many_outcome : (n : ℕ) (s : S) (at : ℕ) → I at
      → Outcome R (λ l end. (length l ≡ n) × OneAfterOther Q update s at l end × I end) (read_many one update s n at)
  unfolding read_many
  many_outcome zero s at i = accepted [] at (refl, refl, i)
  many_outcome (suc n) s at i =
      then_outcome (step s at i)
      (λ a mid q. then_outcome (many_outcome n (update s a) mid q.1)
      (λ l end r. accepted (a ∷ l) end (ap suc r.0, (mid, q.0, r.1), r.2)))
