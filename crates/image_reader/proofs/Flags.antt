-- Laws of sets of flags: a flag more, and the list that a set holds.
use mathlib.Core.Path.{◌≡◌, refl, sym, ap, ◌∙◌}
use mathlib.Core.Bool.{Bool, true, false, ◌||◌}
use mathlib.Core.Logic.{⊎_elim}
use mathlib.Core.List.{List, [], ◌∷◌, ◌++◌}
use Prim.Native.Nat.{ℕ, zero, suc, ◌+◌, ◌^◌, ◌<◌}
use native.Mathlib.Omega.{arith}
use native.Mathlib.Nat.{add-zero, zero-add}
use lib.ListN.{length, get_or, length-append, get_or-eq_default, get_or-append}
use lib.Seq.{get_or_at, ext_get_or}
use borrow.Author.Tests.{eq-eqb, ne_eqb}
use Rattle.basics.specs.Bits.{bit}
use Rattle.basics.proofs.laws.BitLaws.{bit-or, bit_one, bit-zero}
use Rattle.basics.proofs.laws.Order.{compare_cases}
use Rattle.image_reader.specs.Answers.{with_flag}
use Rattle.image_reader.specs.Tables.{listed, held_flags, FlagsOf}

or-false : (b : Bool) → (b || false) ≡ b
or-false true = refl
or-false false = refl

pub flag_other : (s i : ℕ) (b : Bool) (k : ℕ) → (i ≡ k → ⊥) → bit (with_flag s i b) k ≡ bit s k
unfolding with_flag
flag_other s i true k h = rw (bit-or s (2 ^ i) k, bit_one i k, ne_eqb i k h) (or-false (bit s k))
flag_other s i false k h = refl

pub flag_same : (s i : ℕ) (b : Bool) → bit s i ≡ false → bit (with_flag s i b) i ≡ b
unfolding with_flag
flag_same s i true h = rw (bit-or s (2 ^ i) i, bit_one i i, eq-eqb i i refl, h)
flag_same s i false h = h

-- One entry more at the end of a list.
module _ {A : Type 0} (l : List A) (a d : A) where
  pub snoc_below : (k : ℕ) → k < length l → get_or (l ++ (a ∷ [])) k d ≡ get_or l k d
  snoc_below k h = get_or-append l (a ∷ []) d k h

  pub snoc_last : (k : ℕ) → length l ≡ k → get_or (l ++ (a ∷ [])) k d ≡ a
  snoc_last k h = get_or_at l a [] d k h

  pub snoc_above : (k : ℕ) → length l < k → get_or (l ++ (a ∷ [])) k d ≡ d
  snoc_above k h = get_or-eq_default (l ++ (a ∷ [])) d (omega (arith, length-append l (a ∷ [])))

pub flags_none : {A : Type 0} (f : A → Bool) (d : A) → f d ≡ false → FlagsOf f d 0 []
flags_none f d h k = bit-zero k ∙ sym h

pub flags_more : {A : Type 0} (f : A → Bool) (d a : A) (s i : ℕ) (l : List A) → f d ≡ false → length l ≡ i → FlagsOf f d s l
    → {s' : ℕ} → s' ≡ with_flag s i (f a) → FlagsOf f d s' (l ++ (a ∷ []))
flags_more f d a s i l hd hl h e k =
    ap (λ (x : ℕ). bit x k) e ∙ ⊎_elim below (⊎_elim last above) (compare_cases k i)
  where
    below : k < i → bit (with_flag s i (f a)) k ≡ f (get_or (l ++ (a ∷ [])) k d)
    below m = flag_other s i (f a) k (λ e. omega arith) ∙ h k ∙ ap f (sym (snoc_below l a d k (omega arith)))

    last : k ≡ i → bit (with_flag s i (f a)) k ≡ f (get_or (l ++ (a ∷ [])) k d)
    last e =
        ap (bit (with_flag s i (f a))) e
        ∙ flag_same s i (f a) (h i ∙ ap f (get_or-eq_default l d (omega arith)) ∙ hd)
        ∙ ap f (sym (snoc_last l a d k (omega arith)))

    above : i < k → bit (with_flag s i (f a)) k ≡ f (get_or (l ++ (a ∷ [])) k d)
    above m =
        flag_other s i (f a) k (λ e. omega arith)
        ∙ h k
        ∙ ap f (get_or-eq_default l d (omega arith) ∙ sym (snoc_above l a d k (omega arith)))

-- ---- the list that a function gives

pub length-listed : {A : Type 0} (f : ℕ → A) (i n : ℕ) → length (listed f i n) ≡ n
unfolding listed
length-listed f i zero = refl
length-listed f i (suc n) = ap suc (length-listed f (suc i) n)

pub get_or-listed : {A : Type 0} (f : ℕ → A) (i n k : ℕ) (d : A) → k < n → get_or (listed f i n) k d ≡ f (i + k)
unfolding listed
get_or-listed f i zero k d h = absurd (omega arith)
get_or-listed f i (suc n) zero d h = ap f (sym (add-zero i))
get_or-listed f i (suc n) (suc k) d h = get_or-listed f (suc i) n k d (omega arith) ∙ ap f (omega arith)

pub listed_is : {A : Type 0} (f : ℕ → A) (d : A) (n : ℕ) (l : List A) → length l ≡ n → ((k : ℕ) → k < n → f k ≡ get_or l k d)
    → l ≡ listed f 0 n
listed_is f d n l hl h =
    ext_get_or d l (listed f 0 n) (hl ∙ sym (length-listed f 0 n))
    (λ k m. sym (h k (omega arith)) ∙ sym (get_or-listed f 0 n k d (omega arith) ∙ ap f (zero-add k)))

-- So many flags as a set.
pub record FlagsHeld (count s : ℕ) (l : List Bool) : Type 0 where
  pub size : length l ≡ count
  pub bits : FlagsOf (λ b. b) false s l

pub held-none : FlagsHeld 0 0 []
held-none = record { size = refl; bits = flags_none (λ b. b) false refl }

pub held-more : (i s s' : ℕ) (l : List Bool) (b : Bool) → s' ≡ with_flag s i b → FlagsHeld i s l → FlagsHeld (i + 1) s' (l ++ (b ∷ []))
held-more i s s' l b e h = record {
  size = length-append l (b ∷ []) ∙ ap (λ (n : ℕ). n + 1) h.size;
  bits = flags_more (λ b. b) false b s i l refl h.size h.bits e;
}

pub held_list : (n s : ℕ) (l : List Bool) → FlagsHeld n s l → l ≡ held_flags s n
held_list n s l h = listed_is (bit s) false n l h.size (λ k m. h.bits k)
