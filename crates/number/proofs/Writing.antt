-- The writer's and the width's loops against `encode`: what is left to write after i groups, and what the part then holds.
-- On plain numbers and lists: nothing here speaks of the code.
use Prim.Native.Nat.{ℕ, suc, ◌+◌, ◌-◌, ◌*◌, ◌^◌, ◌/◌, ◌%◌, ◌≤◌, ◌<◌}
use mathlib.Core.Path.{◌≡◌, refl, sym, ap, ◌∙◌, subst}
use mathlib.Core.List.{List, [], ◌∷◌, ◌++◌, append-nil}
use mathlib.Core.Logic.{⊎_elim}
use native.Mathlib.Omega.{arith}
use native.Mathlib.Nat.{eq-or-lt_of_le}
use native.Mathlib.Numerals.{add-one}
use lib.Pow.{shr_lt}
use lib.ListN.{length, get_or, take, drop, set, length-append, length-take, length-drop, drop_of_length-le}
use lib.Seq.{take_all, take-length, take-suc, drop-cons, set_at, append_snoc, length-take-le}
use borrow.Author.Tests.{lt-ltb, le-ltb}
use Rattle.std.specs.Prelude.{Option, Some, None}
use Rattle.number.specs.Number.{encode_in, encode, used, written, used_at, written_at}
use Rattle.number.proofs.laws.Splice.{written_fits, used_fits, written_short, used_short, written_at_short, used_at_short}

-- ---- a list from its i-th element on, which is x

module _ (e : List ℕ) (i : ℕ) {x : ℕ} {rest : List ℕ} (h : drop i e ≡ x ∷ rest) where
  next_there : i < length e
  next_there = omega (arith, length-drop i e, ap length h)

  next_is : x ≡ get_or e i 0
  next_is = let k : drop i e ≡ get_or e i 0 ∷ drop (suc i) e = drop-cons e i 0 next_there in cc

  next_rest : drop (i + 1) e ≡ rest
  next_rest =
      let k : drop i e ≡ get_or e i 0 ∷ drop (suc i) e = drop-cons e i 0 next_there in
      rw (add-one i) (cc)

next-last : (e : List ℕ) (i : ℕ) {x : ℕ} → drop i e ≡ x ∷ [] → i + 1 ≡ length e
next-last e i h = omega (arith, length-drop i e, ap length h)

-- ---- after i groups of n, the groups of m are left

pub record Left (n i m : ℕ) : Type 0 where
  pub ten : i < 10
  pub below : m < 2 ^ (7 * (10 - i))
  pub are : drop i (encode n) ≡ encode_in (10 - i) m

pub left_all : (n : ℕ) → n < 2 ^ 64 → Left n 0 n
unfolding encode
left_all n h = record { ten = omega arith; below = omega arith; are = refl }

module _ (n i m : ℕ) (l : Left n i m) where
  one_less : 10 - i ≡ suc (10 - (i + 1))
  one_less = let h = l.ten in omega arith

  -- Another group follows this one.
  pub left_next : 128 ≤ m → drop i (encode n) ≡ (128 + m % 128) ∷ encode_in (10 - (i + 1)) (m / 128)
  unfolding encode_in
  left_next h = l.are ∙ rw (one_less, le-ltb m 128)

  -- Then it is not the tenth.
  not_tenth : 128 ≤ m → i < 9
  not_tenth h = ⊎_elim
      (λ e. let k : m < 2 ^ 7 = subst (λ (x : ℕ). m < 2 ^ (7 * (10 - x))) e l.below in absurd (omega arith))
      (λ k. k)
      (eq-or-lt_of_le {n = i} {m = 9} (omega (arith, l.ten)))

  pub left_more : 128 ≤ m → Left n (i + 1) (m / 128)
  left_more h =
      let e : 7 * (10 - i) ≡ 7 * (10 - (i + 1)) + 7 = omega (arith, l.ten) in
      record {
        ten = omega (arith, not_tenth h);
        below = shr_lt (7 * (10 - (i + 1))) 7 (rw e at l.below);
        are = next_rest (encode n) i (left_next h);
      }

  -- No other group follows.
  pub left_last : m < 128 → drop i (encode n) ≡ m ∷ []
  unfolding encode_in
  left_last h = l.are ∙ rw (one_less, lt-ltb m 128)

  pub left_width : m < 128 → i + 1 ≡ length (encode n)
  left_width h = next-last (encode n) i (left_last h)

-- ---- e is being written over the front of d: in p, i elements are in place, and x comes next

module _ (d e p : List ℕ) (i : ℕ) {x : ℕ} {rest : List ℕ} (h : drop i e ≡ x ∷ rest) (hp : p ≡ take i e ++ drop i d)
    (fits : length e ≤ length d) where
  pub write-length : length p ≡ length d
  write-length =
      let k : i < length e = next_there e i h in
      ap length hp ∙ simp (length-append, length-take, length-drop) (omega arith)

  pub write-inside : i < length p
  write-inside =
      let k : i < length e = next_there e i h in
      omega (arith, write-length)

  pub write-more : set p i x ≡ take (i + 1) e ++ drop (i + 1) d
  write-more =
      let k : i < length e = next_there e i h in
      let l : length (take i e) ≡ i = length-take-le i e (omega arith) in
      let t : set (take i e ++ get_or d i 0 ∷ drop (suc i) d) i (get_or e i 0) ≡ take i e ++ get_or e i 0 ∷ drop (suc i) d =
      set_at (take i e) (get_or d i 0) (drop (suc i) d) (get_or e i 0) i l in
      rw (hp, next_is e i h, add-one i, drop-cons d i 0 (omega arith), t, take-suc e i 0 k)
      (sym (append_snoc (take i e) (get_or e i 0) (drop (suc i) d)))

pub write-last : (d e p : List ℕ) (i : ℕ) {x : ℕ} → drop i e ≡ x ∷ [] → p ≡ take i e ++ drop i d → length e ≤ length d
    → set p i x ≡ e ++ drop (length e) d
write-last d e p i h hp fits = write-more d e p i h hp fits ∙ rw (next-last e i h, take-length e)

-- ---- a number that fits a part, and one that does not

module _ (part : List ℕ) (n : ℕ) {w : ℕ} (e : w ≡ length (encode n)) where
  pub number_fits : {p : List ℕ} → p ≡ encode n ++ drop (length (encode n)) part → w ≤ length part
      → (Some w ≡ used part n) × (p ≡ written part n)
  number_fits {p} h l =
      let k : length (encode n) ≤ length part = omega arith in
      (ap Some e ∙ sym (used_fits part n k), h ∙ sym (written_fits part n k))

  pub number_short : length part < w → (None ≡ used part n) × (part ≡ written part n)
  number_short l =
      let k : length part < length (encode n) = omega arith in
      (sym (used_short part n k), sym (written_short part n k))

-- ---- the part from a cursor on, lent and given back

module _ (d : List ℕ) (at n : ℕ) where
  pub cursor_past : length d < at → (None ≡ used_at d at n) × (d ≡ written_at d at n)
  cursor_past h = (sym (used_at_short d at n (omega arith)), sym (written_at_short d at n (omega arith)))

  pub cursor_within : {r : Option ℕ} {p : List ℕ} → at ≤ length d → r ≡ used (take (length d - at) (drop at d)) n
      → p ≡ written (take (length d - at) (drop at d)) n
      → (r ≡ used_at d at n) × (take at d ++ (p ++ drop (length d - at) (drop at d)) ≡ written_at d at n)
  unfolding used_at written_at
  cursor_within {r} {p} h er ep =
      let t : take (length d - at) (drop at d) ≡ drop at d = take_all (length d - at) (drop at d) (omega (arith, length-drop at d)) in
      let z : drop (length d - at) (drop at d) ≡ [] = drop_of_length-le (drop at d) {i = length d - at} (omega (arith, length-drop at d)) in
      (er ∙ ap (λ (l : List ℕ). used l n) t, rw (ep, z, append-nil, t))
