-- Twins are read alike: they spell the same sheet, or reading refuses both with the same question at the same number. Bytes that are the
-- same numbers to their ends are twins.
use Rattle.std.specs.Prelude.{◌≡◌, refl, Bool, true, false, ◌&&◌, ℕ, ◌+◌, ◌-◌, ◌^◌, ◌≤◌, ◌<◌, eqb, Option, Some, None}
use Rattle.std.proofs.Common.{sym, subst, ◌∙◌, true≢false, ⊎_elim, length-drop, drop-drop, eqb-true}
use Rattle.std.proofs.Math.Path.{ap}
use mathlib.Core.List.{List, [], ◌∷◌, ◌++◌, append-nil}
use native.Mathlib.Omega.{arith}
use Rattle.std.proofs.Math.ListN.{length, take, drop, length-append}
use Rattle.std.proofs.Math.Seq.{drop-length, take-append_seam}
use Rattle.basics.proofs.laws.Order.{lt-or-le}
use Rattle.basics.proofs.laws.Truth.{and-true-first, and-true-second}
use Rattle.number.specs.Number.{encode, decode}
use Rattle.number.specs.declared.Number.{Number}
use Rattle.sheet.specs.Limits.{most_sheet_bytes}
use Rattle.sheet.specs.Sheet.{Sheet}
use Rattle.sheet.specs.Spelling.{Bytes, NumberBytes, NumberAt, NumbersAt, no_more, one_more, spell}
use Rattle.sheet.specs.Twins.{SameNumbers, same_rest, same_number, Twins, SamePlace}
use Rattle.sheet.proofs.laws.FieldLaws.{Stands, stands_first, stands_rest, stands_whole}
use Rattle.sheet.proofs.laws.NumberLaws.{encode-written, number-fewest, number-read, read-number, number_once}
use Rattle.sheet.proofs.laws.NumberLaws.{none_stand, first_stands, numbers-inside, numbers-append, numbers_once, numbers-between}
use Rattle.sheet.specs.Field.{Reading, stop, got}
use Rattle.sheet.specs.Format.{Format, FormatAnswer, made, left_over, no_number, not_allowed, onward}
use Rattle.sheet.specs.SheetFormat.{Contents, SheetAnswer, SpellsContents, Spells}
use Rattle.sheet.proofs.laws.SheetRanges.{Alike, both_made, both_ask, SameContents, sheet_alike}

-- ---- one number

-- The same bytes from two places on: a number that stands at the one stands at the other.
module _ (a b : List ℕ) (i j : ℕ) (e : drop i a ≡ drop j b) (n next : ℕ) (h : NumberAt a i n next) where
  past : i + (next - i) ≡ next
  past = let l = (number-read h).2 in omega arith

  -- As many bytes are left of both.
  enough : next - i ≤ length (drop j b)
  enough = omega (arith, ap length e, length-drop i a, h.inside)

  moved : NumberAt b j n (j + (next - i))
  moved =
      let l = (number-read h).2 in
      let same : j + (next - i) - j ≡ next - i = omega arith in
      record {
        inside = omega (arith, enough, length-drop j b);
        written = rw same (subst (λ (l : List ℕ). NumberBytes n (take (next - i) l)) e h.written);
      }

  rest_moved : drop next a ≡ drop (j + (next - i)) b
  rest_moved = ap (λ (k : ℕ). drop k a) (sym past) ∙ sym (drop-drop (next - i) i a) ∙ ap (drop (next - i)) e ∙ drop-drop (next - i) j b

module _ {a b : List ℕ} where
  -- A number that stands in the one stands in its twin, and both go on as twins.
  pub twin_number : {i j n next : ℕ} → SameNumbers a b i j → NumberAt a i n next → (other : ℕ) × NumberAt b j n other × SameNumbers a b next other
  twin_number {i} {j} {n} {next} (same_rest e) h = (j + (next - i), moved a b i j e n next h, same_rest (rest_moved a b i j e n next h))
  twin_number {i} {j} {n} {next} (same_number {n = m} {next = x} {other = y} k l r) h =
      let same = number_once k h in (
        y,
        subst (λ (v : ℕ). NumberAt b j v y) same.0 l,
        subst (λ (p : ℕ). SameNumbers a b p y) same.1 r,
      )

  pub twins_back : {i j : ℕ} → SameNumbers a b i j → SameNumbers b a j i
  twins_back (same_rest e) = same_rest (sym e)
  twins_back (same_number h k r) = same_number k h (twins_back r)

  -- Where the one is at its end, so is the other.
  pub twin_end : {i j : ℕ} → SameNumbers a b i j → length a ≤ i → length b ≤ j
  twin_end {i} {j} (same_rest e) l = omega (arith, ap length e, length-drop i a, length-drop j b)
  twin_end (same_number h k r) l = let x = (number-read h).2 in absurd (omega (arith, h.inside))

  -- The same list of numbers, and then the same bytes.
  pub numbers_same : {i j end other : ℕ} {ns : List ℕ} → NumbersAt a i ns end → NumbersAt b j ns other → drop end a ≡ drop other b
      → SameNumbers a b i j
  numbers_same no_more t e = same_rest (e ∙ ap (λ (k : ℕ). drop k b) (sym (none_stand t)))
  numbers_same (one_more h s) t e = let f = first_stands t in same_number h f.1 (numbers_same s f.2 e)

-- Bytes that are the same numbers to their ends are twins.
pub numbers_twins : {a b ns : List ℕ} → NumbersAt a 0 ns (length a) → NumbersAt b 0 ns (length b) → Twins a b
numbers_twins {a} {b} s t = numbers_same s t (drop-length a ∙ sym (drop-length b))

-- ---- twins that are written out

abbrev taken : ℕ → (ℕ → Bool) → Option Number → Bool
taken n rest None = false
taken n rest (Some m) = eqb m.value n && rest m.used

-- Whether from a place on these numbers are read, one after the other, to the end.
abbrev pub reads_as : List ℕ → List ℕ → ℕ → Bool
reads_as bytes [] at = eqb at (length bytes)
reads_as bytes (n ∷ ns) at = taken n (λ used. reads_as bytes ns (at + used)) (decode bytes at)

pub read_as : (bytes : List ℕ) → Bytes bytes → (ns : List ℕ) (at : ℕ) → reads_as bytes ns at ≡ true → NumbersAt bytes at ns (length bytes)
read_as bytes b [] at e = subst (NumbersAt bytes at []) (eqb-true at (length bytes) e) no_more
read_as bytes b (n ∷ ns) at e = go (λ p. read_as bytes b ns p) (decode bytes at) refl e
  where
    go : ((p : ℕ) → reads_as bytes ns p ≡ true → NumbersAt bytes p ns (length bytes)) → (m : Option Number) → decode bytes at ≡ m
        → taken n (λ used. reads_as bytes ns (at + used)) m ≡ true → NumbersAt bytes at (n ∷ ns) (length bytes)
    go later None d t = absurd (true≢false (sym t))
    go later (Some m) d t =
        let same = eqb-true m.value n (and-true-first (eqb m.value n) (reads_as bytes ns (at + m.used)) t) in
        one_more (subst (λ (k : ℕ). NumberAt bytes at k (at + m.used)) same (read-number bytes at b d))
        (later (at + m.used) (and-true-second (eqb m.value n) (reads_as bytes ns (at + m.used)) t))

-- ---- answers

-- A place of the one has one such place of the other.
pub same_place_once : (a b : List ℕ) {p q r : ℕ} → SamePlace a b p q → SamePlace a b p r → q ≡ r
same_place_once a b {q = q} {r = r} s t = numbers_once s.2 (subst (λ (ns : List ℕ). NumbersAt b 0 ns r) (numbers-between t.1 s.1) t.2)

-- The same question fails at a place that corresponds; or what is made of both is so related.
abbrev BothAnswer : List ℕ → List ℕ → {A : Type 0} → (A → A → Type 0) → Reading A → Reading A → Type 0
BothAnswer a b R (stop question p) (stop other q) = (question ≡ other) × SamePlace a b p q
BothAnswer a b R (stop question p) (got d end) = ⊥
BothAnswer a b R (got c end) (stop other q) = ⊥
BothAnswer a b R (got c end) (got d other) = R c d × (other ≡ length b)

module _ {a b : List ℕ} where
  twin_answers : {A : Type 0} {R : A → A → Type 0} {f g : Format A} {i j : ℕ} {x : Reading A} → SameNumbers a b i j → SamePlace a b i j
      → Alike (SamePlace a b) R f g → FormatAnswer NumberBytes a 3 6 f i x
      → (y : Reading A) × FormatAnswer NumberBytes b 3 6 g j y × BothAnswer a b R x y
  twin_answers {j = j} t s (both_made {b = d} r) (made e) =
      let end : j ≡ length b = omega (arith, numbers-inside (omega arith) s.2, twin_end t (omega arith)) in
      (got d j, made end, (r, end))
  twin_answers {i = i} {j = j} t s (both_made r) (left_over l) =
      let inside : j < length b = ⊎_elim (λ k. k) (λ k. absurd (omega (arith, twin_end (twins_back t) k))) (lt-or-le j (length b)) in
      (stop 6 j, left_over inside, (refl, s))
  twin_answers {j = j} t s (both_ask e k h) (no_number n) =
      (stop 3 j, no_number (λ v mid m. let z = twin_number (twins_back t) m in n v z.0 z.1), (refl, s))
  twin_answers {j = j} t s (both_ask e k h) (not_allowed {v = v} {question = question} n f) =
      let z = twin_number t n in (stop question j, not_allowed z.1 (sym (e v) ∙ f), (refl, s))
  twin_answers {i = i} {j = j} t s (both_ask e k h) (onward {v = v} n f r) =
      let z = twin_number t n in
      let after : SamePlace a b _ z.0 =
      (s.0 ++ (v ∷ []), numbers-append s.1 (one_more n no_more), numbers-append s.2 (one_more z.1 no_more)) in
      let y = twin_answers z.2 after (h v i j f s) r in
      (y.0, onward z.1 (sym (e v) ∙ f) y.1, y.2)

  module _ (t : Twins a b) where
    -- Twins answer alike.
    sheets_answer : {x : Reading Contents} → SheetAnswer a x
        → (y : Reading Contents) × SheetAnswer b y × BothAnswer a b (SameContents (SamePlace a b)) x y
    sheets_answer h = twin_answers t ([], no_more, no_more) (sheet_alike (SamePlace a b)) h

    -- Twins within the limit spell the same sheet, at places that correspond.
    pub twin_contents : (c : Contents) → length b ≤ most_sheet_bytes → SpellsContents a c
        → (d : Contents) × SpellsContents b d × SameContents (SamePlace a b) c d
    twin_contents c l h = let r = sheets_answer h.answered in by_reading r.0 r.1 r.2
      where
        by_reading : (y : Reading Contents) → SheetAnswer b y → BothAnswer a b (SameContents (SamePlace a b)) (got c (length a)) y
            → (d : Contents) × SpellsContents b d × SameContents (SamePlace a b) c d
        by_reading (got d end) k r =
            (d, record { bytes_most = l; answered = subst (λ (p : ℕ). SheetAnswer b (got d p)) r.1 k }, r.0)
        by_reading (stop _ _) k r = elim r [ ]

    pub twin_spells : {s : Sheet} → length b ≤ most_sheet_bytes → Spells a s → Spells b s
    twin_spells l h = let r = twin_contents h.0 l h.1 in (r.0, r.1, sym r.2.same_sheet ∙ h.2)

    -- Twins are refused alike: with the same question, at the same number.
    pub twin_refused : {question place : ℕ} → SheetAnswer a (stop question place)
        → (other : ℕ) × SheetAnswer b (stop question other) × SamePlace a b place other
    twin_refused {question} {place} h = let r = sheets_answer h in by_reading r.0 r.1 r.2
      where
        by_reading : (y : Reading Contents) → SheetAnswer b y → BothAnswer a b (SameContents (SamePlace a b)) (stop question place) y
            → (other : ℕ) × SheetAnswer b (stop question other) × SamePlace a b place other
        by_reading (stop other q) k r = (q, subst (λ (n : ℕ). SheetAnswer b (stop n q)) (sym r.0) k, r.1)
        by_reading (got _ _) k r = elim r [ ]

-- ---- the twin in the fewest bytes

module _ {bytes : List ℕ} where
  -- Numbers below 2^64 in their fewest bytes stand where they are written.
  fewest_stand : {other : List ℕ} {i j at end : ℕ} {ns : List ℕ} → NumbersAt other i ns j → Stands bytes at ns end → NumbersAt bytes at ns end
  unfolding spell
  fewest_stand {at = at} {end = end} no_more s = let e : end ≡ at = omega (arith, s.until) in rw e no_more
  fewest_stand {at = at} {end = end} (one_more {n = n} {ns = ns} h r) s =
      let first = stands_first bytes at (n ∷ []) ns end s in
      one_more (fewest_at n h.written.0 first) (fewest_stand r (stands_rest bytes at (n ∷ []) ns end s))
    where
      fewest_at : (n : ℕ) → n < 2 ^ 64 → {mid : ℕ} → Stands bytes at (n ∷ []) mid → NumberAt bytes at n mid
      fewest_at n below {mid} f =
          let none : encode n ++ [] ≡ encode n = append-nil (encode n) in
          let width : mid - at ≡ length (encode n) = omega (arith, f.until, ap length none) in
          let there : drop at bytes ≡ encode n ++ drop mid bytes = f.there ∙ ap (λ (l : List ℕ). l ++ drop mid bytes) none in
          let same : take (mid - at) (drop at bytes) ≡ encode n =
          ap (λ (k : ℕ). take k (drop at bytes)) width ∙ ap (take (length (encode n))) there ∙ take-append_seam (encode n) (drop mid bytes) in
          record { inside = f.inside; written = rw same (encode-written n below) }

  -- They are no more than any other bytes of the same numbers.
  fewest_no_longer : {at end : ℕ} {ns : List ℕ} → NumbersAt bytes at ns end → at + length (spell ns) ≤ end
  unfolding spell
  fewest_no_longer no_more = omega arith
  fewest_no_longer (one_more {n = n} {ns = ns} h r) =
      omega (arith, number-fewest h, length-append (encode n) (spell ns), fewest_no_longer r)

  -- The numbers of bytes that answer to their end.
  answer_numbers : {A : Type 0} {missing leftover : ℕ} {f : Format A} {at : ℕ} {c : A} {end : ℕ} → FormatAnswer NumberBytes bytes missing leftover f at (got c end)
      → (ns : List ℕ) × NumbersAt bytes at ns end
  answer_numbers (made e) = ([], no_more)
  answer_numbers (onward {v = v} n e r) = let s = answer_numbers r in (v ∷ s.0, one_more n s.1)

-- A well-formed sheet has a twin in the fewest bytes, which spells the same sheet.
pub fewest_twin : (bytes : List ℕ) (s : Sheet) → Spells bytes s
    → (ns : List ℕ) × Twins bytes (spell ns) × Spells (spell ns) s × (length (spell ns) ≤ length bytes)
fewest_twin bytes s h =
    let n = answer_numbers h.1.answered in
    let other : List ℕ = spell n.0 in
    let shorter : length other ≤ length bytes = omega (arith, fewest_no_longer n.1) in
    let twins = numbers_twins n.1 (fewest_stand n.1 ((stands_whole other n.0).1 refl)) in
    (n.0, twins, twin_spells twins (omega (arith, h.1.bytes_most)) h, shorter)
