-- The laws of the code's fields: each way through reading one, and what a field that was read tells of the definition's.
use mathlib.Core.Path.{◌≡◌, refl, sym, ap, ap₂, subst, ◌∙◌}
use mathlib.Core.Bool.{Bool, true, false, cond, ◌&&◌}
use mathlib.Core.List.{List}
use Prim.Native.Nat.{ℕ, suc, ◌+◌, ◌-◌, ◌≤◌, ◌<◌}
use native.Mathlib.Numerals.{add-one}
use native.Mathlib.Omega.{arith}
use lib.Dec.{ltb, leb, leb-zero, leb-suc-suc}
use lib.ListN.{length}
use Rattle.std.specs.Prelude.{Result, Option, Some, None}
use borrow.Author.Tests.{lt-ltb, le-ltb, le-leb, lt-leb}
use Rattle.number.specs.Number.{decode}
use Rattle.number.proofs.laws.Laws.{decode_within}
use Rattle.number.specs.declared.Number.{Number}
use Rattle.sheet.specs.Field.{Reading, stop, got, between, field_of, read_field}
use Rattle.sheet.proofs.laws.FieldLaws.{Outcome, accepted}
use Rattle.sheet.proofs.laws.FieldLaws as outcome
use Rattle.sheet.specs.Reading.{sheet_field}
use Rattle.sheet_reader.proofs.Told.{told_stop, told_value, told_next}
use Rattle.sheet_reader.specs.declared.Refusal.{Refusal}
use Rattle.sheet_reader.specs.declared.Got.{Got}
use Rattle.sheet_reader.specs.Reads.{refused}
use Rattle.sheet_reader.specs.Turns.{in_range, was_got, answer}

-- ---- the ways through reading a field

and-false : (a : Bool) → (a && false) ≡ false
and-false true = refl
and-false false = refl

module _ (least limit : ℕ) (bytes : List ℕ) (at : ℕ) where
  pub field_unreadable : decode bytes at ≡ None → refused 3 at ≡ answer (sheet_field (in_range least limit) bytes at)
  unfolding sheet_field read_field field_of answer
  field_unreadable e = rw e

  module _ {n : Number} (e : decode bytes at ≡ Some n) where
    pub field_over : limit ≤ n.value → refused 4 at ≡ answer (sheet_field (in_range least limit) bytes at)
    unfolding sheet_field read_field field_of answer in_range
    field_over h = rw (e, le-ltb n.value limit, and-false (leb least n.value))

    pub field_under : n.value < least → refused 4 at ≡ answer (sheet_field (in_range least limit) bytes at)
    unfolding sheet_field read_field field_of answer in_range
    field_under h = rw (e, lt-leb least n.value)

    pub field_fits : least ≤ n.value → n.value < limit → was_got n.value (at + n.used) ≡ answer (sheet_field (in_range least limit) bytes at)
    unfolding sheet_field read_field field_of answer in_range
    field_fits l h = rw (e, le-leb least n.value, lt-ltb n.value limit)

-- ---- what an answer tells

-- The code's range allows just what the definition's test allows.
pub record Same (least limit : ℕ) (allowed : ℕ → Bool) : Type 0 where
  pub same : (v : ℕ) → in_range least limit v ≡ allowed v

pub up_to : (least most : ℕ) → Same least (suc most) (between least most)
unfolding in_range between
up_to least most = record { same = λ v. ap (λ (b : Bool). leb least v && b) (leb-suc-suc v most) }

-- The same with the code's sum for the limit.
pub up_to_sum : (least most : ℕ) → Same least (most + 1) (between least most)
up_to_sum least most = rw (add-one most) (up_to least most)

pub below : (bound : ℕ) → Same 0 bound (λ k. ltb k bound)
unfolding in_range
below bound = record { same = λ v. rw (leb-zero v) }

agree : (f g : ℕ → Bool) → ((v : ℕ) → f v ≡ g v) → (bytes : List ℕ) (at : ℕ) → sheet_field f bytes at ≡ sheet_field g bytes at
unfolding sheet_field read_field field_of
agree f g h bytes at = go (decode bytes at)
  where
    go : (n : Option Number) → field_of 3 4 f at n ≡ field_of 3 4 g at n
    go None = refl
    go (Some n) = rw (h n.value)

pub answer-got : {A : Type 0} (m : Reading A) {a : A} {next : ℕ} → answer m ≡ was_got a next → m ≡ got a next
unfolding answer
answer-got (stop q p) e = cc
answer-got (got v next) e = ap₂ got (told_value e) (told_next e)

pub answer_unfit : {A : Type 0} (m : Reading A) {question place : ℕ} → answer m ≡ refused question place → m ≡ stop question place
unfolding answer
answer_unfit (stop q p) e = told_stop e
answer_unfit (got v next) e = cc

module _ {least limit : ℕ} {allowed : ℕ → Bool} (s : Same least limit allowed) (bytes : List ℕ) (at : ℕ) where
  pub field_same : sheet_field (in_range least limit) bytes at ≡ sheet_field allowed bytes at
  field_same = agree (in_range least limit) allowed s.same bytes at

  -- By the code's answer r.
  module _ {r : Result (Got ℕ) Refusal} (h : r ≡ answer (sheet_field (in_range least limit) bytes at)) where
    pub field-got : {v next : ℕ} → r ≡ was_got v next → sheet_field allowed bytes at ≡ got v next
    field-got e = sym field_same ∙ answer-got _ (sym h ∙ e)

    pub field_unfit : {question place : ℕ} → r ≡ refused question place → sheet_field allowed bytes at ≡ stop question place
    field_unfit e = sym field_same ∙ answer_unfit _ (sym h ∙ e)

-- A field that was read: its value is allowed, and the place after it lies within the bytes.
pub record FieldKept (allowed : ℕ → Bool) (bytes : List ℕ) (v next : ℕ) : Type 0 where
  pub holds : allowed v ≡ true
  pub inside : next ≤ length bytes

pub field-kept : (allowed : ℕ → Bool) (bytes : List ℕ) (at : ℕ) {v next : ℕ} → sheet_field allowed bytes at ≡ got v next
    → FieldKept allowed bytes v next
unfolding sheet_field read_field field_of
field-kept allowed bytes at {v} {next} = go (decode bytes at) refl
  where
    chosen : (n : Number) → decode bytes at ≡ Some n → (b : Bool) → allowed n.value ≡ b
        → cond b (got n.value (at + n.used)) (stop 4 at) ≡ got v next → FieldKept allowed bytes v next
    chosen n d true a e =
        let i : n.value ≡ v = cc in
        let k : at + n.used ≡ next = cc in
        record { holds = subst (λ (k : ℕ). allowed k ≡ true) i a; inside = omega (arith, (decode_within bytes at d).inside) }
    chosen n d false a e = cc

    go : (n : Option Number) → decode bytes at ≡ n → field_of 3 4 allowed at n ≡ got v next → FieldKept allowed bytes v next
    go None d e = cc
    go (Some n) d e = chosen n d (allowed n.value) refl e

-- The same of a reading, whatever a refusal is.
abbrev pub Any : ℕ → ℕ → Type 0
Any question place = Unit

pub field-inside : (allowed : ℕ → Bool) (bytes : List ℕ) (at : ℕ) → Outcome Any (FieldKept allowed bytes) (sheet_field allowed bytes at)
field-inside allowed bytes at = go (sheet_field allowed bytes at) refl
  where
    go : (m : Reading ℕ) → sheet_field allowed bytes at ≡ m → Outcome Any (FieldKept allowed bytes) m
    go (stop q p) e = outcome.refused q p tt
    go (got v next) e = accepted v next (field-kept allowed bytes at e)

-- Numbers are not computed at a variable.
pub pred_suc : (n : ℕ) → suc n - 1 ≡ n
pred_suc n = omega arith
