-- What equal answers tell: their parts are equal.
use Rattle.std.specs.Prelude.{◌≡◌, ℕ, Result, Ok, Err, IsErrAnd}
use Rattle.std.proofs.Common.{ap}
use Rattle.sheet.specs.Field.{Reading, stop}
use Rattle.sheet_reader.specs.Reads.{refused}
use Rattle.sheet_reader.specs.Turns.{was_got, turned}
use Rattle.sheet_reader.specs.declared.Refusal.{Refusal}
use Rattle.sheet_reader.specs.declared.Got.{Got}
use Rattle.sheet_reader.specs.declared.ExpressionTurn.{ExpressionTurn}

-- What a `?` hands on is the error that it found.
pub passed_on : {A E : Type 0} (r : Result A E) {e : E} → IsErrAnd r (λ x. x ≡ e) → r ≡ Err e
passed_on (Ok a) h = elim h [ ]
passed_on (Err x) h = ap Err h

-- As the definition's refusals.
pub told_stop : {A B : Type 0} {q p question place : ℕ} → ◌≡◌ {A = Result A Refusal} (refused q p) (refused question place)
    → ◌≡◌ {A = Reading B} (stop q p) (stop question place)
told_stop {A} {B} {q} {p} {question} {place} e =
    let same : ◌≡◌ {A = Refusal} (record { question = q; place = p }) (record { question = question; place = place }) = cc in
    ap (λ (r : Refusal). stop r.question r.place) same

module _ {A : Type 0} {a b : A} {m n : ℕ} (e : was_got a m ≡ was_got b n) where
  same : ◌≡◌ {A = Got A} (record { value = a; next = m }) (record { value = b; next = n })
  same = cc

  pub told_value : a ≡ b
  told_value = ap (λ (g : Got A). g.value) same

  pub told_next : m ≡ n
  told_next = ap (λ (g : Got A). g.next) same

module _ {s t i k m n : ℕ} (e : turned s i m ≡ turned t k n) where
  same_turn : ◌≡◌ {A = ExpressionTurn} (record { tag = s; number = i; next = m }) (record { tag = t; number = k; next = n })
  same_turn = cc

  pub told_tag : s ≡ t
  told_tag = ap (λ (r : ExpressionTurn). r.tag) same_turn

  pub told_number : i ≡ k
  told_number = ap (λ (r : ExpressionTurn). r.number) same_turn

  pub told_turn_next : m ≡ n
  told_turn_next = ap (λ (r : ExpressionTurn). r.next) same_turn
