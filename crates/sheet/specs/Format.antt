-- Formats: what is written as numbers, one after the other, which question each value fails, and what the numbers make; and the one answer
-- that bytes have where a format is due. Sheets and images are said so. How bytes are read is not said here.
use Rattle.std.specs.Prelude.{◌≡◌, Bool, cond, List, ℕ, ◌<◌, length}
use Rattle.std.proofs.Math.Option.{Option, none, some}
use Rattle.sheet.specs.Field.{Reading, stop, got}
use Rattle.sheet.specs.Spelling.{StandsAt}

-- Nothing more, and what the numbers made; or a number, with the question that a value fails there, if any, and what follows each value and
-- the place at which it stands.
pub data Format (A : Type 0) : Type 0 where
  done : A → Format A
  number : (ℕ → Option ℕ) → (ℕ → ℕ → Format A) → Format A

-- A number of which one question is asked, and whose place is of no use.
unfoldable pub field : {A : Type 0} → ℕ → (ℕ → Bool) → (ℕ → Format A) → Format A
field question allowed next = number (λ v. cond (allowed v) none (some question)) (λ v at. next v)

-- The answer to bytes, from a place on, where a format is due: what is made, up to the last byte; or the question that fails first, and its
-- place. One question is that of a number which is missing, one that of bytes left over. `Written n some` says that some bytes are written
-- for the number n.
module _ (Written : ℕ → List ℕ → Type 0) (bytes : List ℕ) (missing leftover : ℕ) {A : Type 0} where
  pub data FormatAnswer : Format A → ℕ → Reading A → Type 0 where
    made : {a : A} {at : ℕ} → at ≡ length bytes → FormatAnswer (done a) at (got a at)
    left_over : {a : A} {at : ℕ} → at < length bytes → FormatAnswer (done a) at (stop leftover at)
    no_number : {ask : ℕ → Option ℕ} {next : ℕ → ℕ → Format A} {at : ℕ} → ((v mid : ℕ) → StandsAt Written bytes at v mid → ⊥)
        → FormatAnswer (number ask next) at (stop missing at)
    not_allowed : {ask : ℕ → Option ℕ} {next : ℕ → ℕ → Format A} {at v mid question : ℕ} → StandsAt Written bytes at v mid
        → ask v ≡ some question → FormatAnswer (number ask next) at (stop question at)
    onward : {ask : ℕ → Option ℕ} {next : ℕ → ℕ → Format A} {at v mid : ℕ} {x : Reading A} → StandsAt Written bytes at v mid
        → ask v ≡ none → FormatAnswer (next v at) mid x → FormatAnswer (number ask next) at x
