-- Which numbers checking answers with: 0 where the sheet passes, else 1 to 10. So the number tells how checking ended; when it ends so is
-- said in Checks.
use Rattle.std.specs.Prelude.{◌≡◌, refl, List, ◌⊎◌, ℕ, ◌≤◌}
use Rattle.std.proofs.Common.{inl, inr, arith}
use Rattle.sheet.specs.Sheet.{Sheet}
use Rattle.sheet.proofs.laws.ReadingLaws.{refused_number}
use Rattle.types.specs.Types.{LanguageType}
use Rattle.types.specs.Nodes.{Node}
use Rattle.types.specs.TypeFaults.{Fails, not_guarded, not_separable, not_apart, not_self_separable}
use Rattle.image.specs.Answer.{Answer}
use Rattle.image.specs.Check.{work_bytes}
use Rattle.image.specs.Checks.{Passable, Checks, short_work, long_sheet, not_a_sheet, empty_rule, untyped, passes}

fault_number : {types : List LanguageType} {x : Node} {question : ℕ} → Fails types x question → (8 ≤ question) × (question ≤ 10)
fault_number not_guarded = (omega arith, omega arith)
fault_number (not_separable n) = (omega arith, omega arith)
fault_number (not_apart n) = (omega arith, omega arith)
fault_number (not_self_separable n) = (omega arith, omega arith)

-- A question that fails has a number from 1 to 10.
abbrev pub OneToTen : ℕ → Type 0
OneToTen question = (1 ≤ question) × (question ≤ 10)

-- The sheet passes, with 0; or a question fails.
pub check_cases : {bytes : List ℕ} {work : ℕ} {a : Answer} → Checks bytes work a
    → ((a.number ≡ 0) × (work_bytes ≤ work) × ((s : Sheet) × Passable bytes s)) ⊎ OneToTen a.number
check_cases (short_work l) = inr (omega arith, omega arith)
check_cases (long_sheet l m) = inr (omega arith, omega arith)
check_cases {bytes} (not_a_sheet question place l m r) = let a = refused_number bytes question place r in inr (omega arith, omega arith)
check_cases (empty_rule c k l m w) = inr (omega arith, omega arith)
check_cases (untyped c node q l m n x) = let z = fault_number x.fails in inr (omega arith, omega arith)
check_cases (passes s l a) = inl (refl, l, (s, a))

-- Checking counts nothing.
pub check_amount : {bytes : List ℕ} {work : ℕ} {a : Answer} → Checks bytes work a → a.amount ≡ 0
check_amount (short_work l) = refl
check_amount (long_sheet l m) = refl
check_amount (not_a_sheet question place l m r) = refl
check_amount (empty_rule c k l m w) = refl
check_amount (untyped c node q l m n x) = refl
check_amount (passes s l a) = refl
