-- The cases of the code's answers and the ways in which checking ends agree.
use Rattle.std.specs.Prelude.{◌≡◌, refl, Result, Ok, Err}
use Rattle.std.specs.Result.{result_and}
use Rattle.std.proofs.Common.{ap}
use Rattle.sheet.specs.Sheet.{Sheet}
use Rattle.image.specs.Check.{check_answer}
use Rattle.image.specs.Check as page
use Rattle.sheet_reader.specs.declared.Refusal.{Refusal}
use Rattle.sheet_checker.specs.Steps.{PassedParts}
use Rattle.sheet_checker.specs.declared.CheckedSheet.{CheckedSheet}
use Rattle.sheet_checker.specs.Answer.{answer_of, case_of, Ends}

-- A case's answer is that of the way to end.
pub case_answer : (v : page.Verdict) → answer_of (case_of v) ≡ check_answer v
unfolding answer_of case_of check_answer
case_answer (page.failed number place) = refl
case_answer (page.passed s) = refl

-- Whether the sheet passes is the case of the way to end.
pub ends_case : (v : page.Verdict) (r : Result CheckedSheet Refusal) → Ends v r → result_and r (Ok tt) ≡ case_of v
unfolding case_of
ends_case (page.failed number place) r h = rw h refl
ends_case (page.passed s) (Ok k) h = refl
ends_case (page.passed s) (Err refusal) h = elim h [ ]

-- Back from the answer: checking named a question, or let the sheet pass.
module _ {r : Result CheckedSheet Refusal} where
  pub failed_by : (v : page.Verdict) {refusal : Refusal} → Ends v r → r ≡ Err refusal → v ≡ page.failed refusal.question refusal.place
  failed_by (page.failed number place) {refusal} h e =
      let same : ◌≡◌ {A = Refusal} (record { question = number; place = place }) refusal = cc in
      ap (λ (x : Refusal). page.failed x.question x.place) same
  failed_by (page.passed s) h e = absurd (rw e at h)

  pub passed_parts : (v : page.Verdict) {k : CheckedSheet} → Ends v r → r ≡ Ok k → (s : Sheet) × (v ≡ page.passed s) × PassedParts s k
  passed_parts (page.failed number place) h e = cc
  passed_parts (page.passed s) h e = (s, refl, rw e at h)
