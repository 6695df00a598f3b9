-- The cases of the code's answer and the ways in which writing ends agree.
use Rattle.std.specs.Prelude.{◌≡◌, refl, List, ℕ, length, Ok, Err}
use Rattle.std.proofs.Common.{ap}
use Rattle.image.specs.Write.{write_answer}
use Rattle.image.specs.Write as page
use Rattle.sheet_reader.specs.declared.Refusal.{Refusal}
use Rattle.image_writer.specs.declared.WriteError.TheVariants.{TooLong, Refused}
use Rattle.image_writer.specs.Answer.{answer_of, case_of}

-- What a case tells of the way to end.
pub case_done : (m : page.Written) {written : ℕ} → case_of m ≡ Ok written → (image : List ℕ) × (m ≡ page.written image) × (written ≡ length image)
unfolding case_of
case_done (page.refused number place) e = cc
case_done (page.too_long needed) e = cc
case_done (page.written image) e = (image, refl, cc)

pub case_too_long : (m : page.Written) {needed : ℕ} → case_of m ≡ Err (TooLong needed) → m ≡ page.too_long needed
unfolding case_of
case_too_long (page.refused number place) e = cc
case_too_long (page.too_long needed) e = cc
case_too_long (page.written image) e = cc

pub case_refused : (m : page.Written) {refusal : Refusal} → case_of m ≡ Err (Refused refusal) → m ≡ page.refused refusal.question refusal.place
unfolding case_of
case_refused (page.refused number place) {refusal} e =
    let same : ◌≡◌ {A = Refusal} (record { question = number; place = place }) refusal = cc in
    ap (λ (x : Refusal). page.refused x.question x.place) same
case_refused (page.too_long needed) e = cc
case_refused (page.written image) e = cc

-- A case's answer is that of the way to end.
pub case_answer : (m : page.Written) → answer_of (case_of m) ≡ write_answer m
unfolding answer_of case_of write_answer
case_answer (page.refused number place) = refl
case_answer (page.too_long needed) = refl
case_answer (page.written image) = refl
