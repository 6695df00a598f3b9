-- The part of the image buffer that is handed back and the three numbers, for each case of the answer.
use mathlib.Core.Path.{◌≡◌, refl, sym, ap, ◌∙◌}
use mathlib.Core.List.{List, [], ◌∷◌, ◌++◌}
use Prim.Native.Nat.{ℕ, ◌≤◌}
use native.Mathlib.Omega.{arith}
use lib.ListN.{length, take, drop, length-append}
use lib.Seq.{take-append_seam}
use Rattle.image.specs.Write as page
use Rattle.image.specs.Answer.{numbers_of}
use Rattle.image.specs.Write.{write_answer, image_after, written_part}
use Rattle.image_writer.specs.Answer.{answer_of, case_of}
use Rattle.image_writer.proofs.laws.AnswerLaws.{case_done, case_answer}
use Rattle.std.specs.Prelude.{Ok, Err}
use Rattle.image_writer.specs.declared.WriteError.{WriteError}

none_written : (m : page.Written) {error : WriteError} → case_of m ≡ Err error → [] ≡ written_part m
unfolding written_part case_of
none_written (page.refused number place) e = refl
none_written (page.too_long needed) e = refl
none_written (page.written image) e = cc

module _ (m : page.Written) where
  -- What was written stands at the front of the buffer.
  pub part_done : {written : ℕ} (entry exit : List ℕ) → case_of m ≡ Ok written → exit ≡ image_after m entry
      → (written ≤ length exit) × (take written exit ≡ written_part m) × (0 ∷ 0 ∷ written ∷ [] ≡ numbers_of (write_answer m))
  unfolding image_after written_part write_answer numbers_of
  part_done {written} entry exit e f = let d = case_done m e in made d.0 d.1 d.2
    where
      made : (image : List ℕ) → m ≡ page.written image → written ≡ length image
          → (written ≤ length exit) × (take written exit ≡ written_part m) × (0 ∷ 0 ∷ written ∷ [] ≡ numbers_of (write_answer m))
      made image way n =
          let rest = drop (length image) entry in
          let x : exit ≡ image ++ rest = f ∙ ap (λ (w : page.Written). image_after w entry) way in (
            rw (n, x) (omega (arith, length-append image rest)),
            rw (n, x, way) (take-append_seam image rest),
            rw (n, way),
          )

  -- Otherwise nothing is handed back.
  pub part_error : {error : WriteError} → case_of m ≡ Err error
      → ([] ≡ written_part m) × (numbers_of (answer_of (Err error)) ≡ numbers_of (write_answer m))
  part_error {error} e = (none_written m e, ap numbers_of (sym (ap answer_of e) ∙ case_answer m))
