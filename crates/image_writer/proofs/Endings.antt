-- One law for each way in which writing ends, and that what checking hands on is what an image is made from.
use mathlib.Core.Path.{◌≡◌, refl, ap, ◌∙◌}
use mathlib.Core.List.{List, ◌++◌}
use Prim.Native.Nat.{ℕ, ◌≤◌, ◌<◌}
use native.Mathlib.Omega.{arith}
use Rattle.std.specs.Prelude.{Result, Ok, Err}
use lib.ListN.{length, drop}
use borrow.Author.Tests.{le-leb, lt-leb}
use Rattle.sheet.specs.Sheet.{Sheet}
use Rattle.types.proofs.laws.Typing.{sheet_typed_iff}
use Rattle.lexer.specs.RuleOrder.{image_sheet}
use Rattle.lexer.proofs.laws.PositionBounds.{positions_in_range}
use Rattle.columns.specs.declared.PositionColumns.{PositionColumns}
use Rattle.position_finder.specs.Answer.{PositionsOf}
use Rattle.image.specs.Check as check
use Rattle.image.specs.Write as page
use Rattle.image.specs.Write.{fitted, after_checking, write_answer, image_after}
use Rattle.image.specs.Image.{plain_image, image_of, image_bytes}
use Rattle.image.proofs.laws.ImageLength.{plain_fits}
use Rattle.sheet_checker.specs.Answer as checker
use Rattle.sheet_checker.proofs.laws.AnswerLaws as checker_laws
use Rattle.sheet_checker.specs.Steps.{PassedParts}
use Rattle.sheet_checker.specs.declared.CheckedSheet.{CheckedSheet}
use Rattle.sheet_reader.specs.declared.Refusal.{Refusal}
use Rattle.node_numbering.specs.Grammar.{GrammarOf}
use Rattle.node_numbering.specs.laws.GrammarLaws.{grammar_from}
use Rattle.node_numbering.proofs.laws.GrammarLaws.{grammar_of}
use Rattle.node_numbering.specs.declared.Grammar.{Grammar}
use Rattle.image_encoder.specs.Parts.{PartsOf}
use Rattle.image_writer.specs.Answer.{answer_of, case_of, Ends}
use Rattle.image_writer.proofs.laws.AnswerLaws.{case_answer}
use Rattle.image_writer.specs.declared.WriteError.{WriteError}
use Rattle.image_writer.specs.declared.WriteError.TheVariants.{TooLong, Refused}

-- ---- what an image is made from

module _ (s : Sheet) (k : CheckedSheet) (h : PassedParts s k) where
  pub grammar_held : GrammarOf (grammar_from k.rules k.links k.types) s.rules s.expression
  grammar_held =
      grammar_of s k.rules h.places k.links k.types h.limits h.rules_held h.linked h.typed h.no_fault

  -- The image of a sheet that passed fits in 65,536 bytes.
  pub room_for_any : (buffer : List ℕ) → 65536 ≤ length buffer → length (image_bytes (plain_image s)) ≤ length buffer
  room_for_any buffer l =
      omega (arith, l, plain_fits s h.limits h.no_empty ((sheet_typed_iff s h.limits).0 h.no_fault).1)

  module _ (p : PositionColumns) (f : PositionsOf s.rules p) where
    pub positions_most : p.count ≤ 64
    positions_most = omega (arith, f.count_held, (positions_in_range s h.limits h.no_empty).count_most)

    pub parts_of : (g : Grammar) → GrammarOf g s.rules s.expression → PartsOf g p s
    parts_of g a = record { grammar = a; positions_held = f.positions_held; first_held = f.first_held }

-- ---- question 11

module _ (image buffer : List ℕ) where
  pub fits : {needed : ℕ} → needed ≡ length image → needed ≤ length buffer → length image ≤ length buffer
  fits e h = omega arith

  pub ends_too_long : {needed : ℕ} → needed ≡ length image → length buffer < needed
      → Ends (fitted (length buffer) image) (Err (TooLong needed)) buffer buffer
  unfolding fitted case_of image_after
  ends_too_long e h =
      let l = lt-leb (length image) (length buffer) (omega arith) in
      record { answer = rw (l, e); image = rw l }

  pub ends_written : {written : ℕ} {exit : List ℕ} → length image ≤ length buffer
      → (written ≡ length image) × (exit ≡ image ++ drop (length image) buffer)
      → Ends (fitted (length buffer) image) (Ok written) buffer exit
  unfolding fitted case_of image_after
  ends_written h e =
      let l = le-leb (length image) (length buffer) h in
      record { answer = rw (l, e.0); image = rw (l, e.1) }

-- ---- questions 1 to 10

-- Checking named a question: writing refuses by it, and leaves the image buffer.
pub ends_failed : (v : check.Verdict) {k : Result CheckedSheet Refusal} {refusal : Refusal} (buffer : List ℕ) → checker.Ends v k
    → k ≡ Err refusal → Ends (after_checking (length buffer) v) (Err (Refused refusal)) buffer buffer
unfolding after_checking case_of image_after
ends_failed v buffer h e = rw (checker_laws.failed_by v h e) (record { answer = refl; image = refl })

pub ends_passed : (v : check.Verdict) (s : Sheet) (room : ℕ) {r : Result ℕ WriteError} {entry exit : List ℕ} → v ≡ check.passed s
    → Ends (fitted room (image_bytes (plain_image (image_sheet s)))) r entry exit → Ends (after_checking room v) r entry exit
unfolding after_checking image_of
ends_passed v s room e h = rw e h

-- What writing promises, with the work area that it leaves.
pub promised : {m : page.Written} {r : Result ℕ WriteError} {entry exit after : List ℕ} (work : List ℕ) → Ends m r entry exit → after ≡ check.work_after work
    → (r ≡ case_of m) × (exit ≡ image_after m entry) × (after ≡ check.work_after work) × (answer_of r ≡ write_answer m)
promised {m} work h w = (h.answer, h.image, w, ap answer_of h.answer ∙ case_answer m)
