-- One law for each way through `read_text`: what is told, what the stack holds, and that it is the sheet's own answer.
use mathlib.Core.Path.{◌≡◌, refl, sym, ap, ◌∙◌}
use mathlib.Core.Bool.{cond}
use mathlib.Core.List.{List}
use Prim.Native.Nat.{ℕ, ◌≤◌, ◌<◌}
use native.Mathlib.Omega.{arith}
use lib.Dec.{ltb}
use lib.ListN.{length, take, replicate, length-replicate}
use borrow.Author.Tests.{lt-ltb, le-ltb, eq-eqb, ne_eqb}
use Rattle.lines.specs.declared.Line.TheVariants as printed
use Rattle.sheet.specs.Sheet.{Sheet}
use Rattle.sheet.proofs.laws.FieldLaws.{Bytes}
use Rattle.sheet.proofs.laws.ReadingLaws.{spelled_limits}
use Rattle.image.specs.Check.{work_bytes}
use Rattle.image.specs.Write.{refused, too_long, written, write, image_after}
use Rattle.image.specs.Write as page
use Rattle.image.specs.Writes.{Acceptable}
use Rattle.image.proofs.laws.WriteQuestions.{acceptable_written}
use Rattle.image.proofs.laws.BufferLaws.{image-written}
use Rattle.image.specs.Image.{image_of}
use Rattle.image.proofs.laws.ReadableImages.{readable_written}
use Rattle.image.proofs.laws.ImageLength.{image_fits}
use Rattle.lexer.proofs.laws.EmptyWord.{none_empty}
use Rattle.image.specs.Answer.{Answer, answer}
use Rattle.machine.specs.Lent.{stack_alone, Ran}
use Rattle.machine.specs.Run.{run}
use Rattle.machine.proofs.laws.RunsLaws.{same_entries}
use Rattle.demands.proofs.laws.Proofs.{own-answer_without}
use Rattle.machine_turn.specs.Steps.{answer_held}
use Rattle.machine_turn.specs.declared.RunAnswer.{RunAnswer}
use Rattle.sheet_reader.specs.declared.Refusal.{Refusal}
use Rattle.std.specs.Prelude.{Result, Ok, Err}
use Rattle.text_reader.specs.Reading.{told, text_line, line_of}
use Rattle.text_reader.specs.Program.{most_program_text, program_room, program_entries, program_line, OwnLine}
use Rattle.text_reader.specs.Reading.{Told, sheet_refused, text_answered, answer_within, reading, stack_after_reading, OwnReading}

module _ (limit : ℕ) (sheet text : List ℕ) (work room : ℕ) where
  -- A sheet that was refused is not acceptable.
  not_written : {X : Type 0} (s : Sheet) → Acceptable sheet room s → work_bytes ≤ work → (m : page.Written) → write sheet work room ≡ m
      → ((image : List ℕ) → m ≡ written image → ⊥) → X
  not_written s a w m e f = absurd (f _ (sym e ∙ acceptable_written sheet work room s w a))

  pub own_refused : (entries number place : ℕ) → write sheet work room ≡ refused number place
      → OwnReading limit sheet text work room entries (sheet_refused number place)
  own_refused entries number place e = record {
    own_answer = λ s a w l m k. not_written s a w (refused number place) e (λ image f. let z : ◌≡◌ {A = ℕ} 0 1 = cc in omega arith);
  }

  pub own_long : (entries needed : ℕ) → write sheet work room ≡ too_long needed → OwnReading limit sheet text work room entries (sheet_refused 11 0)
  own_long entries needed e = record {
    own_answer = λ s a w l m k. not_written s a w (too_long needed) e (λ image f. let z : ◌≡◌ {A = ℕ} 0 1 = cc in omega arith);
  }

  -- A text over the limit is not spoken of.
  pub own_over : (entries : ℕ) (t : Told) → limit < length text → OwnReading limit sheet text work room entries t
  own_over entries t h = record { own_answer = λ s a w l m k. absurd (omega arith) }

  -- The image was run: demand 3.
  pub own-run : (stack image : List ℕ) → Bytes sheet → write sheet work room ≡ written image
      → OwnReading limit sheet text work room (length stack) (text_answered (run image text (stack_alone stack)).answer)
  own-run stack image bytes e = record {
    own_answer = λ s a w l m k.
        ((run image text (stack_alone stack)).answer, own-answer_without sheet bytes work room image e s a.passable.well_formed text m stack k, refl);
  }

-- What is told and what the stack holds, by cases.
module _ (limit : ℕ) (text stack : List ℕ) {m : page.Written} where
  pub told_refused : (number place : ℕ) → m ≡ refused number place
      → (sheet_refused number place ≡ reading limit m text stack) × (stack ≡ stack_after_reading limit m text stack)
  unfolding reading stack_after_reading
  told_refused number place e = rw e (refl, refl)

  pub told_long : (needed : ℕ) → m ≡ too_long needed
      → (sheet_refused 11 0 ≡ reading limit m text stack) × (stack ≡ stack_after_reading limit m text stack)
  unfolding reading stack_after_reading
  told_long needed e = rw e (refl, refl)

  pub told_over : (image : List ℕ) → m ≡ written image → limit < length text
      → (text_answered (answer 12 0 0) ≡ reading limit m text stack) × (stack ≡ stack_after_reading limit m text stack)
  unfolding reading stack_after_reading answer_within
  told_over image e h = rw (e, lt-ltb limit (length text) h) (refl, refl)

  pub told-run : (image : List ℕ) (a : Answer) (exit : List ℕ) → m ≡ written image → length text ≤ limit
      → record { answer = a; left = stack_alone exit } ≡ run image text (stack_alone stack)
      → (text_answered a ≡ reading limit m text stack) × (exit ≡ stack_after_reading limit m text stack)
  unfolding reading stack_after_reading answer_within
  told-run image a exit e h f =
      rw (e, le-ltb limit (length text) h) (ap (λ (r : Ran). text_answered r.answer) f, ap (λ (r : Ran). r.left.stack) f)

-- The part of the image buffer that was written is the image.
pub written-image : (m : page.Written) (image buffer exit : List ℕ) → m ≡ written image → exit ≡ image_after m buffer → take (length image) exit ≡ image
written-image m image buffer exit e f = ap (take (length image)) (f ∙ ap (λ (x : page.Written). image_after x buffer) e) ∙ image-written image buffer

-- The program's line.
pub line_sheet : (r : Result RunAnswer Refusal) (e : Refusal) → r ≡ Err e → printed.Sheet e.question e.place ≡ line_of (told r)
unfolding line_of
line_sheet r e h = rw h

module _ (r : Result RunAnswer Refusal) (a : RunAnswer) (e : r ≡ Ok a) where
  pub line_accepted : a.number ≡ 0 → printed.Accepted a.count ≡ line_of (told r)
  unfolding line_of text_line answer_held
  line_accepted h = rw (e, eq-eqb a.number 0 h)

  pub line_refused : (a.number ≡ 0 → ⊥) → printed.Text a.number a.place ≡ line_of (told r)
  unfolding line_of text_line answer_held
  line_refused h = rw (e, ne_eqb a.number 0 h)

-- ---- the program's line

-- No condition on buffers is left: 65,536 bytes are room for every image, and the stack is long enough for 2,048 bytes.
pub own_line : (sheet text : List ℕ) (t : Told) → OwnReading most_program_text sheet text work_bytes program_room program_entries t
    → OwnLine sheet text (line_of t)
own_line sheet text t o = record {
  own_answer = λ s room a short.
      let p = a.passable in
      let few = image_fits s (spelled_limits sheet s p.well_formed) ((none_empty s.rules).1 p.no_empty_text) p.has_type.1 in
      let fitting : Acceptable sheet program_room s = record {
        passable = p;
        fits = (a.fits.0, a.fits.1, omega (arith, few, ap length (readable_written a.fits.0 (image_of s) a.fits.1)));
      } in
      let x = o.own_answer s fitting (omega arith) short (omega (arith, short)) (omega (arith, short)) in
      (x.0, x.1, ap line_of x.2);
}

-- What is told depends on how many entries the stack has, and not on what they hold.
reading_same : (limit : ℕ) (m : page.Written) (text a b : List ℕ) → length a ≡ length b → reading limit m text a ≡ reading limit m text b
unfolding reading answer_within
reading_same limit (refused number place) text a b e = refl
reading_same limit (too_long needed) text a b e = refl
reading_same limit (written image) text a b e =
    ap (λ (x : Answer). text_answered (cond (ltb limit (length text)) (answer 12 0 0) x)) (same_entries image text a b e)

-- What `read_text` told, and the line made of it, with buffers of the program's lengths.
pub program_prints : (sheet text : List ℕ) (work image : ℕ) (stack : List ℕ) → work ≡ work_bytes → image ≡ program_room
    → length stack ≡ program_entries → (t : Told) → t ≡ reading most_program_text (write sheet work image) text stack
    → OwnReading most_program_text sheet text work image (length stack) t
    → (line_of t ≡ program_line sheet text) × OwnLine sheet text (line_of t)
unfolding program_line
program_prints sheet text work image stack w i s t e o =
    let f : t ≡ reading most_program_text (write sheet work_bytes program_room) text stack = rw (w, i) at e in
    let p : OwnReading most_program_text sheet text work_bytes program_room program_entries t = rw (w, i, s) at o in
    let same = reading_same most_program_text (write sheet work_bytes program_room) text stack (replicate program_entries 0)
    (s ∙ sym (length-replicate {A = ℕ} program_entries 0)) in
    (ap line_of (f ∙ same), own_line sheet text t p)
