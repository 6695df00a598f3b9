-- `text_reader::read_text` meets its contract: writing's promise, the machine's, and demand 3.
use mathlib.Core.Path.{◌≡◌, sym, ap, subst, ◌∙◌}
use mathlib.Core.List.{List}
use Prim.Native.Nat.{ℕ}
use native.Mathlib.Omega.{arith}
use lib.ListN.{length, take}
use lib.Seq.{length-take-le}
use Rattle.sheet.proofs.laws.FieldLaws.{Bytes}
use Rattle.image.specs.Write.{write}
use Rattle.image.proofs.laws.WriteLaws.{written_passed}
use Rattle.machine.specs.Lent.{stack_alone, Ran}
use Rattle.machine.specs.Run.{run}
use Rattle.machine_turn.specs.Steps.{answer_held}
use Rattle.machine_turn.specs.declared.RunAnswer.{RunAnswer}
use Rattle.std.specs.Prelude.{Err}
use Rattle.image_writer.specs.Answer.{case_of}
use Rattle.image_writer.specs.declared.WriteError.TheVariants.{TooLong, Refused}
use Rattle.image_writer.proofs.laws.AnswerLaws.{case_done, case_too_long, case_refused}
use Rattle.demands.proofs.laws.Proofs.{image-kept}
use Rattle.text_reader.specs.Reading.{text_answered, OwnReading}
use Rattle.text_reader.proofs.Ways.{own_refused, own_long, own_over, own-run}
use Rattle.text_reader.proofs.Ways.{told_refused, told_long, told_over, told-run, written-image}
use Rattle.text_reader.proofs.read_text.Goals as goal

pub returns-in-Err-Refused : goal.returns-in-Err-Refused
returns-in-Err-Refused c =
    let z = c.args in
    let k = c.write in
    let is : case_of (write z.sheet.now (length z.work.now) (length z.image.now)) ≡ Err (Refused c.in-Err-Refused.refusal) = cc k.ensures.0 in
    let e = case_refused (write z.sheet.now (length z.work.now) (length z.image.now)) is in
    let t = told_refused z.limit z.text.now z.stack.now _ _ e in (
      t.0,
      k.ensures.1,
      k.ensures.2,
      t.1,
      own_refused z.limit z.sheet.now z.text.now (length z.work.now) (length z.image.now) (length z.stack.now) _ _ e,
    )

pub returns-in-Err-TooLong : goal.returns-in-Err-TooLong
returns-in-Err-TooLong c =
    let z = c.args in
    let k = c.write in
    let is : case_of (write z.sheet.now (length z.work.now) (length z.image.now)) ≡ Err (TooLong c.in-Err-TooLong.field-0-0) = cc k.ensures.0 in
    let e = case_too_long (write z.sheet.now (length z.work.now) (length z.image.now)) is in
    let t = told_long z.limit z.text.now z.stack.now _ e in (
      t.0,
      k.ensures.1,
      k.ensures.2,
      t.1,
      own_long z.limit z.sheet.now z.text.now (length z.work.now) (length z.image.now) (length z.stack.now) _ e,
    )

pub returns-then-limit-text : goal.returns-then-limit-text
unfolding answer_held
returns-then-limit-text c =
    let z = c.args in
    let k = c.write in
    let d = case_done (write z.sheet.now (length z.work.now) (length z.image.now)) (sym k.ensures.0 ∙ c.in-Ok.is) in
    let t = told_over z.limit z.text.now z.stack.now d.0 d.1 c.if-limit-text.true in (
      ap (λ (r : RunAnswer). text_answered (answer_held r)) c.answer.ensures ∙ t.0,
      k.ensures.1,
      k.ensures.2,
      t.1,
      own_over z.limit z.sheet.now z.text.now (length z.work.now) (length z.image.now) (length z.stack.now) _ c.if-limit-text.true,
    )

pub slice_bounds-run-end : goal.slice_bounds-run-end
slice_bounds-run-end c =
    let z = c.args in
    let k = c.write in
    let d = case_done (write z.sheet.now (length z.work.now) (length z.image.now)) (sym k.ensures.0 ∙ c.in-Ok.is) in
    let f = (written_passed z.sheet.now (length z.work.now) (length z.image.now) d.0 d.1).3 in
    let l = ap length k.ensures.1 ∙ image-kept z.sheet.now (length z.work.now) z.image.now in
    omega (arith, d.2, f, l)

pub slice_bounds-run-end-2 : goal.slice_bounds-run-end-2
slice_bounds-run-end-2 c =
    let z = c.args in
    let k = c.write in
    let d = case_done (write z.sheet.now (length z.work.now) (length z.image.now)) (sym k.ensures.0 ∙ c.in-Ok.is) in
    let f = (written_passed z.sheet.now (length z.work.now) (length z.image.now) d.0 d.1).3 in
    let l = ap length k.ensures.1 ∙ image-kept z.sheet.now (length z.work.now) z.image.now in
    sym (length-take-le c.in-Ok.size k.new.image (omega (arith, d.2, f, l)))

pub returns : goal.returns
unfolding answer_held
returns c =
    let z = c.args in
    let k = c.write in
    let m = write z.sheet.now (length z.work.now) (length z.image.now) in
    let d = case_done m (sym k.ensures.0 ∙ c.in-Ok.is) in
    let r = c.run in
    let bytes : Bytes z.sheet.now = λ i. (c.type_inv.sheet i).fits in
    let w = written-image m d.0 z.image.now _ d.1 k.ensures.1 in
    let i : take c.in-Ok.size k.new.image ≡ d.0 = ap (λ (n : ℕ). take n k.new.image) d.2 ∙ w in
    let e : record { answer = answer_held r.result; left = stack_alone r.new.stack } ≡ run d.0 z.text.now (stack_alone z.stack.now) =
    r.ensures ∙ ap (λ (l : List ℕ). run l z.text.now (stack_alone z.stack.now)) i in
    let t = told-run z.limit z.text.now z.stack.now d.0 (answer_held r.result) r.new.stack d.1 c.if-limit-text.false e in
    let o = own-run z.limit z.sheet.now z.text.now (length z.work.now) (length z.image.now) z.stack.now d.0 bytes d.1 in (
      t.0,
      k.ensures.1,
      k.ensures.2,
      t.1,
      subst (λ (a : Ran). OwnReading z.limit z.sheet.now z.text.now (length z.work.now) (length z.image.now) (length z.stack.now) (text_answered a.answer)) (sym e) o,
    )
