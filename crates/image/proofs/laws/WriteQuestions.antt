-- Writing's answer is the one that the page's terms fix: `write` ends so, whatever is handed over, and there is no other answer. When it
-- succeeds, and what it then has made: demand 2 over the definitions. And 11 never comes with 65,536 bytes of room.
use Rattle.std.specs.Prelude.{◌≡◌, Bool, cond, List, [], ◌↔◌, ℕ, ◌≤◌, ◌<◌, length}
use Rattle.std.proofs.Math.Path.{refl, ap}
use Rattle.std.proofs.Common.{sym, subst, ◌∙◌, inl, inr, arith, leb→le}
use Rattle.std.proofs.Math.Bool.{true, false}
use Rattle.std.proofs.Math.Dec.{leb, nleb→lt}
use Rattle.std.proofs.lemmas.Bool.{lt-leb}
use Rattle.basics.proofs.laws.Truth.{true_holds}
use Rattle.sheet.specs.Sheet.{Sheet}
use Rattle.sheet.specs.Spelling.{Bytes}
use Rattle.sheet.proofs.laws.ReadingLaws.{spelled_limits}
use Rattle.lexer.proofs.laws.EmptyWord.{none_empty}
use Rattle.image.specs.Image.{image_of, image_bytes}
use Rattle.image.specs.ImageFormat.{ReadableAs}
use Rattle.image.proofs.laws.ReadableImages.{readable_written, image_readable}
use Rattle.image.proofs.laws.ImageLaws.{image-in_range}
use Rattle.image.proofs.laws.ImageLength.{most_image_bytes, image_fits}
use Rattle.image.specs.Answer.{Answer, answer}
use Rattle.image.specs.Check.{work_bytes, Verdict, failed, passed, check, check_answer}
use Rattle.image.specs.Checks.{Passable, Checks}
use Rattle.image.proofs.laws.CheckQuestions.{check_answers, checks_only, passable_passes, passed_passable, failed_numbered}
use Rattle.image.specs.Write.{Written, refused, too_long, written, fitted, after_checking, write, write_answer, written_part}
use Rattle.image.specs.Writes.{Acceptable, Writes, not_passed, no_room, success}
use Rattle.image.proofs.laws.CheckNumbers.{OneToTen, check_cases}
use Rattle.image.proofs.laws.WriteLaws.{fitting, passed_written, written_passed, refused_exactly}

-- The bytes that are written for a sheet's image are readable as that image.
pub passable_readable : {bytes : List ℕ} {s : Sheet} → Passable bytes s → ReadableAs (image_bytes (image_of s)) (image_of s)
passable_readable {bytes} {s} a =
    image_readable (image_of s) (image-in_range s (spelled_limits bytes s a.well_formed) ((none_empty s.rules).1 a.no_empty_text)
    a.has_type.1)

module _ (bytes : List ℕ) (work room : ℕ) (b : Bytes bytes) where
  -- Writing ended so, and its answer and its written part are those of the page's terms.
  abbrev AnswersWith : Written → Type 0
  AnswersWith w = Writes bytes work room (write_answer w) (written_part w)

  room_question : (s : Sheet) → work_bytes ≤ work → Passable bytes s → AnswersWith (fitted room (image_bytes (image_of s)))
  unfolding fitted write_answer written_part
  room_question s h p = go (leb (length (image_bytes (image_of s))) room) refl
    where
      go : (c : Bool) → leb (length (image_bytes (image_of s))) room ≡ c
          → AnswersWith (cond c (written (image_bytes (image_of s))) (too_long (length (image_bytes (image_of s)))))
      go true e =
          success s (image_bytes (image_of s)) h p (passable_readable p) (leb→le (length (image_bytes (image_of s))) room (true_holds _ e))
      go false e = no_room s (image_bytes (image_of s)) h p (passable_readable p) (nleb→lt (length (image_bytes (image_of s))) room (rw e tt))

  by_verdict : (v : Verdict) → check bytes work ≡ v → AnswersWith (after_checking room v)
  unfolding after_checking check_answer write_answer written_part
  by_verdict (failed question place) e =
      not_passed (answer question place 0)
      (subst (λ (v : Verdict). Checks bytes work (check_answer v)) e (check_answers bytes work b))
      (failed_numbered bytes b work question place e).0
  by_verdict (passed s) e = let p = passed_passable bytes b work s e in room_question s p.0 p.1

  -- What writing answers.
  pub write_answers : AnswersWith (write bytes work room)
  unfolding write
  write_answers = by_verdict (check bytes work) refl

-- Whatever writing answers in the page's terms is what `write` answers, with its written part.
module _ (bytes : List ℕ) (b : Bytes bytes) (work room : ℕ) where
  abbrev Only : Answer → List ℕ → Type 0
  Only a part = (write_answer (write bytes work room) ≡ a) × (written_part (write bytes work room) ≡ part)

  -- Of a sheet that passes.
  from_passable : (s : Sheet) (image : List ℕ) → work_bytes ≤ work → Passable bytes s → ReadableAs image (image_of s)
      → write bytes work room ≡ fitted room image
  unfolding write after_checking
  from_passable s image w p r =
      ap (after_checking room) (passable_passes bytes work w s p) ∙ ap (fitted room) (sym (readable_written image (image_of s) r))

  refusal : (a : Answer) (v : Verdict) → check bytes work ≡ v → check_answer v ≡ a → 1 ≤ a.number → Only a []
  unfolding write after_checking check_answer write_answer written_part
  refusal a (failed question place) e h n = rw e (h, refl)
  refusal a (passed s) e h n = let z : 0 ≡ a.number = ap (λ (x : Answer). x.number) h in absurd (omega (arith, z, n))

  pub writes_only : {a : Answer} {part : List ℕ} → Writes bytes work room a part → Only a part
  unfolding fitted write_answer written_part
  writes_only (not_passed a h n) = refusal a (check bytes work) refl (checks_only b h) n
  writes_only (no_room s image w p r l) =
      let e : write bytes work room ≡ too_long (length image) = from_passable s image w p r ∙ rw (lt-leb (length image) room l) in
      (ap write_answer e, ap written_part e)
  writes_only (success s image w p r l) =
      let e : write bytes work room ≡ written image = from_passable s image w p r ∙ fitting room image l in
      (ap write_answer e, ap written_part e)

-- Where writing refuses, the number is one from 1 to 10; so the number tells how writing ended, too.
pub refused_numbered : (bytes : List ℕ) → Bytes bytes → (work room question place : ℕ) → write bytes work room ≡ refused question place
    → OneToTen question
refused_numbered bytes b work room question place e =
    failed_numbered bytes b work question place ((refused_exactly bytes work room question place).0 e)

-- The number is 0 exactly if the image was written, and the written part is the image.
pub written_iff : (bytes : List ℕ) → Bytes bytes → (work room : ℕ)
    → ((write_answer (write bytes work room)).number ≡ 0) ↔ (write bytes work room ≡ written (written_part (write bytes work room)))
unfolding write_answer written_part
written_iff bytes b work room = (
  (λ h. go (write bytes work room) refl h),
  λ e. ap (λ (w : Written). (write_answer w).number) e,
)
  where
    go : (w : Written) → write bytes work room ≡ w → (write_answer w).number ≡ 0 → w ≡ written (written_part w)
    go (refused question place) e h = let n = refused_numbered bytes b work room question place e in absurd (omega (arith, n.0, h))
    go (too_long needed) e h = absurd (omega (arith, h))
    go (written image) e h = refl

-- ---- demand 2 over the definitions

-- Writing accepts every sheet that demand 2 accepts, and makes its image.
pub acceptable_written : (sheet : List ℕ) (work room : ℕ) (s : Sheet) → work_bytes ≤ work → Acceptable sheet room s
    → write sheet work room ≡ written (image_bytes (image_of s))
acceptable_written sheet work room s w a =
    let f = a.fits in
    passed_written sheet work s (passable_passes sheet work w s a.passable) room
    (subst (λ (l : List ℕ). length l ≤ room) (readable_written f.0 (image_of s) f.1) f.2)

-- And no other.
pub written_acceptable : (sheet : List ℕ) → Bytes sheet → (work room : ℕ) (image : List ℕ) → write sheet work room ≡ written image
    → (work_bytes ≤ work) × ((s : Sheet) × Acceptable sheet room s × (image ≡ image_bytes (image_of s)))
written_acceptable sheet bytes work room image e =
    let p = written_passed sheet work room image e in
    let a = passed_passable sheet bytes work p.0 p.1 in (
      a.0,
      (
        p.0,
        record {
          passable = a.1;
          fits = (image_bytes (image_of p.0), passable_readable a.1, subst (λ (l : List ℕ). length l ≤ room) p.2 p.3);
        },
        p.2,
      ),
    )

-- ---- room

-- Of 11: the image does not fit, and it is not longer than any image is.
too_long_from : {bytes : List ℕ} {work room : ℕ} {a : Answer} {part : List ℕ} → Writes bytes work room a part → (n : ℕ) → a ≡ answer 11 0 n
    → (room < n) × (n ≤ most_image_bytes)
too_long_from (not_passed a h k) n e =
    let z : a.number ≡ 11 = ap (λ (x : Answer). x.number) e in
    elim (check_cases h) [ inl x ↦ absurd (omega (arith, x.0, z)) | inr x ↦ absurd (omega (arith, x.1, z)) ]
too_long_from {bytes} (no_room s image w a r l) n e =
    let same : length image ≡ n = ap (λ (x : Answer). x.amount) e in
    let image-written = ap length (readable_written image (image_of s) r) in
    let fits = image_fits s (spelled_limits bytes s a.well_formed) ((none_empty s.rules).1 a.no_empty_text) a.has_type.1 in
    (omega arith, omega arith)
too_long_from (success s image w p r l) n e = let z = ap (λ (x : Answer). x.number) e in absurd (omega (arith, z))

-- 65,536 bytes are room for the image of any sheet.
pub room_enough : (bytes : List ℕ) → Bytes bytes → (work room : ℕ) → work_bytes ≤ room → (n : ℕ) → write bytes work room ≡ too_long n → ⊥
unfolding write_answer
room_enough bytes b work room h n e =
    let r = too_long_from (write_answers bytes work room b) n (ap write_answer e) in omega (arith, r.0, r.1)
