-- Writing a sheet's image: checking the sheet and then question 11; how it ends, what is returned, and what the lent image buffer holds
-- at the end. The work area ends as after checking (`work_after`). What writing must answer is said in Writes.
use Rattle.std.specs.Prelude.{cond, List, [], ◌++◌, ℕ, length, drop, leb}
use Rattle.image.specs.Image.{image_of, image_bytes}
use Rattle.image.specs.Answer.{Answer, answer}
use Rattle.image.specs.Check.{Verdict, failed, passed, check, work_after}

-- How writing ends.
pub data Written : Type 0 where
  -- a question from 1 to 10 fails, at a place
  refused : ℕ → ℕ → Written
  -- question 11 fails: the bytes needed
  too_long : ℕ → Written
  -- the image's bytes
  written : List ℕ → Written

-- "Does the image fit in its buffer?", of so many bytes
unfoldable pub fitted : ℕ → List ℕ → Written
fitted room image = cond (leb (length image) room) (written image) (too_long (length image))

-- Once the sheet has passed, question 11.
unfoldable pub after_checking : ℕ → Verdict → Written
after_checking room (failed question place) = refused question place
after_checking room (passed s) = fitted room (image_bytes (image_of s))

-- "writing, which checks again and then puts 11", with a work area and an image buffer of so many bytes.
unfoldable pub write : List ℕ → ℕ → ℕ → Written
write sheet work room = after_checking room (check sheet work)

-- "Compiling returns number, place and length: 0, 0 and bytes written on success; after 11 the bytes needed, otherwise length 0."
-- Writing returns the same.
unfoldable pub write_answer : Written → Answer
write_answer (refused number place) = answer number place 0
write_answer (too_long needed) = answer 11 0 needed
write_answer (written image) = answer 0 0 (length image)

-- "A refused compile leaves the image buffer untouched; success leaves the bytes past the image."
unfoldable pub image_after : Written → List ℕ → List ℕ
image_after (refused number place) buffer = buffer
image_after (too_long needed) buffer = buffer
image_after (written image) buffer = image ++ drop (length image) buffer

-- "Success also hands back the written part of the image buffer, empty on refusal."
unfoldable pub written_part : Written → List ℕ
written_part (refused number place) = []
written_part (too_long needed) = []
written_part (written image) = image

-- What writing gives: its answer, "the written part of the image buffer", the image buffer and the work area as it leaves them.
pub record Wrote : Type 0 where
  pub answer : Answer
  pub part : List ℕ
  pub image : List ℕ
  pub work : List ℕ

-- By the way in which writing ends, with a lent image buffer and a lent work area.
abbrev pub wrote_with : List ℕ → List ℕ → Written → Wrote
wrote_with buffer work w = record { answer = write_answer w; part = written_part w; image = image_after w buffer; work = work_after work }

-- Of a sheet, a lent work area and a lent image buffer: what the code's contracts cite.
abbrev pub wrote : List ℕ → List ℕ → List ℕ → Wrote
wrote sheet work buffer = wrote_with buffer work (write sheet (length work) (length buffer))
