-- What writing answers, in the page's terms: as checking does where a question from 1 to 10 fails; else by question 11, and success. There is
-- one such answer for all that is handed over (WriteQuestions); no function is named here.
use Rattle.std.specs.Prelude.{List, [], ℕ, ◌≤◌, ◌<◌, length}
use Rattle.sheet.specs.Sheet.{Sheet}
use Rattle.image.specs.Image.{image_of}
use Rattle.image.specs.ImageFormat.{ReadableAs}
use Rattle.image.specs.Answer.{Answer, answer}
use Rattle.image.specs.Check.{work_bytes}
use Rattle.image.specs.Checks.{Passable, Checks}

-- A sheet that demand 2 accepts, with an image buffer of so many bytes: it passes, "and the image fits".
pub record Acceptable (sheet : List ℕ) (room : ℕ) (s : Sheet) : Type 0 where
  pub passable : Passable sheet s
  pub fits : (image : List ℕ) × ReadableAs image (image_of s) × (length image ≤ room)

-- The answer of writing, with a work area and an image buffer of so many bytes, and the written part that it hands back: "0, 0 and bytes
-- written on success; after 11 the bytes needed, otherwise length 0"; "Success also hands back the written part of the image buffer, empty
-- on refusal."
pub data Writes (bytes : List ℕ) (work room : ℕ) : Answer → List ℕ → Type 0 where
  -- "writing, which checks again"
  not_passed : (a : Answer) → Checks bytes work a → 1 ≤ a.number → Writes bytes work room a []
  no_room : (s : Sheet) (image : List ℕ) → work_bytes ≤ work → Passable bytes s → ReadableAs image (image_of s) → room < length image
      → Writes bytes work room (answer 11 0 (length image)) []
  success : (s : Sheet) (image : List ℕ) → work_bytes ≤ work → Passable bytes s → ReadableAs image (image_of s) → length image ≤ room
      → Writes bytes work room (answer 0 0 (length image)) image
