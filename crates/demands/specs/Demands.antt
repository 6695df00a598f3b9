-- The three demands, each as one statement to be held against the owner's words. They are said of any functions of these types, and
-- proved of those that the contracts of the exported functions cite (`Proofs`); so these functions' own definitions need not be read.
-- What follows from the demands is in `laws`: `Corollaries`; what the requests claim, in `Requests`. Document 01 is the owner's contract,
-- which no clone has; docs/REFERENCE.md has it in the project's words.
use Rattle.std.specs.Prelude.{◌≡◌, List, ◌∷◌, [], ◌↔◌, ℕ, ◌≤◌, length}
use Rattle.sheet.specs.Sheet.{Sheet}
use Rattle.sheet.specs.SheetFormat.{Spells}
use Rattle.sheet.specs.Spelling.{Bytes}
use Rattle.normal_form.specs.Unfolds.{Unfolds}
use Rattle.basics.specs.Lists.{written_over}
use Rattle.image.specs.Answer.{Answer}
use Rattle.image.specs.Image.{image_of}
use Rattle.image.specs.ImageFormat.{ReadableAs}
use Rattle.image.specs.Unfolding.{DenotedRules}
use Rattle.image.specs.Check.{work_bytes, work_after, Checked}
use Rattle.image.specs.Checks.{Checks}
use Rattle.image.specs.Write.{Wrote}
use Rattle.image.specs.Writes.{Acceptable, Writes}
use Rattle.machine.specs.Lent.{most_text_bytes, long_enough, Lent, Ran}
use Rattle.machine.specs.Runs.{Short, ManyRows, Runs}
use Rattle.machine.specs.OwnAnswer.{OwnAnswer}
use Rattle.recogniser.specs.Recognises.{Recognises, Recognised}

-- Checking, writing, running and recognising: of all that is handed over, the answer, and what every lent buffer holds at the end.
pub record Functions : Type 0 where
  -- of a sheet and a work area
  pub check : List ℕ → List ℕ → Checked
  -- of a sheet, a work area and an image buffer
  pub write : List ℕ → List ℕ → List ℕ → Wrote
  -- of an image, a text, and a stack, with a table and its winners or without
  pub run : List ℕ → List ℕ → Lent → Ran
  -- of a sheet, a text, a work area and a list (request [7])
  pub recognise : List ℕ → List ℕ → List ℕ → List ℕ → Recognised

-- "1. A caller may hand over any sheet, image, text and buffers, of any length and content, and always gets an answer that document 01
-- fixes: a result, or the number and place of the first question that fails, and what every lent buffer then holds."
-- The image buffer holds the part that was written, which is empty on refusal, and then what it held; the list holds the tokens that were
-- written, and then what it held.
pub record Demand1 (f : Functions) : Type 0 where
  pub checking : (sheet work : List ℕ) → Bytes sheet → (r : Checked)
      → (f.check sheet work ≡ r) ↔ (Checks sheet (length work) r.answer × (r.work ≡ work_after work))
  pub writing : (sheet work buffer : List ℕ) → Bytes sheet → (r : Wrote)
      → (f.write sheet work buffer ≡ r)
      ↔ (Writes sheet (length work) (length buffer) r.answer r.part
      × (r.image ≡ written_over r.part buffer) × (r.work ≡ work_after work))
  pub running : (image text : List ℕ) → Bytes image → (lent : Lent) (r : Ran) → (f.run image text lent ≡ r) ↔ Runs image text lent r
  pub recognising : (sheet text work list : List ℕ) → Bytes sheet → (r : Recognised)
      → (f.recognise sheet text work list ≡ r)
      ↔ (Recognises sheet text (length work) (length list) r.answer r.tokens
      × (r.list ≡ written_over r.tokens list) × (r.work ≡ work_after work))

-- Writing accepts: it answers with 0. The work area and the image buffer are lent.
abbrev pub Accepts : Functions → List ℕ → List ℕ → List ℕ → Type 0
Accepts f sheet work buffer = (f.write sheet work buffer).answer.number ≡ 0

-- "2. Given the work area that document 01 names, a sheet is accepted exactly if it is well formed, no lexer rule matches the empty text,
-- its expression has a type under the published typing rules, and the image fits. The image is then the one normal form that document 01
-- sets out, and its start unfolds to exactly the rule sequences that spell a token sequence which the expression denotes, each token
-- spelled by any rule that returns it." From request [8] on the typing rules are document 001's.
pub record Demand2 (f : Functions) : Type 0 where
  pub accepted_exactly : (sheet work buffer : List ℕ) → Bytes sheet → work_bytes ≤ length work
      → Accepts f sheet work buffer ↔ ((s : Sheet) × Acceptable sheet (length buffer) s)
  pub normal_form : (sheet work buffer : List ℕ) → Bytes sheet → Accepts f sheet work buffer → (s : Sheet) → Spells sheet s
      → ReadableAs (f.write sheet work buffer).part (image_of s)
  pub unfolds_exactly : (sheet work buffer : List ℕ) → Bytes sheet → Accepts f sheet work buffer → (s : Sheet) → Spells sheet s
      → (rules : List ℕ) → Unfolds (image_of s).rows (0 ∷ []) rules ↔ DenotedRules s rules

-- "3. Whatever bytes a text holds, for every sheet that demand 2 accepts, running the image fixed there over the text gives exactly the
-- sheet's own answer ..: the same number, the same place, the same token count. Only, the text must be within the limit and the stack have
-- at least 1 + 31 × its length entries." And a table that is lent is not short (18), and has room for the image's rows (19).
-- When a text is accepted, and which place is named otherwise: `Corollaries`, `text_accepted_iff` and `text_reading`.
pub record Demand3 (f : Functions) : Type 0 where
  pub own_answer : (sheet work buffer : List ℕ) → Bytes sheet → Accepts f sheet work buffer → (s : Sheet) → Spells sheet s
      → (text : List ℕ) (lent : Lent) → length text ≤ most_text_bytes → long_enough text ≤ length lent.stack
      → (Short lent.scanner → ⊥) → (ManyRows lent.scanner (image_of s) → ⊥)
      → (a : Answer) → ((f.run (f.write sheet work buffer).part text lent).answer ≡ a) ↔ OwnAnswer s text a
