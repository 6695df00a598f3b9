-- The parts of demand 2 that say which sheets are accepted, and with which image, as they were before request [8], when the flap paper's
-- typing decided: for the theorem that every sheet that passed then still passes with the same image, and for nothing else. What the
-- image of a sheet is, `image_of`, speaks of no types and is what it was.
use Rattle.std.specs.Prelude.{List, ◌↔◌, ℕ, ◌≤◌, length}
use Rattle.sheet.specs.Sheet.{Sheet}
use Rattle.sheet.specs.SheetFormat.{Spells}
use Rattle.sheet.specs.Spelling.{Bytes}
use Rattle.types.specs.FlapTyping.{HadType}
use Rattle.lexer.specs.Words.{NoEmptyRule}
use Rattle.image.specs.Image.{image_of}
use Rattle.image.specs.ImageFormat.{ReadableAs}
use Rattle.image.specs.Check.{work_bytes}
use Rattle.demands.specs.Demands.{Functions, Accepts}

-- The sheet was well formed, no rule matched the empty text, and its expression had a type.
pub record PassedBefore (sheet : List ℕ) (s : Sheet) : Type 0 where
  pub well_formed : Spells sheet s
  pub no_empty_text : NoEmptyRule s.rules
  pub had_type : HadType s.expression

-- "a sheet is accepted exactly if it is well formed, no lexer rule matches the empty text, its expression has a type .., and the image fits.
-- The image is then the one normal form that document 01 sets out".
pub record Demand2Before (f : Functions) : Type 0 where
  pub accepted_exactly : (sheet work buffer : List ℕ) → Bytes sheet → work_bytes ≤ length work
      → Accepts f sheet work buffer
      ↔ ((s : Sheet) × PassedBefore sheet s × ((image : List ℕ) × ReadableAs image (image_of s) × (length image ≤ length buffer)))
  pub normal_form : (sheet work buffer : List ℕ) → Bytes sheet → Accepts f sheet work buffer → (s : Sheet) → Spells sheet s
      → ReadableAs (f.write sheet work buffer).part (image_of s)
