-- What reading an image for a run answers, and the machine that runs it. Nothing here is run.
use Rattle.std.specs.Prelude.{◌≡◌, List, ℕ, ◌≤◌, length, Option, Result, Ok, Err}
use Rattle.std.specs.Borrow.{Bor}
use Rattle.image.specs.Image.{Image}
use Rattle.image.specs.ImageRanges.{InRange}
use Rattle.image_reader.specs.Decoded.{Decoded, tables_of}
use Rattle.image_reader.specs.declared.ImageRead.{ImageRead}
use Rattle.machine.specs.Lent.{Lent}
use Rattle.machine.specs.Runs.{Short}
use Rattle.machine.specs.Run.{run_image, run}
use Rattle.machine_turn.specs.declared.RunAnswer.{RunAnswer}
use Rattle.machine_loop.specs.declared.ScannerTable.{ScannerTable}
use Rattle.machine_loop.specs.declared.Machine.{Machine}
use Rattle.image_runner.specs.Lending.{ran}

-- A readable image with its tables.
abbrev pub machine_of : Bor (List ℕ) → ImageRead → Bor (List ℕ) → Bor (List ℕ) → Option ScannerTable → Machine
machine_of image read tables productions scanner =
    record { image = image; read = read; tables = tables; productions = productions; scanner = scanner }

-- A readable image, in the tables that were read; whatever else is lent, running the bytes is running it.
pub record Readable (bytes text : List ℕ) (read : ImageRead) (tables productions : List ℕ) : Type 0 where
  pub image : Image
  pub decoded : Decoded bytes (tables_of read tables productions) image
  pub in_range : InRange image
  pub within : length text ≤ 1048576
  pub runs : (lent : Lent) → (Short lent.scanner → ⊥) → run bytes text lent ≡ run_image image text lent

-- Reading an image for a run: its tables, or the answer of a run that is turned away and leaves all that is lent.
abbrev pub ReadFor : List ℕ → List ℕ → Result ImageRead RunAnswer → List ℕ → List ℕ → Type 0
ReadFor bytes text (Ok read) tables productions = Readable bytes text read tables productions
ReadFor bytes text (Err answer) tables productions = (lent : Lent) → (Short lent.scanner → ⊥) → ran answer lent ≡ run bytes text lent
