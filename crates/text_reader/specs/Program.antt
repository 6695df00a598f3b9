-- The program: what it lends, and the line that it prints for the bytes of its two files ("Sheet D and its readings").
-- Loading the files and printing the line are the program's own.
use Rattle.std.specs.Prelude.{◌≡◌, List, ℕ, ◌≤◌, ◌+◌, ◌*◌, length, replicate}
use Rattle.lines.specs.declared.Line.{Line}
use Rattle.sheet.specs.Sheet.{Sheet}
use Rattle.normal_form.specs.Productions.{most_growth}
use Rattle.image.specs.Check.{work_bytes}
use Rattle.image.specs.Write.{write}
use Rattle.image.specs.Writes.{Acceptable}
use Rattle.image.specs.Answer.{Answer}
use Rattle.machine.specs.OwnAnswer.{OwnAnswer}
use Rattle.text_reader.specs.Reading.{text_answered, reading, line_of}

-- "takes texts up to 2,048 bytes"
abbrev pub most_program_text : ℕ
most_program_text = 2048

-- "lends 65,536 bytes for the image"
abbrev pub program_room : ℕ
program_room = 65536

-- "and a long enough stack", for the longest text that it takes
abbrev pub program_entries : ℕ
program_entries = 1 + most_growth * most_program_text

-- "compiles before it looks at the text, and takes texts up to 2,048 bytes (longer: `text 12 0`)"
unfoldable pub program_line : List ℕ → List ℕ → Line
program_line sheet text = line_of (reading most_program_text (write sheet work_bytes program_room) text (replicate program_entries 0))

-- For every sheet that demand 2 accepts, with whatever image buffer, and a text within the limit: the line of the sheet's own answer.
pub record OwnLine (sheet text : List ℕ) (l : Line) : Type 0 where
  pub own_answer : (s : Sheet) (room : ℕ) → Acceptable sheet room s → length text ≤ most_program_text
      → (a : Answer) × OwnAnswer s text a × (l ≡ line_of (text_answered a))
