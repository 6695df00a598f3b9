-- What a run is lent, and what it gives back: the stack, and a table with its winners if the run is to build one (request [6]). What a run
-- answers is not said here.
use Rattle.std.specs.Prelude.{List, ℕ, ◌+◌, ◌*◌, length, replicate}
use Rattle.std.proofs.Math.Option.{Option, none, some}
use Rattle.normal_form.specs.Productions.{most_growth}
use Rattle.lexer.specs.Table.{table_rows, table_entries, table_winners}
use Rattle.basics.specs.Lists.{written_over}
use Rattle.image.specs.Image.{Image}
use Rattle.image.specs.Answer.{Answer, answer}
use Rattle.machine.specs.Trace.{Ended, answer_of}

-- "Is the text within 1,048,576 bytes?"
abbrev pub most_text_bytes : ℕ
most_text_bytes = 1048576

-- "a long enough stack .. is 1 + 31 × the text's length"
abbrev pub long_enough : List ℕ → ℕ
long_enough text = 1 + most_growth * length text

-- "The caller lends 65,536 two-byte entries .. and 256 more for each row's winning rule": the winners have one entry a row.
abbrev pub lent_entries : ℕ
lent_entries = 65536

pub record Scanner : Type 0 where
  pub table : List ℕ
  pub winners : List ℕ

-- "A stack entry is one byte". A run without a table is lent no scanner's buffers.
pub record Lent : Type 0 where
  pub stack : List ℕ
  pub scanner : Option Scanner

-- The two ways of lending: without a table, and with one.
abbrev pub stack_alone : List ℕ → Lent
stack_alone stack = record { stack = stack; scanner = none }

abbrev pub with_scanner : List ℕ → List ℕ → List ℕ → Lent
with_scanner stack table winners = record { stack = stack; scanner = some (record { table = table; winners = winners }) }

-- The answer, and all that was lent as the run leaves it.
pub record Ran : Type 0 where
  pub answer : Answer
  pub left : Lent

-- "a table made from an image"
abbrev pub rows_of : Image → List ℕ
rows_of image = table_rows image.positions image.first

abbrev pub entries_of : Image → List ℕ
entries_of image = table_entries image.positions image.first

abbrev pub winners_of : Image → List ℕ
winners_of image = table_winners image.positions image.first

-- "Entries past the last row keep what they held."
unfoldable pub built : Image → Option Scanner → Option Scanner
built image none = none
built image (some s) =
    some (record { table = written_over (entries_of image) s.table; winners = written_over (winners_of image) s.winners })

-- "untouched after 12 and 13", 18 and 19: a run that is turned away.
unfoldable pub turned_away : ℕ → ℕ → Lent → Ran
turned_away number place lent = record { answer = answer number place 0; left = lent }

-- "The stack ends all zero", and "Each run builds the table before it reads the text": any other run.
unfoldable pub finished : Image → Lent → Ended → Ran
finished image lent e = record {
  answer = answer_of e;
  left = record { stack = replicate (length lent.stack) 0; scanner = built image lent.scanner };
}
