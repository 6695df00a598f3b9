-- `read_rows` meets its contract. The loop's invariant: the rows so far were read, and the table has their entries.
use mathlib.Core.Path.{◌≡◌}
use mathlib.Core.List.{List}
use lib.ListN.{length, drop}
use Rattle.normal_form.specs.Productions.{Row}
use Rattle.image_reader.specs.Answers.{row_in}
use Rattle.image_reader.specs.Tables.{SameBelow}
use Rattle.image_reader.proofs.Rows.{Filling}
use Rattle.image_reader.proofs.Turns.{Listing}
use Rattle.image_reader.proofs.read_rows.Given as goal

abbrev pub invariant-loop-i : goal.invariant-loop-i
invariant-loop-i l =
    (length l.tables ≡ 448)
    × SameBelow 384 l.initial.tables l.tables
    × ((rows : List Row)
    × Listing (row_in l.bytes l.bounds) l.at l.bounds.nonterminals l.i l.next rows
    × Filling l.bytes l.bounds.nonterminals (drop 384 l.tables) l.table l.empty l.i rows)
