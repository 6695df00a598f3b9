-- `read_positions` meets its contract. The loop's invariant: the positions so far were read, and the tables hold them.
use mathlib.Core.Path.{◌≡◌}
use mathlib.Core.List.{List}
use lib.ListN.{length}
use Rattle.lexer.specs.Positions.{Position}
use Rattle.image.specs.ImageReading.{read_position}
use Rattle.image_reader.specs.Answers.{positions_in}
use Rattle.image_reader.specs.Tables.{PositionsHeld}
use Rattle.image_reader.proofs.Turns.{Turns}
use Rattle.image_reader.proofs.read_positions.Given as goal

abbrev pub invariant-loop-i : goal.invariant-loop-i
invariant-loop-i l =
    (length l.tables ≡ 448)
    × ((ps : List Position)
    × Turns (read_position l.bytes l.rules l.fn.size.value) (λ before p. p.rule) (positions_in l.bytes l.rules l.fn.size.value l.fn.size.at) l.fn.size.value l.i
    l.least l.next ps
    × PositionsHeld l.rules l.i l.last_ones l.tables ps)
