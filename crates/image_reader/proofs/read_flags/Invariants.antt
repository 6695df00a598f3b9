-- `read_flags` meets its contract. The loop's invariant: the flags so far were read, and the set holds them.
use mathlib.Core.Bool.{Bool}
use mathlib.Core.List.{List}
use Rattle.image.specs.ImageReading.{read_flag}
use Rattle.image_reader.proofs.Flags.{FlagsHeld}
use Rattle.image_reader.proofs.Turns.{Listing}
use Rattle.image_reader.proofs.read_flags.Given as goal

abbrev pub invariant-loop-i : goal.invariant-loop-i
invariant-loop-i l =
    (bs : List Bool) × Listing (read_flag l.bytes) l.fn.size.at l.fn.size.value l.i l.next bs × FlagsHeld l.i l.set bs
