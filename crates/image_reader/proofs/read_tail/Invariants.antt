-- `read_tail` meets its contract. The loop's invariant: the members so far were read, and stand one byte each from the tail's place on.
use mathlib.Core.List.{List}
use Prim.Native.Nat.{ℕ}
use lib.Dec.{ltb}
use Rattle.image.specs.ImageReading.{image_field}
use Rattle.image_reader.specs.Tables.{MembersHeld}
use Rattle.image_reader.proofs.Turns.{Listing}
use Rattle.image_reader.proofs.read_tail.Given as goal

abbrev pub invariant-loop-i : goal.invariant-loop-i
invariant-loop-i l =
    (ms : List ℕ) × Listing (image_field (λ v. ltb v l.nonterminals) l.bytes) l.fn.size.at l.fn.size.value l._i l.next ms
    × MembersHeld l.bytes l.fn.size.at l.nonterminals l._i l.next ms
