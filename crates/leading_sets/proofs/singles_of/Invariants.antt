-- `leading_sets::singles_of` meets its contract. The loop's invariant: the answers for the positions below y have been written.
use Prim.Native.Nat.{◌^◌}
use lib.ListN.{drop}
use Rattle.leading_sets.specs.Leading.{leading_and_following}
use Rattle.leading_sets.proofs.Entries.{FirstEntries}
use Rattle.leading_sets.proofs.singles_of.Given as goal

abbrev pub invariant-loop-y : goal.invariant-loop-y
invariant-loop-y l = FirstEntries (λ z. leading_and_following (drop 256 l.tables) (2 ^ z)) 128 l.y l.singles
