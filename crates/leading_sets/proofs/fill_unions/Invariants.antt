-- `leading_sets::fill_unions` meets its contract. The loop's invariant: the words below k have been written.
use lib.ListN.{drop}
use Rattle.leading_sets.specs.Leading.{leading_and_following, set_of_word}
use Rattle.leading_sets.proofs.Entries.{FirstEntries}
use Rattle.leading_sets.proofs.fill_unions.Given as goal

abbrev pub invariant-loop-k : goal.invariant-loop-k
invariant-loop-k l = FirstEntries (λ z. leading_and_following (drop 256 l.tables) (set_of_word z)) 4096 l.k l.unions
