-- `scanner::longest_match` meets its contract. The loop's invariant: the walk over the rest of the text, from the held set and the
-- match so far, gives the longest match of the whole text; and what is held follows from the positions kept by the byte before.
use mathlib.Core.Path.{◌≡◌}
use mathlib.Core.List.{List}
use Prim.Native.Nat.{◌-◌, ◌≤◌}
use lib.ListN.{length, drop}
use Rattle.lexer.specs.Positions.{Position}
use Rattle.lexer.specs.Walk.{follows, walk, longest_match}
use Rattle.scanner.specs.Meaning.{Prepared}
use Rattle.scanner.proofs.Text.{so_far}
use Rattle.scanner.proofs.longest_match.Given as goal

abbrev pub invariant-loop-n : goal.invariant-loop-n
invariant-loop-n l =
    (l.n ≤ length l.text) × ((ps : List Position) → Prepared ps l.last l.tables
    → (walk ps l.held (drop l.n l.text) l.n (so_far (drop 320 l.tables) l.last l.kept l.n l.earlier) ≡ longest_match ps l.first l.text) × (l.held ≡ follows ps 0 l.kept))

abbrev pub decreases-loop-n : goal.decreases-loop-n
decreases-loop-n l = length l.text - l.n
