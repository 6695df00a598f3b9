-- `scanner::walk_once` meets its contract. The loop's invariant: where the walk is.
use mathlib.Core.List.{List}
use Prim.Native.Nat.{◌-◌, ◌≤◌}
use lib.ListN.{length}
use Rattle.lexer.specs.Positions.{Position}
use Rattle.scanner.specs.Meaning.{Prepared}
use Rattle.scanner.proofs.Once.{OnWay}
use Rattle.scanner.proofs.walk_once.Given as goal

abbrev pub invariant-loop-walked : goal.invariant-loop-walked
invariant-loop-walked l =
    ((ps : List Position) → Prepared ps l.last l.tables → OnWay ps l.text l.first l.kept l.held l.walked) × (l.walked ≤ length l.text)

abbrev pub decreases-loop-walked : goal.decreases-loop-walked
decreases-loop-walked l = length l.text - l.walked
