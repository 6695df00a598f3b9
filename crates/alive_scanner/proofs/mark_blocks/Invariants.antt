-- `mark_blocks` meets its contract. The loop's invariant: the marks from block k on are right.
use mathlib.Core.Path.{◌≡◌}
use mathlib.Core.List.{List}
use Prim.Native.Nat.{◌+◌, ◌*◌, ◌≤◌}
use lib.ListN.{length}
use Rattle.lexer.specs.Positions.{Position}
use Rattle.alive_scanner.specs.Blocks.{AliveReady}
use Rattle.alive_scanner.proofs.Passes.{MarkedTo}
use Rattle.alive_scanner.proofs.mark_blocks.Given as goal

abbrev pub invariant-loop-k : goal.invariant-loop-k
invariant-loop-k l =
    (l.k ≤ 1024) × (l.end ≤ length l.given.text.now) × (l.end ≤ l.k * 1024) × (l.k * 1024 ≤ l.end + 1023) × (length l.marks ≡ 1024) × (length l.block ≡ 1024)
    × ((ps : List Position) → AliveReady ps l.given.last l.given.tables.now l.given.unions.now → MarkedTo ps l.given.text.now l.marks l.k l.end l.set)

abbrev pub decreases-loop-k : goal.decreases-loop-k
decreases-loop-k l = l.k
