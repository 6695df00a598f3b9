-- `fill_block` meets its contract. The loop's invariant: the pass has come to place q, and what is remembered by byte is right.
use mathlib.Core.Path.{◌≡◌}
use mathlib.Core.List.{List}
use Prim.Native.Nat.{◌≤◌}
use lib.ListN.{length, drop}
use Rattle.lexer.specs.Positions.{Position}
use Rattle.lexer.specs.Alive.{alive}
use Rattle.alive_scanner.specs.Blocks.{AliveReady}
use Rattle.alive_scanner.proofs.Remembered.{Remembered}
use Rattle.alive_scanner.proofs.Passes.{PassedTo}
use Rattle.alive_scanner.proofs.fill_block.Given as goal

abbrev pub invariant-loop-q : goal.invariant-loop-q
invariant-loop-q l =
    (l.from ≤ l.q) × (l.q ≤ l.to) × (length l.block ≡ 1024) × Remembered l.last l.unions l.sets l.held_sets
    × ((ps : List Position) → AliveReady ps l.last l.tables l.unions → l.after ≡ alive ps (drop l.to l.text) → PassedTo ps l.text l.to l.last l.tables l.block l.q l.set l.held)

abbrev pub decreases-loop-q : goal.decreases-loop-q
decreases-loop-q l = l.q
