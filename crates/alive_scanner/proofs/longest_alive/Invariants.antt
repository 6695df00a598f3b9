-- `longest_alive` meets its contract. The loop's invariant: the walk with alive positions has come to place q.
use mathlib.Core.Path.{◌≡◌}
use mathlib.Core.List.{List}
use Prim.Native.Nat.{ℕ, ◌+◌, ◌-◌, ◌≤◌}
use lib.ListN.{length}
use Rattle.lexer.specs.Positions.{Position}
use Rattle.alive_scanner.specs.Blocks.{HeldBefore, AliveHeld}
use Rattle.alive_scanner.proofs.CutWalk.{CutTo}
use Rattle.alive_scanner.proofs.longest_alive.Given as goal

abbrev pub invariant-loop-q : goal.invariant-loop-q
invariant-loop-q l =
    (l.place ≤ l.q) × (l.q ≤ length l.text) × (l.end ≤ l.q + 1024) × (length l.block ≡ 1024)
    × ((ps : List Position) (k : ℕ) → AliveHeld ps l.last l.tables l.unions l.text k l.marks l.place l.held_end l.initial.block
    → HeldBefore ps l.text l.end l.block × CutTo ps l.given.first l.text l.place l.q l.held l.kept)

abbrev pub decreases-loop-q : goal.decreases-loop-q
decreases-loop-q l = length l.text - l.q
