-- `find_ahead` meets its contract. The loop's invariant: the words found so far lead to place p.
use mathlib.Core.Path.{◌≡◌}
use mathlib.Core.List.{List}
use Prim.Native.Nat.{ℕ, ◌+◌, ◌-◌, ◌≤◌}
use lib.ListN.{length}
use Rattle.lexer.specs.Positions.{Position}
use Rattle.alive_scanner.specs.Blocks.{HeldBefore, AliveHeld}
use Rattle.alive_scanner.proofs.AheadLaws.{FoundTo}
use Rattle.alive_scanner.proofs.find_ahead.Given as goal

abbrev pub invariant-loop-p : goal.invariant-loop-p
invariant-loop-p l =
    (l.count ≤ 1024) × (l.place + l.count ≤ l.p) × (l.p ≤ length l.text) × (l.end ≤ l.p + 1024) × (length l.block ≡ 1024) × (length l.words ≡ 1024)
    × ((ps : List Position) (k : ℕ) → AliveHeld ps l.given.last l.given.tables.now l.given.unions.now l.text k l.marks l.place l.held_end l.initial.block
    → FoundTo ps l.given.first l.text l.place l.p l.count l.words × HeldBefore ps l.text l.end l.block)

abbrev pub decreases-loop-p : goal.decreases-loop-p
decreases-loop-p l = length l.text - l.p
