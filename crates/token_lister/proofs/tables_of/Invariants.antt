-- `tables_of` meets its contract. The loop's invariant: the tables hold the positions so far.
use mathlib.Core.Path.{◌≡◌}
use Prim.Native.Nat.{◌≤◌}
use lib.ListN.{length, take}
use Rattle.columns.specs.HeldPositions.{held_positions}
use Rattle.class_table.specs.Holding.{Holding}
use Rattle.token_lister.proofs.tables_of.Given as goal

abbrev pub invariant-loop-i : goal.invariant-loop-i
invariant-loop-i l =
    (l.positions.count ≤ 64) × (length l.tables ≡ 448) × Holding (take l.i (held_positions l.positions)) l.tables
