-- `Rows::reach` meets its contract. The loop's invariant: the rows up to row i are done, and those met lead to all rows.
use mathlib.Core.List.{List}
use Prim.Native.Nat.{◌-◌}
use Rattle.lexer.specs.Positions.{Position}
use Rattle.scanner.specs.Meaning.{Prepared}
use Rattle.table_builder.proofs.Reaching.{Reached}
use Rattle.table_builder.proofs.Rows.reach.Given as goal

abbrev pub invariant-loop-i : goal.invariant-loop-i
invariant-loop-i l = (ps : List Position) → Prepared ps l.last l.tables → Reached ps l.first l.rows.sets l.rows.count l.i

abbrev pub decreases-loop-i : goal.decreases-loop-i
decreases-loop-i l = 256 - l.i
