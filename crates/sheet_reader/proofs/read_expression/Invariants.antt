-- `sheet_reader::read_expression` meets its contract. The loop's invariant: whatever answers the rest, from the columns
-- and the expressions due so far, answers the whole.
use mathlib.Core.List.{[], ◌∷◌}
use Prim.Native.Nat.{◌-◌, ◌≤◌}
use lib.ListN.{length}
use Rattle.sheet.specs.Reading.{expression_nodes}
use Rattle.sheet_reader.specs.Put.{with_read_node, no_nodes, pending}
use Rattle.sheet_reader.proofs.Leading.{Leads}
use Rattle.sheet_reader.proofs.ExpressionTurns.{PendingFit, nodes_still}
use Rattle.sheet_reader.proofs.read_expression.Given as goal

abbrev pub invariant-loop-due : goal.invariant-loop-due
invariant-loop-due l =
    (l.place ≤ length l.sheet) × PendingFit l.nodes (pending l.due l.opened)
    × Leads with_read_node (length l.sheet) (nodes_still l.sheet l.tokens l.nodes (pending l.due l.opened) l.place) l.nodes
    (expression_nodes l.sheet l.tokens 64 (0 ∷ []) l.at) no_nodes

abbrev pub decreases-loop-due : goal.decreases-loop-due
decreases-loop-due l = 64 - l.nodes.count
