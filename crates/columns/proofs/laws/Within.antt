-- Columns of the links of a sheet's expression: every node's token and links are in range, so they need no test before they are used.
use Rattle.std.proofs.Common.{sym, subst, arith}
use Rattle.std.specs.Prelude.{ℕ, ◌<◌}
use Rattle.sheet.specs.Limits.{most_tokens}
use Rattle.sheet.specs.Expression.{Expression, size}
use Rattle.columns.specs.declared.NodeColumns.{NodeColumns}
use Rattle.types.specs.Nodes.{nodes, node_at}
use Rattle.types.specs.laws.NodeRanges.{NodeInRange}
use Rattle.types.proofs.laws.NodeRanges.{in_range-more, node_in_range, nodes-in_range}
use Rattle.columns.specs.HeldNodes.{held_node}
use Rattle.columns.proofs.laws.HeldAt.{node_held}
use Rattle.columns.specs.Linked.{SheetExpression, LinksOf}
use Rattle.columns.specs.declared.NodeLinks.{NodeLinks}
use Rattle.columns.specs.laws.Within.{LinksFit}

-- The links of a sheet's expression are so.
pub links_fit : (c : NodeColumns) (links : NodeLinks) → SheetExpression c → LinksOf c links → LinksFit links
links_fit c links s l = record { count_fits = omega (arith, l.as_many, s.held.nodes_fit); all_within = within }
  where
    e : Expression
    e = s.expression

    within : (q : ℕ) → q < links.count → NodeInRange most_tokens links.count (held_node links.tag links.link links.guarded q)
    within q k = subst (NodeInRange most_tokens links.count) (sym (node_held links (nodes e) (l.linked e s.places s.held) q k))
        (in_range-more s.tokens most_tokens (size e) links.count (node_at (nodes e) q) s.tokens_most
        (omega (arith, l.counted e s.places s.held))
        (node_in_range s.tokens (size e) (nodes e) (nodes-in_range s.tokens e s.closed) q))
