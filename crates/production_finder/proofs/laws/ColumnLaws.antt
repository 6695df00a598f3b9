-- Columns that hold the nodes and the least types of an expression without fault are columns of it.
use Rattle.std.specs.Prelude.{◌≡◌, ℕ, ◌≤◌, ◌<◌, get_or}
use Rattle.std.proofs.Math.Path.{sym, ap}
use Rattle.std.proofs.Common.{◌∙◌, arith, zero-add}
use Rattle.std.proofs.Math.Option.{none}
use Rattle.std.proofs.Math.ListN.{length}
use Rattle.sheet.specs.Expression.{Expression, size}
use Rattle.sheet.specs.Limits.{most_tokens, most_expression_nodes}
use Rattle.sheet.specs.WellFormed.{Closed}
use Rattle.types.specs.Types.{LanguageType, bottom_type}
use Rattle.types.specs.Nodes.{bottom_node, nodes, node_at}
use Rattle.types.specs.LeastTypes.{type_of, least_types}
use Rattle.types.specs.Questions.{type_fault}
use Rattle.columns.proofs.laws.TabulateLaws.{tabulate-length, tabulate-at}
use Rattle.columns.specs.HeldNodes.{held_node, held_nodes, held_type, held_types}
use Rattle.columns.specs.declared.NodeLinks.{NodeLinks}
use Rattle.columns.specs.declared.TypeColumns.{TypeColumns}
use Rattle.normal_form.proofs.laws.Places.{nodes-count}
use Rattle.production_finder.specs.Columns.{ColumnsOf}

module _ (links : NodeLinks) (types : TypeColumns) (e : Expression) (held : held_nodes links ≡ nodes e)
    (typed : held_types links.count types ≡ least_types e) where
  pub count_is_size : links.count ≡ size e
  unfolding held_nodes
  count_is_size = sym (tabulate-length (held_node links.tag links.link links.guarded) 0 links.count)
      ∙ (ap length held ∙ nodes-count e)

  node_here : (n : ℕ) → n < size e → held_node links.tag links.link links.guarded n ≡ node_at (nodes e) n
  unfolding held_nodes
  node_here n l = let c = count_is_size in
      sym (tabulate-at (held_node links.tag links.link links.guarded) bottom_node 0 links.count n (omega arith)
      ∙ ap (held_node links.tag links.link links.guarded) (zero-add n)) ∙ ap (λ l. node_at l n) held

  first_here : (n : ℕ) → n < size e → get_or types.first n 0 ≡ (type_of (least_types e) n).first
  unfolding held_types held_type
  first_here n l = let c = count_is_size in
      sym (ap (λ (a : LanguageType). a.first)
      (tabulate-at (held_type types.null types.first types.flast) bottom_type 0 links.count n (omega arith)
      ∙ ap (held_type types.null types.first types.flast) (zero-add n)))
      ∙ ap (λ l. (type_of l n).first) typed

  pub columns_of : (tokens : ℕ) → tokens ≤ most_tokens → Closed tokens 0 e → size e ≤ most_expression_nodes → type_fault e ≡ none
      → ColumnsOf links.tag links.link types.first e
  columns_of tokens most closed small right = record {
    tokens = tokens;
    tokens_most = most;
    closed = closed;
    nodes_most = small;
    no_fault = right;
    guarded = links.guarded;
    nodes_held = node_here;
    first_held = first_here;
  }
