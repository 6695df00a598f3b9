-- Columns that hold a typed expression of a sheet: its nodes and their least types. A sheet that was checked has such columns; how they
-- are made is not said here.
use Rattle.std.specs.Prelude.{◌≡◌, ℕ, ◌≤◌}
use Rattle.std.proofs.Math.Option.{none}
use Rattle.sheet.specs.Expression.{Expression, size}
use Rattle.sheet.specs.Limits.{most_tokens, most_expression_nodes}
use Rattle.sheet.specs.WellFormed.{Closed}
use Rattle.types.specs.LeastTypes.{least_types}
use Rattle.types.specs.Nodes.{nodes}
use Rattle.types.specs.Questions.{type_fault}
use Rattle.columns.specs.HeldNodes.{held_nodes, held_types}
use Rattle.columns.specs.declared.NodeLinks.{NodeLinks}
use Rattle.columns.specs.declared.TypeColumns.{TypeColumns}

pub record HoldsTyped (links : NodeLinks) (types : TypeColumns) (e : Expression) : Type 0 where
  pub tokens : ℕ
  pub tokens_most : tokens ≤ most_tokens
  pub closed : Closed tokens 0 e
  pub nodes_most : size e ≤ most_expression_nodes
  pub links_most : links.count ≤ 64
  pub linked : held_nodes links ≡ nodes e
  pub typed : held_types links.count types ≡ least_types e
  pub no_fault : type_fault e ≡ none
