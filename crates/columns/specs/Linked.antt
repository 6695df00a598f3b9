-- When columns of links are those of a sheet's expression. How they are made is not said here.
use Rattle.std.specs.Prelude.{◌≡◌, List, ℕ, ◌≤◌}
use Rattle.sheet.specs.Expression.{Expression, size}
use Rattle.sheet.specs.Limits.{most_tokens}
use Rattle.sheet.specs.WellFormed.{Closed}
use Rattle.columns.specs.Holds.{NodesOf}
use Rattle.columns.specs.declared.NodeColumns.{NodeColumns}
use Rattle.types.specs.Nodes.{nodes}
use Rattle.columns.specs.HeldNodes.{held_nodes}
use Rattle.columns.specs.declared.NodeLinks.{NodeLinks}

-- The columns hold an expression of a sheet: with no open fixed point, and at most as many tokens as a sheet may have.
pub record SheetExpression (c : NodeColumns) : Type 0 where
  pub expression : Expression
  pub tokens : ℕ
  pub places : List ℕ
  pub held : NodesOf c expression places
  pub closed : Closed tokens 0 expression
  pub tokens_most : tokens ≤ most_tokens

-- The links are those of every expression that the columns hold. (There is only one.)
pub record LinksOf (c : NodeColumns) (links : NodeLinks) : Type 0 where
  pub as_many : links.count ≡ c.count
  pub counted : (e : Expression) (places : List ℕ) → NodesOf c e places → links.count ≡ size e
  pub linked : (e : Expression) (places : List ℕ) → NodesOf c e places → held_nodes links ≡ nodes e
