-- What columns hold of a typed expression, and what the results of the code stand for. That the results are right is proved
-- elsewhere.
use Rattle.std.specs.Prelude.{◌≡◌, List, ℕ, ◌≤◌, ◌<◌, get_or, take, Option, Some, None, ⊤}
use Rattle.std.proofs.Math.Option as maybe
use Rattle.std.proofs.Math.Option.{none, some}
use Rattle.sheet.specs.Expression.{Expression, size}
use Rattle.sheet.specs.Limits.{most_tokens, most_expression_nodes}
use Rattle.sheet.specs.WellFormed.{Closed}
use Rattle.types.specs.Nodes.{nodes, node_at}
use Rattle.types.specs.LeastTypes.{type_of, least_types}
use Rattle.types.specs.Questions.{type_fault}
use Rattle.columns.specs.HeldNodes.{held_node}
use Rattle.normal_form.specs.Productions.{Production}
use Rattle.normal_form.specs.ProductionWalk.{with_head}
use Rattle.production_finder.specs.declared.Tail.{Tail}

-- The columns of tags, links and FIRST sets are those of a typed expression of a sheet. Which variables are guarded has been asked
-- already, and the columns need not say it.
pub record ColumnsOf (tag link first : List ℕ) (e : Expression) : Type 0 where
  pub tokens : ℕ
  pub tokens_most : tokens ≤ most_tokens
  pub closed : Closed tokens 0 e
  pub nodes_most : size e ≤ most_expression_nodes
  pub no_fault : type_fault e ≡ none
  pub guarded : ℕ
  pub nodes_held : (n : ℕ) → n < size e → held_node tag link guarded n ≡ node_at (nodes e) n
  pub first_held : (n : ℕ) → n < size e → get_or first n 0 ≡ (type_of (least_types e) n).first

-- What holds of every tail: its count is within the array. The members past the count are free.
abbrev pub TailCounted : Option Tail → Type 0
TailCounted None = ⊤
TailCounted (Some r) = r.count ≤ 32

-- The tail that the code has found, if any.
abbrev pub tail_held : Option Tail → maybe.Option (List ℕ)
tail_held None = none
tail_held (Some r) = some (take r.count r.members)

-- The same as a production for a token.
unfoldable pub production_held : ℕ → Option Tail → maybe.Option Production
production_held t r = with_head t (tail_held r)
