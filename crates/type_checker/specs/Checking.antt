-- What the type check of a sheet's expression promises.
use Rattle.std.specs.Prelude.{◌≡◌, List, ℕ}
use Rattle.sheet.specs.Expression.{Expression}
use Rattle.columns.specs.Holds.{NodesOf}
use Rattle.columns.specs.declared.NodeColumns.{NodeColumns}
use Rattle.types.specs.LeastTypes.{least_types}
use Rattle.types.specs.Questions.{type_fault}
use Rattle.columns.specs.HeldNodes.{held_types}
use Rattle.columns.specs.Linked.{LinksOf}
use Rattle.type_checker.specs.declared.Checked.{Checked}
use Rattle.type_checker.specs.Found.{fault_of}

-- The links, the least types and the first failed question, of every expression that the columns hold. (There is only one.)
pub record CheckedOf (c : NodeColumns) (r : Checked) : Type 0 where
  pub links_held : LinksOf c r.links
  pub types_held : (e : Expression) (places : List ℕ) → NodesOf c e places → held_types r.links.count r.types ≡ least_types e
  pub fault_found : (e : Expression) (places : List ℕ) → NodesOf c e places → fault_of r.fault ≡ type_fault e
