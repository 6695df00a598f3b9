-- The parts of the type check put together.
use mathlib.Core.Path.{◌≡◌, ap, ap₂, ◌∙◌}
use mathlib.Core.List.{List}
use Prim.Native.Nat.{ℕ}
use Rattle.sheet.specs.Expression.{Expression}
use Rattle.columns.specs.Holds.{NodesOf}
use Rattle.columns.specs.declared.NodeColumns.{NodeColumns}
use Rattle.types.specs.LeastTypes.{types_of, least_types}
use Rattle.types.specs.Questions.{first_fault, type_fault}
use Rattle.columns.specs.HeldNodes.{held_nodes, held_types}
use Rattle.columns.specs.Linked.{LinksOf}
use Rattle.type_checker.specs.declared.Checked.{Checked}
use Rattle.type_checker.specs.Found.{fault_of}
use Rattle.type_checker.specs.Checking.{CheckedOf}

pub checked-all : (c : NodeColumns) (r : Checked) → LinksOf c r.links → held_types r.links.count r.types ≡ types_of (held_nodes r.links)
    → fault_of r.fault ≡ first_fault (held_types r.links.count r.types) (held_nodes r.links) 0 → CheckedOf c r
unfolding least_types type_fault
checked-all c r links types fault = record {
  links_held = links;
  types_held = typed;
  fault_found = λ e places h. fault ∙ ap₂ (λ t n. first_fault t n 0) (typed e places h) (links.linked e places h);
}
  where
    typed : (e : Expression) (places : List ℕ) → NodesOf c e places → held_types r.links.count r.types ≡ least_types e
    typed e places h = types ∙ ap types_of (links.linked e places h)
