-- One node's type raised by its equation. In what order nodes are raised, and where that leads, is not said here.
use Rattle.std.specs.Prelude.{◌≡◌, List, ℕ, set}
use Rattle.types.specs.Types.{LanguageType, alternative_type}
use Rattle.types.specs.Nodes.{Node, node_at}
use Rattle.types.specs.LeastTypes.{type_of, node_type}
use Rattle.columns.specs.declared.NodeLinks.{NodeLinks}
use Rattle.columns.specs.declared.TypeColumns.{TypeColumns}
use Rattle.type_checker.specs.laws.TypeBy.{type_by}
use Rattle.type_checker.specs.Found.{linked_node, type_in}

-- What node k has, and what its equation gives it.
abbrev pub grown : List Node → ℕ → List LanguageType → LanguageType
grown ns k types = alternative_type (type_of types k) (node_type types (node_at ns k))

unfoldable pub raised_at : List Node → ℕ → List LanguageType → List LanguageType
raised_at ns k types = set types k (grown ns k types)

-- The same in columns: no other node's type has changed.
pub record RaisedIn (links : NodeLinks) (old : TypeColumns) (i : ℕ) (new : TypeColumns) : Type 0 where
  pub here : type_in new i ≡ alternative_type (type_in old i) (type_by (type_in old) (linked_node links i))
  pub others : (q : ℕ) → (q ≡ i → ⊥) → type_in new q ≡ type_in old q
