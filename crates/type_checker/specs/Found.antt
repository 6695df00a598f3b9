-- What the code's values stand for: a node, a node's type, and a failed question.
use Rattle.std.specs.Prelude.{ℕ, Option, Some, None}
use Rattle.std.proofs.Math.Option as maybe
use Rattle.types.specs.Types.{LanguageType}
use Rattle.types.specs.Nodes.{Node}
use Rattle.types.specs.Questions as questions
use Rattle.columns.specs.HeldNodes.{held_node, held_type}
use Rattle.columns.specs.declared.NodeLinks.{NodeLinks}
use Rattle.columns.specs.declared.TypeColumns.{TypeColumns}
use Rattle.type_checker.specs.declared.NodeType.{NodeType}
use Rattle.type_checker.specs.declared.Fault.{Fault}

abbrev pub language_type : NodeType → LanguageType
language_type t = record { null = t.null; first = t.first; flast = t.flast }

-- Node i of columns of links, and the type that columns of types give it.
abbrev pub linked_node : NodeLinks → ℕ → Node
linked_node links = held_node links.tag links.link links.guarded

abbrev pub type_in : TypeColumns → ℕ → LanguageType
type_in c = held_type c.null c.first c.flast

-- The failed question of each case.
unfoldable pub fault_of : Option Fault → maybe.Option questions.Fault
fault_of None = maybe.none
fault_of (Some f) = maybe.some (record { number = f.question; node = f.node })

-- The question that failed at node p, if one did.
unfoldable pub asked : Option ℕ → ℕ → maybe.Option questions.Fault
asked None p = maybe.none
asked (Some number) p = maybe.some (record { number = number; node = p })
