-- "Each expression node has the least type (nullable, first set, follow-last set) that solves Figure 2's equations over the
-- whole expression": all nodes start with ⊥'s type, and the equations are applied to all of them until nothing changes.
use Rattle.std.specs.Prelude.{Bool, ◌&&◌, List, ℕ, ◌+◌, ◌*◌, get_or, eqb}
use Rattle.std.specs.Bool.{beq}
use Rattle.basics.specs.Settle.{least_solution}
use Rattle.sheet.specs.Expression.{Expression}
use Rattle.sheet.specs.Limits.{most_tokens}
use Rattle.types.specs.Types.{LanguageType, epsilon_type, bottom_type, token_type, Operation, sequence_type, alternative_type, repetition_type_with}
use Rattle.types.specs.Nodes.{Node, epsilon_node, bottom_node, token_node, sequence_node, alternative_node, fixed_point_node, variable_node, repetition_node, nodes}

-- The type of a node in a list of all nodes' types.
abbrev pub type_of : List LanguageType → ℕ → LanguageType
type_of types n = get_or types n bottom_type

-- The equation at a node, as `Types` has Figure 2, with an operation for the sequence. A fixed point has its body's type, and a variable its fixed
-- point's; so a repetition, as μβ.(ε ∨ g·β), goes by its own.
unfoldable pub node_type_with : Operation → List LanguageType → Node → LanguageType
node_type_with op types epsilon_node = epsilon_type
node_type_with op types bottom_node = bottom_type
node_type_with op types (token_node t) = token_type t
node_type_with op types (sequence_node l r) = op (type_of types l) (type_of types r)
node_type_with op types (alternative_node l r) = alternative_type (type_of types l) (type_of types r)
node_type_with op types (fixed_point_node b) = type_of types b
node_type_with op types (variable_node f guarded) = type_of types f
node_type_with op types (repetition_node b self) = repetition_type_with op (type_of types b) (type_of types self)

abbrev pub node_type : List LanguageType → Node → LanguageType
node_type = node_type_with sequence_type

unfoldable pub same_type : LanguageType → LanguageType → Bool
same_type a b = beq a.null b.null && (eqb a.first b.first && eqb a.flast b.flast)

-- How often a node's type can grow: once to nullable, and by each token of a sheet in each set.
abbrev pub type_height : ℕ
type_height = 1 + 2 * most_tokens

unfoldable pub types_of : List Node → List LanguageType
types_of ns = least_solution same_type bottom_type type_height node_type ns

-- The least types of all nodes of an expression, in sheet order.
unfoldable pub least_types : Expression → List LanguageType
least_types e = types_of (nodes e)
