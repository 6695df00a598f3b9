-- A node's equation and its question, from a function that gives each node's type. The code reads types out of columns, the
-- definitions out of a list: on nodes that the list has, both are the same.
use Rattle.std.specs.Prelude.{ℕ}
use Rattle.std.proofs.Math.Option.{Option, none}
use Rattle.types.specs.Types.{LanguageType, epsilon_type, bottom_type, token_type, sequence_type, alternative_type, repetition_type}
use Rattle.types.specs.Nodes.{Node, epsilon_node, bottom_node, token_node, sequence_node, alternative_node, fixed_point_node, variable_node, repetition_node}
use Rattle.types.specs.Questions.{Fault, separable, apart, unless}

unfoldable pub type_by : (ℕ → LanguageType) → Node → LanguageType
type_by f epsilon_node = epsilon_type
type_by f bottom_node = bottom_type
type_by f (token_node t) = token_type t
type_by f (sequence_node l r) = sequence_type (f l) (f r)
type_by f (alternative_node l r) = alternative_type (f l) (f r)
type_by f (fixed_point_node b) = f b
type_by f (variable_node v guarded) = f v
type_by f (repetition_node b self) = repetition_type (f b) (f self)

unfoldable pub fault_by : (ℕ → LanguageType) → Node → ℕ → Option Fault
fault_by f epsilon_node p = none
fault_by f bottom_node p = none
fault_by f (token_node t) p = none
fault_by f (sequence_node l r) p = unless (separable (f l) (f r)) 9 p
fault_by f (alternative_node l r) p = unless (apart (f l) (f r)) 10 p
fault_by f (fixed_point_node b) p = none
fault_by f (variable_node v guarded) p = unless guarded 8 p
fault_by f (repetition_node b self) p = unless (separable (f b) (f b)) 9 p
