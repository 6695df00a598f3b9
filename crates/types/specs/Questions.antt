-- Questions 8 to 10: "For each expression node in sheet order: is the variable guarded (Figure 2's two contexts)? No: 8.
-- Is the sequence separable? No: 9. Are the alternatives apart? No: 10." Is the repetition's part separable from itself? No: 9. The
-- answer is the first node that fails.
use Rattle.std.specs.Prelude.{Bool, not, ◌&&◌, cond, List, [], ◌∷◌, ℕ, suc, eqb}
use Rattle.std.proofs.Math.Option.{Option, none, some}
use Rattle.std.specs.Int.Bits.{bit_and}
use Rattle.basics.specs.Lists.{or_else}
use Rattle.sheet.specs.Expression.{Expression}
use Rattle.types.specs.Types.{LanguageType}
use Rattle.types.specs.Nodes.{Node, epsilon_node, bottom_node, token_node, sequence_node, alternative_node, fixed_point_node, variable_node, repetition_node, nodes}
use Rattle.types.specs.LeastTypes.{type_of, least_types}

-- A question that fails, and the node at which it does.
pub record Fault : Type 0 where
  pub number : ℕ
  pub node : ℕ

-- The tests of Figure 2's side conditions.
unfoldable pub separable : LanguageType → LanguageType → Bool
separable a b = eqb (bit_and a.flast b.first) 0 && not a.null

unfoldable pub apart : LanguageType → LanguageType → Bool
apart a b = eqb (bit_and a.first b.first) 0 && not (a.null && b.null)

unfoldable pub unless : Bool → ℕ → ℕ → Option Fault
unless passes number p = cond passes none (some (record { number = number; node = p }))

-- The one question that a node's kind is asked.
unfoldable pub node_fault : List LanguageType → Node → ℕ → Option Fault
node_fault types epsilon_node p = none
node_fault types bottom_node p = none
node_fault types (token_node t) p = none
node_fault types (sequence_node l r) p = unless (separable (type_of types l) (type_of types r)) 9 p
node_fault types (alternative_node l r) p = unless (apart (type_of types l) (type_of types r)) 10 p
node_fault types (fixed_point_node b) p = none
node_fault types (variable_node f guarded) p = unless guarded 8 p
node_fault types (repetition_node b self) p = unless (separable (type_of types b) (type_of types b)) 9 p

-- In sheet order, from node p on.
unfoldable pub first_fault : List LanguageType → List Node → ℕ → Option Fault
first_fault types [] p = none
first_fault types (n ∷ ns) p = or_else (node_fault types n p) (first_fault types ns (suc p))

unfoldable pub type_fault : Expression → Option Fault
type_fault e = first_fault (least_types e) (nodes e) 0
