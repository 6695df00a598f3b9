-- Questions 8 to 10 in Figure 2's terms: "For each expression node in sheet order: is the variable guarded (Figure 2's two contexts)?
-- No: 8. Is the sequence separable? No: 9. Are the alternatives apart? No: 10." And of a repetition, "its part must be separable from
-- itself, else 9 at tag 7". At the least types; no search is named here.
use Rattle.std.specs.Prelude.{false, List, ℕ, ◌<◌}
use Rattle.sheet.specs.Expression.{Expression}
use Rattle.types.specs.Types.{LanguageType, Separable, Apart}
use Rattle.types.specs.Nodes.{Node, sequence_node, alternative_node, variable_node, repetition_node, nodes, node_at}
use Rattle.types.specs.LeastTypes.{type_of}
use Rattle.types.specs.LeastSolution.{LeastSolution}

-- A node fails the question with this number. Each node is asked one question at most.
pub data Fails (types : List LanguageType) : Node → ℕ → Type 0 where
  not_guarded : {f : ℕ} → Fails types (variable_node f false) 8
  not_separable : {l r : ℕ} → (Separable (type_of types l) (type_of types r) → ⊥) → Fails types (sequence_node l r) 9
  not_apart : {l r : ℕ} → (Apart (type_of types l) (type_of types r) → ⊥) → Fails types (alternative_node l r) 10
  not_self_separable : {b self : ℕ} → (Separable (type_of types b) (type_of types b) → ⊥) → Fails types (repetition_node b self) 9

-- Node n of the expression is the first in sheet order that fails, and it fails this question.
pub record TypeFault (e : Expression) (n question : ℕ) : Type 0 where
  pub types : List LanguageType
  pub least : LeastSolution (nodes e) types
  pub fails : Fails types (node_at (nodes e) n) question
  pub first : (m other : ℕ) → m < n → Fails types (node_at (nodes e) m) other → ⊥

-- No node fails.
pub record NoTypeFault (e : Expression) : Type 0 where
  pub types : List LanguageType
  pub least : LeastSolution (nodes e) types
  pub none_fails : (m other : ℕ) → Fails types (node_at (nodes e) m) other → ⊥
