-- A node's equation and its question, from a function that gives each node's type. The code reads types out of columns, the
-- definitions out of a list: on nodes that the list has, both are the same.
use Rattle.std.specs.Prelude.{◌≡◌, ℕ, ◌<◌}
use Rattle.std.proofs.Math.Path.{refl, ap, ap₂}
use Rattle.std.proofs.Common.{◌∙◌, arith}
use Rattle.types.specs.Types.{LanguageType, bottom_type, sequence_type, alternative_type, repetition_type}
use Rattle.types.specs.Nodes.{Node, epsilon_node, bottom_node, token_node, sequence_node, alternative_node, fixed_point_node, variable_node, repetition_node}
use Rattle.types.specs.LeastTypes.{type_of, node_type, node_type_with}
use Rattle.types.specs.Questions.{separable, apart, unless, node_fault}
use Rattle.columns.specs.Tabulate.{tabulate}
use Rattle.columns.proofs.laws.TabulateLaws.{tabulate-at}
use Rattle.sheet.specs.Limits.{most_tokens}
use Rattle.types.specs.laws.NodeRanges.{NodeInRange}
use Rattle.type_checker.specs.laws.TypeBy.{fault_by, type_by}

module _ (f : ℕ → LanguageType) (n : ℕ) where
  pub type_of-listed : (k : ℕ) → k < n → type_of (tabulate f 0 n) k ≡ f k
  type_of-listed k l = tabulate-at f bottom_type 0 n k l ∙ ap f (omega arith)

  pub node_type_by : (x : Node) → NodeInRange most_tokens n x → node_type (tabulate f 0 n) x ≡ type_by f x
  unfolding node_type_with type_by
  node_type_by epsilon_node w = refl
  node_type_by bottom_node w = refl
  node_type_by (token_node t) w = refl
  node_type_by (sequence_node l r) w = ap₂ sequence_type (type_of-listed l w.0) (type_of-listed r w.1)
  node_type_by (alternative_node l r) w = ap₂ alternative_type (type_of-listed l w.0) (type_of-listed r w.1)
  node_type_by (fixed_point_node b) w = type_of-listed b w
  node_type_by (variable_node v guarded) w = type_of-listed v w
  node_type_by (repetition_node b self) w = ap₂ repetition_type (type_of-listed b w.0) (type_of-listed self w.1)

  pub node_fault_by : (x : Node) (p : ℕ) → NodeInRange most_tokens n x → node_fault (tabulate f 0 n) x p ≡ fault_by f x p
  unfolding node_fault fault_by
  node_fault_by epsilon_node p w = refl
  node_fault_by bottom_node p w = refl
  node_fault_by (token_node t) p w = refl
  node_fault_by (sequence_node l r) p w = ap (λ b. unless b 9 p) (ap₂ separable (type_of-listed l w.0) (type_of-listed r w.1))
  node_fault_by (alternative_node l r) p w = ap (λ b. unless b 10 p) (ap₂ apart (type_of-listed l w.0) (type_of-listed r w.1))
  node_fault_by (fixed_point_node b) p w = refl
  node_fault_by (variable_node v guarded) p w = refl
  node_fault_by (repetition_node b self) p w = ap (λ t. unless (separable t t) 9 p) (type_of-listed b w.0)
