-- Which nodes a node's equation goes by, and for each node the set of those that go by it. In what order they are raised is not said here.
use Rattle.std.specs.Prelude.{◌≡◌, List, ◌⊎◌, ℕ, ◌<◌, get_or}
use Rattle.basics.specs.Bits.{◌∈◌}
use Rattle.types.specs.Nodes.{Node, epsilon_node, bottom_node, token_node, sequence_node, alternative_node, fixed_point_node, variable_node, repetition_node}
use Rattle.columns.specs.HeldNodes.{held_node}
use Rattle.columns.specs.declared.NodeLinks.{NodeLinks}

-- The node's equation has the type of node k.
unfoldable pub GoesBy : Node → ℕ → Type 0
GoesBy epsilon_node k = ⊥
GoesBy bottom_node k = ⊥
GoesBy (token_node t) k = ⊥
GoesBy (sequence_node l r) k = (k ≡ l) ⊎ (k ≡ r)
GoesBy (alternative_node l r) k = (k ≡ l) ⊎ (k ≡ r)
GoesBy (fixed_point_node b) k = k ≡ b
GoesBy (variable_node v guarded) k = k ≡ v
GoesBy (repetition_node b self) k = (k ≡ b) ⊎ (k ≡ self)

-- A set for each node: of the first so many nodes, all that go by it, and perhaps others of them.
pub record DependentsBelow (links : NodeLinks) (count : ℕ) (sets : List ℕ) : Type 0 where
  pub all_in : (n k : ℕ) → n < count → GoesBy (held_node links.tag links.link links.guarded n) k → n ∈ get_or sets k 0
  pub below_count : (n k : ℕ) → n ∈ get_or sets k 0 → n < count
