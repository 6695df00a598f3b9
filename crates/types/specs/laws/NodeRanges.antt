-- The ranges of a node: its token is below a bound, and so is every node that it goes by. A closed expression's nodes have them, so that
-- nothing that goes by them need test.
use Rattle.std.specs.Prelude.{ℕ, ◌<◌}
use Rattle.types.specs.Nodes.{Node, epsilon_node, bottom_node, token_node, sequence_node, alternative_node, fixed_point_node, variable_node, repetition_node}

abbrev pub NodeInRange : ℕ → ℕ → Node → Type 0
NodeInRange tokens count epsilon_node = Unit
NodeInRange tokens count bottom_node = Unit
NodeInRange tokens count (token_node t) = t < tokens
NodeInRange tokens count (sequence_node l r) = (l < count) × (r < count)
NodeInRange tokens count (alternative_node l r) = (l < count) × (r < count)
NodeInRange tokens count (fixed_point_node b) = b < count
NodeInRange tokens count (variable_node f guarded) = f < count
NodeInRange tokens count (repetition_node b self) = (b < count) × (self < count)
