-- Which nodes derive a token sequence; the empty one counts. All nodes start with none, and the equations are applied to all
-- of them, round by round.
use Rattle.std.specs.Prelude.{Bool, true, false, ◌&&◌, ◌||◌, List, get_or, length}
use Rattle.basics.specs.Rounds.{rounds}
use Rattle.sheet.specs.Expression.{Expression}
use Rattle.types.specs.Nodes.{Node, epsilon_node, bottom_node, token_node, sequence_node, alternative_node, fixed_point_node, variable_node, repetition_node, nodes}

unfoldable pub node_derives : List Bool → Node → Bool
node_derives derives epsilon_node = true
node_derives derives bottom_node = false
node_derives derives (token_node t) = true
node_derives derives (sequence_node l r) = get_or derives l false && get_or derives r false
node_derives derives (alternative_node l r) = get_or derives l false || get_or derives r false
node_derives derives (fixed_point_node b) = get_or derives b false
node_derives derives (variable_node f guarded) = get_or derives f false
-- It derives the empty sequence, whatever its part derives.
node_derives derives (repetition_node b self) = true

-- A node's flag can change once, and each round but the last changes one: a round for each node is enough.
unfoldable pub derives : Expression → List Bool
derives e = rounds false node_derives (nodes e) (length (nodes e))
