-- In how many steps a descent from a node ends before it takes a token, whatever the tokens: through left parts, alternatives, bodies and
-- variables. Contracts cite it; the demands do not rest on it.
use Rattle.std.specs.Prelude.{ℕ, zero, suc}
use Rattle.types.specs.Nodes.{Node, epsilon_node, bottom_node, token_node, sequence_node, alternative_node, fixed_point_node, variable_node, repetition_node}

-- Of the nodes that a descent comes to from a node before it has taken a token.
abbrev pub PartsEnd : (ℕ → Type 0) → Node → Type 0
PartsEnd Ends epsilon_node = Unit
PartsEnd Ends bottom_node = Unit
PartsEnd Ends (token_node t) = Unit
PartsEnd Ends (sequence_node l r) = Ends l
PartsEnd Ends (alternative_node l r) = Ends l × Ends r
PartsEnd Ends (fixed_point_node b) = Ends b
PartsEnd Ends (variable_node f guarded) = Ends f
PartsEnd Ends (repetition_node b self) = Ends b

-- From the node n such a descent ends in k steps.
abbrev pub EndsIn : (ℕ → Node) → ℕ → ℕ → Type 0
EndsIn table zero n = ⊥
EndsIn table (suc k) n = PartsEnd (EndsIn table k) (table n)

-- The rank of every node.
abbrev pub most_rank : ℕ
most_rank = 64
