-- An expression's nodes in sheet order, each with the nodes that it goes by. A node is its place in this list.
use Rattle.std.specs.Prelude.{Bool, true, false, List, [], ◌∷◌, ◌++◌, map, ℕ, suc, ◌+◌, get_or}
use Rattle.sheet.specs.Expression.{Expression, epsilon, bottom, token, sequence, alternative, fixed_point, variable, repetition, size}

pub data Node : Type 0 where
  epsilon_node : Node
  bottom_node : Node
  token_node : ℕ → Node
  -- the left part, and the right part
  sequence_node : ℕ → ℕ → Node
  alternative_node : ℕ → ℕ → Node
  -- the body
  fixed_point_node : ℕ → Node
  -- the variable's own fixed point, and whether the variable is guarded: whether it stands in Figure 2's Γ
  variable_node : ℕ → Bool → Node
  -- the part, and the repetition itself
  repetition_node : ℕ → ℕ → Node

-- An open fixed point: its node, and whether its variable is guarded by now.
pub record Binder : Type 0 where
  pub node : ℕ
  pub guarded : Bool

abbrev pub no_binder : Binder
no_binder = record { node = 0; guarded = false }

-- In the right part of a sequence every open variable is guarded.
abbrev pub guard : Binder → Binder
guard b = record { node = b.node; guarded = true }

-- The nodes of an expression whose own node is p, inside the open fixed points, the innermost first.
unfoldable pub nodes_from : Expression → ℕ → List Binder → List Node
unfolding size
nodes_from epsilon p open_ones = epsilon_node ∷ []
nodes_from bottom p open_ones = bottom_node ∷ []
nodes_from (token k) p open_ones = token_node k ∷ []
nodes_from (sequence g h) p open_ones =
    sequence_node (suc p) (suc p + size g) ∷ (nodes_from g (suc p) open_ones ++ nodes_from h (suc p + size g) (map guard open_ones))
nodes_from (alternative g h) p open_ones =
    alternative_node (suc p) (suc p + size g) ∷ (nodes_from g (suc p) open_ones ++ nodes_from h (suc p + size g) open_ones)
nodes_from (fixed_point g) p open_ones =
    fixed_point_node (suc p) ∷ nodes_from g (suc p) (record { node = p; guarded = false } ∷ open_ones)
nodes_from (variable n) p open_ones = let b = get_or open_ones n no_binder in variable_node b.node b.guarded ∷ []
nodes_from (repetition g) p open_ones = repetition_node (suc p) p ∷ nodes_from g (suc p) open_ones

-- The nodes of a sheet's expression; the start is node 0.
unfoldable pub nodes : Expression → List Node
nodes e = nodes_from e 0 []

-- Past the end of the list there is a node that has no productions and no words, as ⊥ has none.
abbrev pub node_at : List Node → ℕ → Node
node_at ns n = get_or ns n bottom_node
