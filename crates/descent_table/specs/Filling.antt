-- How the table is filled: the entries of a node's parts from the node's own, and the five entries of a node. That the table is then an
-- expression's is proved elsewhere.
use Rattle.std.specs.Prelude.{cond, ◌≡◌, List, ℕ, suc, ◌+◌, ◌≤◌, ◌<◌, get_or, set}
use Rattle.basics.specs.Bits.{bit}
use Rattle.sheet.specs.Expression.{Expression, size}
use Rattle.types.specs.Nodes.{Node, epsilon_node, bottom_node, token_node, sequence_node, alternative_node, fixed_point_node, variable_node, repetition_node, nodes, node_at}
use Rattle.columns.specs.declared.NodeLinks.{NodeLinks}
use Rattle.columns.specs.declared.TypeColumns.{TypeColumns}
use Rattle.descent_table.specs.TableOf.{PartsUp, tag_at, link_at, up_at, null_at, first_at}

-- The column of the nearest nodes above, once the entries of node n's parts are set.
unfoldable pub with_parts : Node → ℕ → List ℕ → List ℕ
with_parts epsilon_node n up = up
with_parts bottom_node n up = up
with_parts (token_node t) n up = up
with_parts (sequence_node l r) n up = set (set up l (suc n)) r (get_or up n 0)
with_parts (alternative_node l r) n up = set (set up l (get_or up n 0)) r (get_or up n 0)
with_parts (fixed_point_node b) n up = set up b (get_or up n 0)
with_parts (variable_node f guarded) n up = up
with_parts (repetition_node b self) n up = set up b (suc n)

-- The column is right for every node.
pub record UpColumn (e : Expression) (up : List ℕ) : Type 0 where
  pub below : (n : ℕ) → n < size e → get_or up n 0 ≤ n
  pub parts : (n : ℕ) → n < size e → PartsUp (λ k. get_or up k 0) n (node_at (nodes e) n)

-- The table, once the entries of node n are set.
unfoldable pub with_row : List ℕ → ℕ → ℕ → ℕ → ℕ → ℕ → ℕ → List ℕ
with_row table n tag link up null first =
    set (set (set (set (set table n tag) (64 + n) link) (128 + n) up) (192 + n) null) (256 + n) first

-- The table has node n's entries, where the third column is `up`.
pub record RowOf (links : NodeLinks) (types : TypeColumns) (up table : List ℕ) (n : ℕ) : Type 0 where
  pub tag : tag_at table n ≡ get_or links.tag n 0
  pub link : link_at table n ≡ get_or links.link n 0
  pub above : up_at table n ≡ get_or up n 0
  pub null : null_at table n ≡ cond (bit types.null n) 1 0
  pub first : first_at table n ≡ get_or types.first n 0
