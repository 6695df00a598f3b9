-- What the recogniser's table holds of an expression's nodes: five columns of 64 entries, one after the other. How the table is made, and
-- how a descent goes by it, is not said here.
use Rattle.std.specs.Prelude.{◌≡◌, Bool, true, List, [], ◌↔◌, ℕ, suc, ◌+◌, ◌^◌, ◌≤◌, ◌<◌, get_or}
use Rattle.basics.specs.Bits.{bit}
use Rattle.sheet.specs.Expression.{Expression, size}
use Rattle.types.specs.Languages.{Begins}
use Rattle.types.specs.NodeLanguages.{language_of}
use Rattle.types.specs.Nodes.{Node, epsilon_node, bottom_node, token_node, sequence_node, alternative_node, fixed_point_node, variable_node, repetition_node, nodes, node_at}
use Rattle.columns.specs.HeldNodes.{node_of}

-- A node's tag and link, as in the columns of nodes.
abbrev pub tag_at : List ℕ → ℕ → ℕ
tag_at table n = get_or table n 0

abbrev pub link_at : List ℕ → ℕ → ℕ
link_at table n = get_or table (64 + n) 0

-- One more than the nearest node above in whose left part, or in whose repeated part, the node stands; 0 where there is none.
abbrev pub up_at : List ℕ → ℕ → ℕ
up_at table n = get_or table (128 + n) 0

-- 1 if the node has the empty word.
abbrev pub null_at : List ℕ → ℕ → ℕ
null_at table n = get_or table (192 + n) 0

-- The tokens that begin a word of the node, as a set.
abbrev pub first_at : List ℕ → ℕ → ℕ
first_at table n = get_or table (256 + n) 0

-- What the third column says of the parts of node n.
abbrev pub PartsUp : (ℕ → ℕ) → ℕ → Node → Type 0
PartsUp up n epsilon_node = Unit
PartsUp up n bottom_node = Unit
PartsUp up n (token_node t) = Unit
PartsUp up n (sequence_node l r) = (up l ≡ suc n) × (up r ≡ up n)
PartsUp up n (alternative_node l r) = (up l ≡ up n) × (up r ≡ up n)
PartsUp up n (fixed_point_node b) = up b ≡ up n
PartsUp up n (variable_node f guarded) = Unit
PartsUp up n (repetition_node b self) = up b ≡ suc n

-- The table is that of the expression. FIRST and NULL are the languages': a branch that denotes nothing begins with no token. Entries of
-- numbers that are no nodes stay free, and so do the link of ε, of ⊥ and of a fixed point, and which number but 1 says that there is no ε.
pub record TableOf (e : Expression) (table : List ℕ) : Type 0 where
  pub nodes_most : size e ≤ 64
  pub nodes_held : (n : ℕ) → n < size e → (guarded : Bool) × (node_of (tag_at table n) (link_at table n) guarded n ≡ node_at (nodes e) n)
  pub null_held : (n : ℕ) → n < size e → (null_at table n ≡ 1) ↔ language_of e n []
  pub first_held : (n t : ℕ) → n < size e → (bit (first_at table n) t ≡ true) ↔ Begins (language_of e n) t
  pub first_few : (n : ℕ) → n < size e → first_at table n < 2 ^ 64
  pub up_below : (n : ℕ) → n < size e → up_at table n ≤ n
  pub up_parts : (n : ℕ) → n < size e → PartsUp (up_at table) n (node_at (nodes e) n)
