-- A node's production for a token of its FIRST set, found by a walk over the nodes that FIRST guides; no row is stored, and no node is
-- asked whether it derives a token sequence, since FIRST is exact. That the walk answers as the normal form's row does is proved
-- elsewhere, and how code holds nodes and sets is not said here.
use Rattle.std.specs.Prelude.{cond, List, ◌∷◌, ℕ, zero, suc, eqb}
use Rattle.std.proofs.Math.Option.{Option, none, some}
use Rattle.basics.specs.Bits.{bit}
use Rattle.sheet.specs.Expression.{Expression}
use Rattle.types.specs.Nodes.{Node, epsilon_node, bottom_node, token_node, sequence_node, alternative_node, fixed_point_node, variable_node, repetition_node, nodes, node_at}
use Rattle.types.specs.LeastTypes.{type_of, least_types}
use Rattle.normal_form.specs.Productions.{Production}

-- The nodes with their links, the nodes' FIRST sets, and a token.
module _ (table : ℕ → Node) (first : ℕ → ℕ) (t : ℕ) where
  -- One step, at a node, with the right nodes remembered so far, the last one first; `go_on` walks on from a node. A sequence
  -- remembers its right node, and a repetition remembers itself; an alternative leads into the left part if that can begin with t.
  unfoldable pub walk_step : (ℕ → List ℕ → Option (List ℕ)) → Node → List ℕ → Option (List ℕ)
  walk_step go_on epsilon_node rights = none
  walk_step go_on bottom_node rights = none
  walk_step go_on (token_node k) rights = cond (eqb k t) (some rights) none
  walk_step go_on (sequence_node l r) rights = go_on l (r ∷ rights)
  walk_step go_on (alternative_node l r) rights = cond (bit (first l) t) (go_on l rights) (go_on r rights)
  walk_step go_on (fixed_point_node b) rights = go_on b rights
  walk_step go_on (variable_node f guarded) rights = go_on f rights
  walk_step go_on (repetition_node b self) rights = go_on b (self ∷ rights)

  -- The tail of a node's production for t, in so many steps.
  unfoldable pub walk : ℕ → ℕ → List ℕ → Option (List ℕ)
  walk zero n rights = none
  walk (suc k) n rights = walk_step (walk k) (table n) rights

-- A tail found by a walk for t, as a production.
abbrev pub with_head : ℕ → Option (List ℕ) → Option Production
with_head t none = none
with_head t (some tail) = some (record { head = t; tail = tail })

-- The walk for t from a node, with what the definitions of a typed expression give it.
abbrev pub walk_of : Expression → ℕ → ℕ → ℕ → List ℕ → Option (List ℕ)
walk_of e = walk (node_at (nodes e)) (λ n. (type_of (least_types e) n).first)
