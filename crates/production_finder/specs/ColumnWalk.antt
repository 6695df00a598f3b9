-- The walk over columns as the code makes it. That it is the definition's walk where the columns are those of a typed expression is
-- proved elsewhere.
use Rattle.std.specs.Prelude.{cond, List, ℕ, ◌+◌, eqb, ltb, get_or, Option, Some, None}
use Rattle.std.proofs.Math.Option as maybe
use Rattle.basics.specs.Bits.{bit}
use Rattle.types.specs.Nodes.{Node, bottom_node}
use Rattle.columns.specs.HeldNodes.{held_node}
use Rattle.normal_form.specs.ProductionWalk.{walk}

-- Node n of the columns. From 64 on there is a node that has no productions, as ⊥ has none, and that begins with no token.
unfoldable pub column_node : List ℕ → List ℕ → ℕ → ℕ → Node
column_node tag link guarded n = cond (ltb n 64) (held_node tag link guarded n) bottom_node

unfoldable pub column_first : List ℕ → ℕ → ℕ
column_first first n = cond (ltb n 64) (get_or first n 0) 0

-- The node after an alternative, a fixed point or a variable; after any other there is none.
unfoldable pub next_node : ℕ → ℕ → ℕ → List ℕ → ℕ → Option ℕ
next_node tag link n first t =
    cond (eqb tag 4) (cond (bit (column_first first (n + 1)) t) (Some (n + 1)) (Some link))
    (cond (eqb tag 5) (Some (n + 1)) (cond (eqb tag 6) (Some link) None))

-- The walk over columns, in so many steps.
abbrev pub column_walk : List ℕ → List ℕ → ℕ → List ℕ → ℕ → ℕ → ℕ → List ℕ → maybe.Option (List ℕ)
column_walk tag link guarded first = walk (column_node tag link guarded) (column_first first)
