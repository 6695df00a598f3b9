-- What the pass over an expression's nodes stores at a node, as the code does. That its links are those of the definition is
-- proved from this, and not said here.
use Rattle.std.specs.Prelude.{cond, List, ℕ, suc, ◌-◌, ◌<◌, ◌≡◌, eqb, ltb, get_or, set, Option, Some, None}
use Rattle.columns.specs.laws.Joining.{joined}
use Rattle.node_linker.specs.declared.Due.{Due}
use Rattle.node_linker.specs.declared.NodeParts.{NodeParts}
use Rattle.node_linker.specs.declared.NodeParts.TheVariants.{Leaf, One, Two}

abbrev pub due : ℕ → ℕ → Option ℕ → Due
due depth guarded parent = record { depth = depth; guarded = guarded; parent = parent }

-- Where it is a right part, its parent is below a bound.
abbrev pub ParentBelow : ℕ → Option ℕ → Type 0
ParentBelow most None = Unit
ParentBelow most (Some p) = p < most

-- A right part's node becomes its parent's link.
unfoldable pub linked : List ℕ → Option ℕ → ℕ → List ℕ
linked link None i = link
linked link (Some parent) i = set link parent i

-- The open fixed point of a variable, counted from the outermost.
abbrev pub place_of : ℕ → Due → ℕ
place_of number d = d.depth - 1 - number

-- Node i has this tag and number, and was due as d. The links after it.
unfoldable pub links_after : ℕ → ℕ → ℕ → Due → List ℕ → List ℕ → List ℕ
links_after tag number i d owner link =
    let l = linked link d.parent i in
    cond (eqb tag 2) (set l i number)
    (cond (eqb tag 6) (set l i (get_or owner (place_of number d) 0))
    (cond (eqb tag 7) (set l i i) l))

-- For each open fixed point its node.
unfoldable pub owners_after : ℕ → ℕ → Due → List ℕ → List ℕ
owners_after tag i d owner = cond (eqb tag 5) (set owner d.depth i) owner

-- The variables whose fixed point is guarded.
unfoldable pub guarded_after : ℕ → ℕ → ℕ → Due → ℕ → ℕ
guarded_after tag number i d guarded = cond (eqb tag 6) (joined (ltb (place_of number d) d.guarded) guarded i) guarded

-- Its parts.
unfoldable pub parts_due : ℕ → ℕ → Due → NodeParts
parts_due tag i d =
    cond (eqb tag 3) (Two (due d.depth d.guarded None) (due d.depth d.depth (Some i)))
    (cond (eqb tag 4) (Two (due d.depth d.guarded None) (due d.depth d.guarded (Some i)))
    (cond (eqb tag 5) (One (due (suc d.depth) d.guarded None))
    (cond (eqb tag 7) (One (due d.depth d.guarded None)) Leaf)))

-- When all this stays within the arrays.
pub record CanLink (tag number i : ℕ) (d : Due) : Type 0 where
  pub node_fits : i < 64
  pub depth_fits : d.depth < 64
  pub variable_open : tag ≡ 6 → number < d.depth
  pub parent_fits : ParentBelow 64 d.parent
