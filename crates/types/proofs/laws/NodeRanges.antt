-- The ranges of a node: its token is below a bound, and so is every node that it goes by. A closed expression's nodes have them, so that
-- nothing that goes by them need test.
use Rattle.std.proofs.Common.{sym, subst, ⊎_elim}
use Rattle.std.proofs.Math.Bool.{false}
use Rattle.std.specs.Prelude.{List, [], ◌∷◌, map, ℕ, suc, ◌+◌, ◌≤◌, ◌<◌, length}
use native.Mathlib.Omega.{arith}
use Rattle.std.proofs.lemmas.List.{length-map}
use Rattle.std.proofs.Math.ListN.{get_or-eq_default}
use Rattle.basics.specs.Lists.{All}
use Rattle.basics.proofs.laws.Members.{all-append, all-at}
use Rattle.basics.proofs.laws.Order.{lt-or-le}
use Rattle.sheet.specs.Expression.{Expression, epsilon, bottom, token, sequence, alternative, fixed_point, variable, repetition, size}
use Rattle.sheet.specs.WellFormed.{Closed}
use Rattle.types.specs.Nodes.{Node, epsilon_node, bottom_node, token_node, sequence_node, alternative_node, fixed_point_node, variable_node, repetition_node, Binder, no_binder, guard, nodes_from, nodes, node_at}
use Rattle.types.specs.laws.NodeRanges.{NodeInRange}

-- In wider bounds too.
pub in_range-more : (tokens tokens' count count' : ℕ) (x : Node) → tokens ≤ tokens' → count ≤ count' → NodeInRange tokens count x
    → NodeInRange tokens' count' x
in_range-more tokens tokens' count count' epsilon_node t c h = tt
in_range-more tokens tokens' count count' bottom_node t c h = tt
in_range-more tokens tokens' count count' (token_node k) t c h = omega arith
in_range-more tokens tokens' count count' (sequence_node l r) t c h = (omega arith, omega arith)
in_range-more tokens tokens' count count' (alternative_node l r) t c h = (omega arith, omega arith)
in_range-more tokens tokens' count count' (fixed_point_node b) t c h = omega arith
in_range-more tokens tokens' count count' (variable_node f guarded) t c h = omega arith
in_range-more tokens tokens' count count' (repetition_node b self) t c h = (omega arith, omega arith)

-- At every place, if of every node of a list: past the end there is a node that goes by none.
pub node_in_range : (tokens count : ℕ) (ns : List Node) → All (NodeInRange tokens count) ns → (n : ℕ) → NodeInRange tokens count (node_at ns n)
node_in_range tokens count ns h n = ⊎_elim (λ l. all-at (NodeInRange tokens count) ns h n bottom_node l)
    (λ l. rw (get_or-eq_default ns bottom_node {n = n} l) tt) (lt-or-le n (length ns))

pub size_positive : (g : Expression) → 1 ≤ size g
unfolding size
size_positive epsilon = omega arith
size_positive bottom = omega arith
size_positive (token k) = omega arith
size_positive (sequence g h) = omega arith
size_positive (alternative g h) = omega arith
size_positive (fixed_point g) = omega arith
size_positive (variable n) = omega arith
size_positive (repetition g) = omega arith

module _ (tokens total : ℕ) where
  abbrev BinderWithin : Binder → Type 0
  BinderWithin b = b.node < total

  guarded_within : (bs : List Binder) → All BinderWithin bs → All BinderWithin (map guard bs)
  guarded_within [] h = tt
  guarded_within (b ∷ bs) h = (h.0, guarded_within bs h.1)

  from_in_range : (g : Expression) (p : ℕ) (bs : List Binder) → All BinderWithin bs → p + size g ≤ total → Closed tokens (length bs) g
      → All (NodeInRange tokens total) (nodes_from g p bs)
  unfolding nodes_from size
  from_in_range epsilon p bs w l c = (tt, tt)
  from_in_range bottom p bs w l c = (tt, tt)
  from_in_range (token k) p bs w l c = (c, tt)
  from_in_range (sequence g h) p bs w l c = (
    (omega (arith, size_positive g), omega (arith, size_positive h)),
    all-append (NodeInRange tokens total) (nodes_from g (suc p) bs) _
        (from_in_range g (suc p) bs w (omega arith) c.0)
        (from_in_range h (suc p + size g) (map guard bs) (guarded_within bs w) (omega arith)
        (subst (λ n. Closed tokens n h) (sym (length-map bs guard)) c.1)),
  )
  from_in_range (alternative g h) p bs w l c = (
    (omega (arith, size_positive g), omega (arith, size_positive h)),
    all-append (NodeInRange tokens total) (nodes_from g (suc p) bs) _
        (from_in_range g (suc p) bs w (omega arith) c.0) (from_in_range h (suc p + size g) bs w (omega arith) c.1),
  )
  from_in_range (fixed_point g) p bs w l c = (
    omega (arith, size_positive g),
    from_in_range g (suc p) (record { node = p; guarded = false } ∷ bs) (omega arith, w) (omega arith) c,
  )
  from_in_range (variable n) p bs w l c = (all-at BinderWithin bs w n no_binder c, tt)
  from_in_range (repetition g) p bs w l c = (
    (omega (arith, size_positive g), omega arith),
    from_in_range g (suc p) bs w (omega arith) c,
  )

-- The nodes of a closed expression.
pub nodes-in_range : (tokens : ℕ) (e : Expression) → Closed tokens 0 e → All (NodeInRange tokens (size e)) (nodes e)
unfolding nodes
nodes-in_range tokens e c = from_in_range tokens (size e) e 0 [] tt (omega arith) c
