-- The column of the nearest nodes above as the code fills it: an entry is stored for every part of a node, and what is stored is what the
-- expression's own column has, so that no later store spoils an earlier one.
use mathlib.Core.Path.{◌≡◌, refl, sym, subst, ◌∙◌}
use mathlib.Core.Bool.{Bool, true, false}
use mathlib.Core.List.{List}
use mathlib.Core.Logic.{◌⊎◌, inl, inr, ⊎_elim}
use Prim.Native.Nat.{ℕ, suc, ◌+◌, ◌≤◌, ◌<◌}
use native.Mathlib.Omega.{arith}
use lib.Dec.{eqb}
use lib.ListN.{get_or, length, set, replicate, length-set, length-replicate}
use lib.Seq.{get_or-set_same, get_or-set_other}
use borrow.Author.Tests.{eqb-true, eqb-false}
use Rattle.basics.specs.Bits.{bit}
use Rattle.basics.proofs.laws.Order.{lt-or-le}
use Rattle.sheet.specs.Expression.{Expression, size}
use Rattle.sheet.specs.Limits.{most_tokens}
use Rattle.types.specs.Nodes.{Node, epsilon_node, bottom_node, token_node, sequence_node, alternative_node, fixed_point_node, variable_node, repetition_node, nodes, node_at}
use Rattle.types.specs.laws.NodeRanges.{NodeInRange}
use Rattle.types.proofs.laws.NodeRanges.{in_range-more}
use Rattle.columns.specs.HeldNodes.{node_of, held_node, held_nodes}
use Rattle.columns.specs.declared.NodeLinks.{NodeLinks}
use Rattle.columns.proofs.laws.HeldAt.{node_held, nodes-counted}
use Rattle.columns.specs.laws.Within.{LinksFit}
use Rattle.normal_form.proofs.laws.Places.{nodes-count}
use Rattle.descent_table.specs.TableOf.{PartsUp}
use Rattle.descent_table.specs.Filling.{with_parts, UpColumn}
use Rattle.descent_table.proofs.laws.Above.{PartOf, Reached, up_of, above_at, none_above_first, parts_same}

-- ---- what is stored

-- An entry is stored as it should be: the others that are right stay right.
stored : (xs : List ℕ) (k x : ℕ) (v : ℕ → ℕ) → x ≡ v k → k < length xs → (n : ℕ) → (get_or xs n 0 ≡ v n) ⊎ (n ≡ k) → get_or (set xs k x) n 0 ≡ v n
stored xs k x v e l n h = go (eqb n k) refl h
  where
    go : (b : Bool) → eqb n k ≡ b → (get_or xs n 0 ≡ v n) ⊎ (n ≡ k) → get_or (set xs k x) n 0 ≡ v n
    go true q h = let i = eqb-true n k q in rw i (get_or-set_same xs k x 0 l ∙ e)
    go false q (inl h) = get_or-set_other xs k n x 0 (eqb-false n k q) ∙ h
    go false q (inr i) = absurd (eqb-false n k q i)

parts_long : (x : Node) (n : ℕ) (up : List ℕ) → length (with_parts x n up) ≡ length up
unfolding with_parts
parts_long epsilon_node n up = refl
parts_long bottom_node n up = refl
parts_long (token_node t) n up = refl
parts_long (sequence_node l r) n up = length-set (set up l (suc n)) r (get_or up n 0) ∙ length-set up l (suc n)
parts_long (alternative_node l r) n up = length-set (set up l (get_or up n 0)) r (get_or up n 0) ∙ length-set up l (get_or up n 0)
parts_long (fixed_point_node b) n up = length-set up b (get_or up n 0)
parts_long (variable_node f guarded) n up = refl
parts_long (repetition_node b self) n up = length-set up b (suc n)

-- A node's entry is right, and so are its parts' once they are set.
module _ (n : ℕ) (up : List ℕ) (v : ℕ → ℕ) (long : length up ≡ 64) (here : get_or up n 0 ≡ v n) (k : ℕ) where
  one_set : (b x : ℕ) → x ≡ v b → b < 64 → (get_or up k 0 ≡ v k) ⊎ (k ≡ b) → get_or (set up b x) k 0 ≡ v k
  one_set b x e l = stored up b x v e (omega arith) k

  two_set : (l r x : ℕ) → x ≡ v l → v n ≡ v r → l < 64 → r < 64 → (get_or up k 0 ≡ v k) ⊎ ((k ≡ l) ⊎ (k ≡ r))
      → get_or (set (set up l x) r (get_or up n 0)) k 0 ≡ v k
  two_set l r x e f a b h = stored (set up l x) r (get_or up n 0) v (here ∙ f) (omega (arith, length-set up l x)) k
      (⊎_elim (λ z. inl (one_set l x e a (inl z))) (λ z. ⊎_elim (λ i. inl (one_set l x e a (inr i))) inr z) h)

  parts_right : (x : Node) → NodeInRange most_tokens 64 x → PartsUp v n x → (get_or up k 0 ≡ v k) ⊎ PartOf x k
      → get_or (with_parts x n up) k 0 ≡ v k
  unfolding with_parts
  parts_right epsilon_node w p h = ⊎_elim (λ z. z) (λ z. absurd z) h
  parts_right bottom_node w p h = ⊎_elim (λ z. z) (λ z. absurd z) h
  parts_right (token_node t) w p h = ⊎_elim (λ z. z) (λ z. absurd z) h
  parts_right (sequence_node l r) w p h = two_set l r (suc n) (sym p.0) (sym p.1) w.0 w.1 h
  parts_right (alternative_node l r) w p h = two_set l r (get_or up n 0) (here ∙ sym p.0) (sym p.1) w.0 w.1 h
  parts_right (fixed_point_node b) w p h = one_set b (get_or up n 0) (here ∙ sym p) w h
  parts_right (variable_node f guarded) w p h = ⊎_elim (λ z. z) (λ z. absurd z) h
  parts_right (repetition_node b self) w p h = one_set b (suc n) (sym p) w.0 h

-- ---- the loop

-- The parts of the first so many nodes have their entries.
pub record Storing (links : NodeLinks) (count : ℕ) (up : List ℕ) : Type 0 where
  pub at_most : count ≤ links.count
  pub long : length up ≡ 64
  pub right : (e : Expression) → held_nodes links ≡ nodes e → (k : ℕ) → Reached (node_at (nodes e)) count k → get_or up k 0 ≡ up_of e k

module _ (links : NodeLinks) (fit : LinksFit links) where
  node_fits : (n : ℕ) → n < links.count → NodeInRange most_tokens 64 (held_node links.tag links.link links.guarded n)
  node_fits n l = in_range-more most_tokens most_tokens links.count 64 (held_node links.tag links.link links.guarded n)
      (omega arith) fit.count_fits (fit.all_within n l)

  pub column_fits : (n : ℕ) → n < links.count
      → (n < 64) × ((guarded : Bool) × NodeInRange most_tokens 64 (node_of (get_or links.tag n 0) (get_or links.link n 0) guarded n))
  unfolding held_node
  column_fits n l = (omega (arith, fit.count_fits), (bit links.guarded n, node_fits n l))

  pub storing_first : Storing links 0 (replicate 64 0)
  storing_first = record {
    at_most = omega arith;
    long = length-replicate {A = ℕ} 64 0;
    right = λ e held k r. ⊎_elim (λ z. rw z (sym (none_above_first e))) (λ z. absurd (omega (arith, z.1))) r;
  }

  size_is : (e : Expression) → held_nodes links ≡ nodes e → links.count ≡ size e
  size_is e held = sym (nodes-counted links (nodes e) held) ∙ nodes-count e

  module _ (n : ℕ) (up : List ℕ) (s : Storing links n up) where
    pub storing_next : n < links.count → (next : List ℕ)
        → ((guarded : Bool) → next ≡ with_parts (node_of (get_or links.tag n 0) (get_or links.link n 0) guarded n) n up)
        → Storing links (n + 1) next
    unfolding held_node
    storing_next l next f = record {
      at_most = omega arith;
      long = rw (f (bit links.guarded n)) (parts_long _ n up ∙ s.long);
      right = λ e held k r.
          let same : held_node links.tag links.link links.guarded n ≡ node_at (nodes e) n = node_held links (nodes e) held n l in
          let a = above_at e n (omega (arith, size_is e held)) in
          rw (f (bit links.guarded n), same) (parts_right n up (up_of e) s.long (s.right e held n a.reached) k (node_at (nodes e) n)
          (subst (NodeInRange most_tokens 64) same (node_fits n l)) a.parts (before e held k r));
    }
      where
        before : (e : Expression) → held_nodes links ≡ nodes e → (k : ℕ) → Reached (node_at (nodes e)) (n + 1) k
            → (get_or up k 0 ≡ up_of e k) ⊎ PartOf (node_at (nodes e) n) k
        before e held k (inl z) = inl (s.right e held k (inl z))
        before e held k (inr z) = ⊎_elim (λ m. inl (s.right e held k (inr (z.0, m, z.2))))
            (λ m. inr (subst (λ i. PartOf (node_at (nodes e) i) k) (omega (arith, z.1)) z.2)) (lt-or-le z.0 n)

    pub all_stored : links.count ≤ n → (e : Expression) → held_nodes links ≡ nodes e → UpColumn e up
    all_stored l e held = record {
      below = λ k i. omega (arith, same k i, (above_at e k i).below);
      parts = λ k i. parts_same most_tokens (size e) (λ m. get_or up m 0) (up_of e) same k i (node_at (nodes e) k) (in_range k i)
          (above_at e k i).parts;
    }
      where
        all : links.count ≡ size e
        all = size_is e held

        reached_more : (k : ℕ) → k < size e → Reached (node_at (nodes e)) k k → Reached (node_at (nodes e)) n k
        reached_more k i (inl z) = inl z
        reached_more k i (inr z) = inr (z.0, omega (arith, z.1, all), z.2)

        same : (k : ℕ) → k < size e → get_or up k 0 ≡ up_of e k
        same k i = s.right e held k (reached_more k i (above_at e k i).reached)

        in_range : (k : ℕ) → k < size e → NodeInRange most_tokens (size e) (node_at (nodes e) k)
        in_range k i = subst (NodeInRange most_tokens (size e)) (node_held links (nodes e) held k (omega (arith, all)))
            (subst (λ c. NodeInRange most_tokens c (held_node links.tag links.link links.guarded k)) all
            (fit.all_within k (omega (arith, all))))
