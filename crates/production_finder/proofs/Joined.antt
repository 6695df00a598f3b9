-- The walk over the columns of a typed expression is the definition's walk, so for a token of FIRST it finds the normal form's
-- production.
use mathlib.Core.Path.{◌≡◌, refl, sym, ap, ap₂, subst, ◌∙◌}
use mathlib.Core.Bool.{false, cond}
use mathlib.Core.List.{List, [], ◌∷◌}
use mathlib.Core.Option as maybe
use mathlib.Core.Option.{none, some}
use Rattle.std.specs.Prelude.{Option, None}
use Prim.Native.Nat.{ℕ, zero, suc, ◌≤◌, ◌<◌}
use native.Mathlib.Omega.{arith}
use lib.ListN.{get_or, length, drop, length-drop}
use borrow.Author.Tests.{lt-ltb}
use Rattle.basics.specs.Bits.{bit, ◌∈◌}
use Rattle.sheet.specs.Expression.{Expression, size}
use Rattle.types.specs.Types.{◌⊢◌∶◌}
use Rattle.types.specs.laws.NodeRanges.{NodeInRange}
use Rattle.types.proofs.laws.NodeRanges.{node_in_range, nodes-in_range}
use Rattle.types.specs.Nodes.{Node, epsilon_node, bottom_node, token_node, sequence_node, alternative_node, fixed_point_node, variable_node, repetition_node, nodes, node_at}
use Rattle.types.specs.LeastTypes.{type_of, least_types}
use Rattle.types.specs.Solutions.{next_types}
use Rattle.types.proofs.laws.LeastTypeLaws.{least_solves}
use Rattle.types.proofs.laws.Typing.{no_fault_typed}
use Rattle.columns.specs.HeldNodes.{held_node}
use Rattle.normal_form.specs.Productions.{Production, row_of, production_of, most_tail}
use Rattle.normal_form.specs.NormalForm.{normal_form}
use Rattle.normal_form.specs.ProductionWalk.{walk_step, walk, walk_of, with_head}
use Rattle.normal_form.proofs.laws.ProductionLaws.{Found, production_found}
use Rattle.normal_form.proofs.laws.ExactRows.{first_has_production}
use Rattle.normal_form.proofs.laws.ProductionWalkLaws.{walk_finds, walk_short, first_has_not}
use Rattle.production_finder.specs.Columns.{ColumnsOf, tail_held, production_held}
use Rattle.production_finder.specs.ColumnWalk.{column_node, column_first, column_walk}
use Rattle.production_finder.specs.declared.Tail.{Tail}
use Rattle.production_finder.specs.declared.Walked.{Walked}

module _ (tag link first : List ℕ) (e : Expression) (c : ColumnsOf tag link first e) (t : ℕ) where
  abbrev walks : ℕ → ℕ → List ℕ → maybe.Option (List ℕ)
  walks = column_walk tag link c.guarded first t

  abbrev column_step : (ℕ → List ℕ → maybe.Option (List ℕ)) → Node → List ℕ → maybe.Option (List ℕ)
  column_step = walk_step (column_node tag link c.guarded) (column_first first) t

  abbrev own_step : (ℕ → List ℕ → maybe.Option (List ℕ)) → Node → List ℕ → maybe.Option (List ℕ)
  own_step = walk_step (node_at (nodes e)) (λ n. (type_of (least_types e) n).first) t

  node_same : (n : ℕ) → n < size e → column_node tag link c.guarded n ≡ node_at (nodes e) n
  unfolding column_node
  node_same n l = let s = c.nodes_most in
      ap (λ b. cond b (held_node tag link c.guarded n) bottom_node) (lt-ltb n 64 (omega arith)) ∙ c.nodes_held n l

  first_same : (n : ℕ) → n < size e → column_first first n ≡ (type_of (least_types e) n).first
  unfolding column_first
  first_same n l = let s = c.nodes_most in
      ap (λ b. cond b (get_or first n 0) 0) (lt-ltb n 64 (omega arith)) ∙ c.first_held n l

  -- One step, if the walks from the nodes that it may lead to are the same.
  step_same : (k : ℕ) → ((n : ℕ) (rights : List ℕ) → n < size e → walks k n rights ≡ walk_of e t k n rights)
      → (x : Node) → NodeInRange c.tokens (size e) x → (rights : List ℕ)
      → column_step (walks k) x rights ≡ own_step (walk_of e t k) x rights
  unfolding walk_step
  step_same k h epsilon_node b rights = refl
  step_same k h bottom_node b rights = refl
  step_same k h (token_node i) b rights = refl
  step_same k h (sequence_node l r) b rights = h l (r ∷ rights) b.0
  step_same k h (alternative_node l r) b rights =
      ap (λ s. cond (bit s t) (walks k l rights) (walks k r rights)) (first_same l b.0)
      ∙ ap₂ (λ x y. cond (bit (type_of (least_types e) l).first t) x y) (h l rights b.0) (h r rights b.1)
  step_same k h (fixed_point_node i) b rights = h i rights b
  step_same k h (variable_node f guarded) b rights = h f rights b
  step_same k h (repetition_node i self) b rights = h i (self ∷ rights) b.0

  walk_same : (k n : ℕ) (rights : List ℕ) → n < size e → walks k n rights ≡ walk_of e t k n rights
  unfolding walk
  walk_same zero n rights l = refl
  walk_same (suc k) n rights l = ap (λ x. column_step (walks k) x rights) (node_same n l)
      ∙ step_same k (walk_same k) (node_at (nodes e) n) (node_in_range c.tokens (size e) (nodes e) (nodes-in_range c.tokens e c.closed) n) rights

  typed : [] ⊢ e ∶ type_of (least_types e) 0
  typed = no_fault_typed c.tokens c.tokens_most e c.closed c.no_fault

  solves : least_types e ≡ next_types (nodes e) (least_types e)
  solves = least_solves c.tokens c.tokens_most e c.closed

  module _ (n : ℕ) (l : n < size e) where
    abbrev Right : maybe.Option Production → Type 0
    Right o = o ≡ production_of t (row_of (normal_form e) n).productions

    -- No production, since the token is outside FIRST.
    pub right_outside : bit (column_first first n) t ≡ false → Right (production_held t None)
    unfolding production_held
    right_outside b = sym (first_has_not typed solves t n (ap (λ s. bit s t) (sym (first_same n l)) ∙ b))

    -- A token of FIRST.
    module _ (b : t ∈ column_first first n) where
      in_first : t ∈ (type_of (least_types e) n).first
      in_first = ap (λ s. bit s t) (sym (first_same n l)) ∙ b

      walk_right : Right (with_head t (walks 64 n []))
      walk_right = ap (with_head t) (walk_same 64 n [] l) ∙ walk_finds typed solves t n 64 c.nodes_most in_first

      -- FIRST is exact, so the row has a production for the token, and the walk gives its tail.
      found : (tail : List ℕ) × (walks 64 n [] ≡ some tail)
      found = go (walks 64 n []) refl walk_right
        where
          go : (o : maybe.Option (List ℕ)) → walks 64 n [] ≡ o → Right (with_head t o) → (tail : List ℕ) × (walks 64 n [] ≡ some tail)
          go none z h =
              let q = (first_has_production typed solves n t).0 in_first in
              let f : Found t (row_of (normal_form e) n).productions none =
              subst (Found t (row_of (normal_form e) n).productions) (sym h) (production_found t (row_of (normal_form e) n).productions) in
              absurd (f q.0 q.1 q.2)
          go (some tail) z h = (tail, z)

      -- The production that the walk found. Its tail is no longer than any tail, so it fits.
      pub right_found : (r : Option Tail) (w : Walked) → ((tail : List ℕ) → walks 64 n [] ≡ some tail → drop w.start w.rights ≡ tail)
          → length w.rights ≡ 64 → (32 ≤ w.start → tail_held r ≡ some (drop w.start w.rights)) → Right (production_held t r)
      unfolding production_held
      right_found r w h f m = ap (with_head t) (m fits ∙ sym given) ∙ walk_right
        where
          given : walks 64 n [] ≡ some (drop w.start w.rights)
          given = found.1 ∙ ap some (sym (h found.0 found.1))

          short : length (drop w.start w.rights) ≤ most_tail
          short = walk_short typed solves t c.nodes_most n 64 c.nodes_most in_first (drop w.start w.rights)
              (sym (walk_same 64 n [] l) ∙ given)

          fits : 32 ≤ w.start
          fits = omega (arith, short, length-drop w.start w.rights)
