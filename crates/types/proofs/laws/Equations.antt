-- Figure 2's equations read off the expression itself, and that the flat list of nodes has just these: so the least types are
-- those of the expression, also where no derivation exists.
use Rattle.std.specs.Prelude.{◌≡◌, refl, ◌↔◌, ℕ, zero, suc, ◌+◌, ◌<◌, get_or}
use Rattle.std.proofs.Math.Path.{sym, ap}
use Rattle.std.proofs.Common.{◌∙◌, arith}
use mathlib.Core.List.{List, [], ◌∷◌, ◌++◌, map}
use Rattle.std.proofs.Math.ListN.{length, length-map}
use Rattle.sheet.specs.Expression.{Expression, epsilon, bottom, token, sequence, alternative, fixed_point, variable, repetition, size}
use Rattle.sheet.specs.WellFormed.{Closed}
use Rattle.types.specs.Types.{LanguageType, epsilon_type, bottom_type, token_type, sequence_type, alternative_type, repetition_type}
use Rattle.types.specs.Nodes.{Node, Binder, no_binder, guard, nodes_from, nodes}
use Rattle.types.specs.LeastTypes.{type_of, node_type, node_type_with}
use Rattle.types.specs.Solutions.{Solves}
use Rattle.types.proofs.laws.EachFrom.{EachFrom, each_left}
use Rattle.types.proofs.laws.NodeLaws.{Solved, nodes-length, right_nodes, both_nodes, solved_each, each_solved}

-- The equations of the sub-expression g at node p. The types of the open fixed points are given, the innermost first.
abbrev pub EquationsAt : List LanguageType → Expression → ℕ → List LanguageType → Type 0
EquationsAt types epsilon p open_types = type_of types p ≡ epsilon_type
EquationsAt types bottom p open_types = type_of types p ≡ bottom_type
EquationsAt types (token k) p open_types = type_of types p ≡ token_type k
EquationsAt types (sequence g h) p open_types =
    (type_of types p ≡ sequence_type (type_of types (suc p)) (type_of types (suc p + size g)))
    × EquationsAt types g (suc p) open_types
    × EquationsAt types h (suc p + size g) open_types
EquationsAt types (alternative g h) p open_types =
    (type_of types p ≡ alternative_type (type_of types (suc p)) (type_of types (suc p + size g)))
    × EquationsAt types g (suc p) open_types
    × EquationsAt types h (suc p + size g) open_types
EquationsAt types (fixed_point g) p open_types =
    (type_of types p ≡ type_of types (suc p)) × EquationsAt types g (suc p) (type_of types p ∷ open_types)
EquationsAt types (variable n) p open_types = type_of types p ≡ get_or open_types n bottom_type
EquationsAt types (repetition g) p open_types =
    (type_of types p ≡ repetition_type (type_of types (suc p)) (type_of types p)) × EquationsAt types g (suc p) open_types

module _ (types : List LanguageType) where
  abbrev binder_type : Binder → LanguageType
  binder_type b = type_of types b.node

  abbrev binder_types : List Binder → List LanguageType
  binder_types = map binder_type

  guarded_types : (binders : List Binder) → binder_types (map guard binders) ≡ binder_types binders
  guarded_types [] = refl
  guarded_types (b ∷ binders) = ap (λ l. binder_type b ∷ l) (guarded_types binders)

  binder_type_at : (binders : List Binder) (n : ℕ) → n < length binders
      → get_or (binder_types binders) n bottom_type ≡ binder_type (get_or binders n no_binder)
  binder_type_at [] n l = absurd (omega arith)
  binder_type_at (b ∷ binders) zero l = refl
  binder_type_at (b ∷ binders) (suc n) l = binder_type_at binders n (omega arith)

  -- A node's own equation, and those of its two parts.
  two_parts : (X Y Z : Type 0) (g : Expression) (p : ℕ) (binders : List Binder) (rest : List Node)
      → EachFrom (Solved types) p (nodes_from g p binders) ↔ Y → EachFrom (Solved types) (p + size g) rest ↔ Z
      → (X × EachFrom (Solved types) p (nodes_from g p binders ++ rest)) ↔ (X × Y × Z)
  two_parts X Y Z g p binders rest l r = (
    λ h. (
      h.0,
      l.0 (each_left (Solved types) p (nodes_from g p binders) rest h.1),
      r.0 (right_nodes (Solved types) g p binders rest h.1),
    ),
    λ t. (t.0, both_nodes (Solved types) g p binders rest (l.1 t.1) (r.1 t.2)),
  )

  module _ (tokens : ℕ) where
    equations_iff : (g : Expression) (p : ℕ) (binders : List Binder) → Closed tokens (length binders) g
        → EachFrom (Solved types) p (nodes_from g p binders) ↔ EquationsAt types g p (binder_types binders)
    unfolding nodes_from node_type_with
    equations_iff epsilon p binders c = (λ h. h.0, λ t. (t, tt))
    equations_iff bottom p binders c = (λ h. h.0, λ t. (t, tt))
    equations_iff (token k) p binders c = (λ h. h.0, λ t. (t, tt))
    equations_iff (sequence g k) p binders c =
        let right : EachFrom (Solved types) (suc p + size g) (nodes_from k (suc p + size g) (map guard binders))
        ↔ EquationsAt types k (suc p + size g) (binder_types binders)
        = rw (guarded_types binders) at (equations_iff k (suc p + size g) (map guard binders) (rw (length-map binders guard) c.1)) in
        two_parts _ _ _ g (suc p) binders _ (equations_iff g (suc p) binders c.0) right
    equations_iff (alternative g k) p binders c =
        two_parts _ _ _ g (suc p) binders _ (equations_iff g (suc p) binders c.0) (equations_iff k (suc p + size g) binders c.1)
    equations_iff (fixed_point g) p binders c =
        let body = equations_iff g (suc p) _ c in
        (λ h. (h.0, body.0 h.1), λ t. (t.0, body.1 t.1))
    equations_iff (variable n) p binders c =
        let e = binder_type_at binders n c in
        (λ h. h.0 ∙ sym e, λ t. (t ∙ e, tt))
    equations_iff (repetition g) p binders c =
        let part = equations_iff g (suc p) binders c in
        (λ h. (h.0, part.0 h.1), λ t. (t.0, part.1 t.1))

    pub solves_iff : (e : Expression) → Closed tokens 0 e → Solves (nodes e) types ↔ ((length types ≡ size e) × EquationsAt types e 0 [])
    unfolding nodes
    solves_iff e c = (
      λ s. (
        ap length s ∙ length-map (nodes e) (node_type types) ∙ nodes-length e 0 [],
        (equations_iff e 0 [] c).0 (solved_each (nodes e) types s),
      ),
      λ t. each_solved (nodes e) types (t.0 ∙ sym (nodes-length e 0 [])) ((equations_iff e 0 [] c).1 t.1),
    )
