-- An expression is typed node by node if and only if every node of its list has the type that its equation gives, and passes its
-- question: Figure 2's rules against the flat list that the least types and questions 8 to 10 go by.
use Rattle.std.specs.Prelude.{◌≡◌, true, List, [], ◌∷◌, map, ℕ, zero, suc, ◌+◌, get_or}
use Rattle.std.proofs.Math.Path.{refl, sym, subst}
use Rattle.std.proofs.Common.{◌∙◌, true≢false}
use Rattle.sheet.specs.Expression.{Expression, epsilon, bottom, token, sequence, alternative, fixed_point, variable, repetition, size}
use Rattle.types.specs.Types.{LanguageType, Operation, Hypothesis, all_usable, Usable, here, there}
use Rattle.types.specs.TypeNames.{Context}
use Rattle.types.specs.Nodes.{Node, Binder, no_binder, guard, nodes_from}
use Rattle.types.specs.LeastTypes.{type_of, node_type_with}
use Rattle.types.specs.Questions.{separable, apart, node_fault}
use Rattle.types.proofs.laws.EachFrom.{EachFrom, each_left}
use Rattle.types.proofs.laws.QuestionLaws.{separable_iff, apart_iff, unless_iff, PassesAt}
use Rattle.types.proofs.laws.NodeLaws.{SolvedWith, right_nodes, both_nodes}
use Rattle.types.proofs.laws.TypedAt.{TypedAt}

abbrev binder_at : List Binder → ℕ → Binder
binder_at binders n = get_or binders n no_binder

-- Open fixed points against hypotheses: a variable is guarded if and only if it may be used, and it has its fixed point's type.
pub data Agrees (types : List LanguageType) : List Binder → Context → Type 0 where
  no_more : Agrees types [] []
  and_more : {b : Binder} {h : Hypothesis} {binders : List Binder} {Γ : Context}
      → b.guarded ≡ h.usable → type_of types b.node ≡ h.type → Agrees types binders Γ → Agrees types (b ∷ binders) (h ∷ Γ)

module _ (types : List LanguageType) where
  agrees_guarded : {binders : List Binder} {Γ : Context} → Agrees types binders Γ → Agrees types (map guard binders) (all_usable Γ)
  agrees_guarded no_more = no_more
  agrees_guarded (and_more u t s) = and_more refl t (agrees_guarded s)

  guarded_usable : {binders : List Binder} {Γ : Context} → Agrees types binders Γ → (n : ℕ)
      → (binder_at binders n).guarded ≡ true → Usable Γ n (type_of types (binder_at binders n).node)
  guarded_usable no_more n e = absurd (true≢false (sym e))
  guarded_usable (and_more {b = b} {h = h} {Γ = Γ} u t s) zero e =
      subst (λ k. Usable (k ∷ Γ) 0 (type_of types b.node)) (λ i. record { usable = (sym e ∙ u) i; type = t i }) here
  guarded_usable (and_more u t s) (suc n) e = there (guarded_usable s n e)

  usable_guarded : {binders : List Binder} {Γ : Context} {n : ℕ} {a : LanguageType} → Agrees types binders Γ → Usable Γ n a
      → ((binder_at binders n).guarded ≡ true) × (type_of types (binder_at binders n).node ≡ a)
  usable_guarded (and_more u t s) here = (u, t)
  usable_guarded (and_more u t s) (there v) = usable_guarded s v
  usable_guarded no_more h = elim h [ ]

-- Node x at place p has the type that its equation gives, and passes.
pub record Holds (op : Operation) (types : List LanguageType) (p : ℕ) (x : Node) : Type 0 where
  pub equation : SolvedWith op types p x
  pub passes : PassesAt types p x

-- What holds at every node of g is that g is typed.
module _ (op : Operation) (types : List LanguageType) where
  pub nodes_typed : (g : Expression) (p : ℕ) {binders : List Binder} {Γ : Context} → Agrees types binders Γ
      → EachFrom (Holds op types) p (nodes_from g p binders) → TypedAt op types g p Γ
  unfolding nodes_from node_type_with node_fault
  nodes_typed epsilon p s h = h.0.equation
  nodes_typed bottom p s h = h.0.equation
  nodes_typed (token k) p s h = h.0.equation
  nodes_typed (sequence g k) p {binders} s h =
      let a = type_of types (suc p) in
      let b = type_of types (suc p + size g) in
      let right = nodes_from k (suc p + size g) (map guard binders) in (
        h.0.equation,
        (separable_iff a b).0 ((unless_iff (separable a b) 9 p).0 h.0.passes),
        nodes_typed g (suc p) s (each_left (Holds op types) (suc p) (nodes_from g (suc p) binders) right h.1),
        nodes_typed k (suc p + size g) (agrees_guarded types s) (right_nodes (Holds op types) g (suc p) binders right h.1),
      )
  nodes_typed (alternative g k) p {binders} s h =
      let a = type_of types (suc p) in
      let b = type_of types (suc p + size g) in
      let right = nodes_from k (suc p + size g) binders in (
        h.0.equation,
        (apart_iff a b).0 ((unless_iff (apart a b) 10 p).0 h.0.passes),
        nodes_typed g (suc p) s (each_left (Holds op types) (suc p) (nodes_from g (suc p) binders) right h.1),
        nodes_typed k (suc p + size g) s (right_nodes (Holds op types) g (suc p) binders right h.1),
      )
  nodes_typed (fixed_point g) p s h = (h.0.equation, nodes_typed g (suc p) (and_more refl refl s) h.1)
  nodes_typed (variable n) p {binders} {Γ} s h =
      let b = binder_at binders n in
      subst (Usable Γ n) (sym h.0.equation) (guarded_usable types s n ((unless_iff b.guarded 8 p).0 h.0.passes))
  nodes_typed (repetition g) p s h =
      let a = type_of types (suc p) in (
        h.0.equation,
        (separable_iff a a).0 ((unless_iff (separable a a) 9 p).0 h.0.passes),
        nodes_typed g (suc p) s h.1,
      )

  pub typed_nodes : (g : Expression) (p : ℕ) {binders : List Binder} {Γ : Context} → Agrees types binders Γ
      → TypedAt op types g p Γ → EachFrom (Holds op types) p (nodes_from g p binders)
  unfolding nodes_from node_type_with node_fault
  typed_nodes epsilon p s t = (record { equation = t; passes = refl }, tt)
  typed_nodes bottom p s t = (record { equation = t; passes = refl }, tt)
  typed_nodes (token k) p s t = (record { equation = t; passes = refl }, tt)
  typed_nodes (sequence g k) p {binders} s t =
      let a = type_of types (suc p) in
      let b = type_of types (suc p + size g) in
      let right = nodes_from k (suc p + size g) (map guard binders) in (
        record { equation = t.0; passes = (unless_iff (separable a b) 9 p).1 ((separable_iff a b).1 t.1) },
        both_nodes (Holds op types) g (suc p) binders right (typed_nodes g (suc p) s t.2)
            (typed_nodes k (suc p + size g) (agrees_guarded types s) t.3),
      )
  typed_nodes (alternative g k) p {binders} s t =
      let a = type_of types (suc p) in
      let b = type_of types (suc p + size g) in
      let right = nodes_from k (suc p + size g) binders in (
        record { equation = t.0; passes = (unless_iff (apart a b) 10 p).1 ((apart_iff a b).1 t.1) },
        both_nodes (Holds op types) g (suc p) binders right (typed_nodes g (suc p) s t.2) (typed_nodes k (suc p + size g) s t.3),
      )
  typed_nodes (fixed_point g) p s t = (record { equation = t.0; passes = refl }, typed_nodes g (suc p) (and_more refl refl s) t.1)
  typed_nodes (variable n) p {binders} s t =
      let b = binder_at binders n in
      let u = usable_guarded types s t in
      (record { equation = sym u.1; passes = (unless_iff b.guarded 8 p).1 u.0 }, tt)
  typed_nodes (repetition g) p s t =
      let a = type_of types (suc p) in (
        record { equation = t.0; passes = (unless_iff (separable a a) 9 p).1 ((separable_iff a a).1 t.1) },
        typed_nodes g (suc p) s t.2,
      )
