-- An expression typed node by node, by one list of all nodes' types: the same as a derivation of Figure 2, but every node's type
-- stands in the list. How the types are found is not asked here.
use Rattle.std.specs.Prelude.{◌≡◌, false, List, ◌∷◌, ℕ, suc, ◌+◌}
use Rattle.std.proofs.Common.{sym, ap₂, subst, subst₂, ◌∙◌}
use Rattle.sheet.specs.Expression.{Expression, epsilon, bottom, token, sequence, alternative, fixed_point, variable, repetition, size}
use Rattle.types.specs.Types.{LanguageType, epsilon_type, bottom_type, token_type, Operation, alternative_type, repetition_type_with, Separable, Apart, all_usable, Usable, Typed, type_epsilon, type_bottom, type_token, type_variable, type_sequence, type_alternative, type_fixed_point, type_repetition}
use Rattle.types.specs.TypeNames.{Context}
use Rattle.types.specs.LeastTypes.{type_of}
use Rattle.types.proofs.laws.LaidOut.{LaidOut, laid_alone, laid_one, laid_two}

-- The sub-expression g at node p is typed by a list of all nodes' types: every node below has the type that Figure 2's rule gives
-- it from its parts' types, and passes the rule's side condition.
abbrev pub TypedAt : Operation → List LanguageType → Expression → ℕ → Context → Type 0
TypedAt op types epsilon p Γ = type_of types p ≡ epsilon_type
TypedAt op types bottom p Γ = type_of types p ≡ bottom_type
TypedAt op types (token k) p Γ = type_of types p ≡ token_type k
TypedAt op types (sequence g h) p Γ =
    (type_of types p ≡ op (type_of types (suc p)) (type_of types (suc p + size g)))
    × Separable (type_of types (suc p)) (type_of types (suc p + size g))
    × TypedAt op types g (suc p) Γ
    × TypedAt op types h (suc p + size g) (all_usable Γ)
TypedAt op types (alternative g h) p Γ =
    (type_of types p ≡ alternative_type (type_of types (suc p)) (type_of types (suc p + size g)))
    × Apart (type_of types (suc p)) (type_of types (suc p + size g))
    × TypedAt op types g (suc p) Γ
    × TypedAt op types h (suc p + size g) Γ
TypedAt op types (fixed_point g) p Γ =
    (type_of types p ≡ type_of types (suc p)) × TypedAt op types g (suc p) (record { usable = false; type = type_of types p } ∷ Γ)
TypedAt op types (variable n) p Γ = Usable Γ n (type_of types p)
TypedAt op types (repetition g) p Γ =
    (type_of types p ≡ repetition_type_with op (type_of types (suc p)) (type_of types p))
    × Separable (type_of types (suc p)) (type_of types (suc p))
    × TypedAt op types g (suc p) Γ

-- It is a derivation at the node's type,
pub typed_derivation : (op : Operation) (types : List LanguageType) (g : Expression) (p : ℕ) (Γ : Context) → TypedAt op types g p Γ
    → Typed op Γ g (type_of types p)
typed_derivation op types epsilon p Γ t = rw t type_epsilon
typed_derivation op types bottom p Γ t = rw t type_bottom
typed_derivation op types (token k) p Γ t = rw t (type_token k)
typed_derivation op types (sequence g h) p Γ t =
    rw t.0 (type_sequence (typed_derivation op types g (suc p) Γ t.2) (typed_derivation op types h (suc p + size g) (all_usable Γ) t.3) t.1)
typed_derivation op types (alternative g h) p Γ t =
    rw t.0 (type_alternative (typed_derivation op types g (suc p) Γ t.2) (typed_derivation op types h (suc p + size g) Γ t.3) t.1)
typed_derivation op types (fixed_point g) p Γ t =
    type_fixed_point {a = type_of types p} (subst (λ a. Typed op (record { usable = false; type = type_of types p } ∷ Γ) g a) (sym t.0)
    (typed_derivation op types g (suc p) (record { usable = false; type = type_of types p } ∷ Γ) t.1))
typed_derivation op types (variable n) p Γ t = type_variable t
typed_derivation op types (repetition g) p Γ t = type_repetition (typed_derivation op types g (suc p) Γ t.2) t.1 t.0

-- and every derivation is one at the types that it gives to the nodes: in a list that holds them from p on, g at p is typed.
pub annotated : {op : Operation} {Γ : Context} {g : Expression} {a : LanguageType} → Typed op Γ g a
    → LaidOut (size g) (λ types p. TypedAt op types g p Γ) a
unfolding size
annotated {op} type_epsilon = laid_alone (λ types p o. o)
annotated {op} type_bottom = laid_alone (λ types p o. o)
annotated {op} (type_token t) = laid_alone (λ types p o. o)
annotated {op} (type_variable {Γ = Γ} {n = n} u) = laid_alone (λ types p o. subst (Usable Γ n) (sym o) u)
annotated {op} (type_sequence d e s) = laid_two (annotated d) (annotated e)
    (λ types p o l r x y. (o ∙ sym (ap₂ op l r), subst₂ Separable (sym l) (sym r) s, x, y))
annotated {op} (type_alternative d e s) = laid_two (annotated d) (annotated e)
    (λ types p o l r x y. (o ∙ sym (ap₂ alternative_type l r), subst₂ Apart (sym l) (sym r) s, x, y))
annotated {op} (type_fixed_point {Γ = Γ} {g = g} d) = laid_one (annotated d)
    (λ types p o l x. (o ∙ sym l, subst (λ b. TypedAt op types g (suc p) (record { usable = false; type = b } ∷ Γ)) (sym o) x))
annotated {op} (type_repetition d s e) = laid_one (annotated d)
    (λ types p o l x. (o ∙ (e ∙ sym (ap₂ (repetition_type_with op) l o)), subst₂ Separable (sym l) (sym l) s, x))
