-- Unfinished branches, request [8]: a branch that ends in ⊥ adds no word; N·⊥ ∨ N, which had no type, has one and denotes N alone; and so
-- has N·(μα.N·α) ∨ N, since it is the type of a part that counts, and not whether it is ⊥ itself.
use Rattle.std.specs.Prelude.{◌≡◌, refl, true, List, [], ◌∷◌, ◌↔◌, ℕ}
use Rattle.std.proofs.Common.{inr, ⊎_elim, arith}
use Rattle.std.proofs.Math.Option.{none}
use Rattle.sheet.specs.Expression.{Expression, bottom, token, sequence, alternative, fixed_point, variable}
use Rattle.sheet.specs.SheetD.{sheet_D}
use Rattle.types.specs.Denotation.{denotation, Denotes}
use Rattle.types.specs.Languages.{Environment}
use Rattle.types.specs.Types.{LanguageType, Apart, bottom_type, token_type, flap_sequence_type, here, Typed, type_epsilon, type_bottom, type_token, type_variable, type_sequence, type_alternative, type_fixed_point, HasType}
use Rattle.types.specs.FlapTyping.{HadType}
use Rattle.types.specs.Questions.{type_fault}
use Rattle.types.proofs.laws.Typing.{typed_iff}
use Rattle.types.specs.laws.Computing.{computing_types}

-- Wherever it stands.
pub unfinished_adds_nothing : (g h : Expression) (γ : Environment) (w : List ℕ)
    → denotation (alternative (sequence g bottom) h) γ w ↔ denotation h γ w
unfinished_adds_nothing g h γ w = (λ x. ⊎_elim (λ y. absurd y.4) (λ y. y) x, λ x. inr x)

-- N·⊥ ∨ N, for any token N
module _ (t : ℕ) where
  abbrev unfinished : Expression
  unfinished = alternative (sequence (token t) bottom) (token t)

  pub unfinished_denotes : (w : List ℕ) → Denotes unfinished w ↔ (w ≡ t ∷ [])
  unfinished_denotes w = unfinished_adds_nothing (token t) (token t) [] w

pub unfinished_has_type : HasType (unfinished 0)
unfolding computing_types
unfinished_has_type = (typed_iff 1 (omega arith) (unfinished 0) ((omega arith, tt), omega arith)).0 refl

pub endless-part : type_fault (alternative (sequence (token 0) (fixed_point (sequence (token 0) (variable 0)))) (token 0)) ≡ none
unfolding computing_types
endless-part = refl

not_apart : Apart (flap_sequence_type (token_type 0) bottom_type) (token_type 0) → ⊥
unfolding computing_types
not_apart p = let z : ◌≡◌ {A = ℕ} 1 0 = p.disjoint in absurd (omega arith)

-- It had none.
pub unfinished_had_none : HadType (unfinished 0) → ⊥
unfinished_had_none h = not_typed h.1
  where
    not_typed : {a : LanguageType} → Typed flap_sequence_type [] (unfinished 0) a → ⊥
    not_typed (type_alternative (type_sequence (type_token k) type_bottom s) (type_token m) p) = not_apart p

-- Sheet D's expression had one.
list_type : LanguageType
list_type = record { null = true; first = 2; flast = 2 }

pub D_had_type : HadType sheet_D.expression
unfolding computing_types list_type
D_had_type = (
  _,
  type_sequence (type_token 0)
      (type_fixed_point {a = list_type} (type_alternative type_epsilon
      (type_sequence (type_token 1) (type_sequence (type_token 0) (type_variable here) (record { disjoint = refl; not_null = refl }))
      (record { disjoint = refl; not_null = refl })) (record { disjoint = refl; one_null = refl })))
      (record { disjoint = refl; not_null = refl }),
)
