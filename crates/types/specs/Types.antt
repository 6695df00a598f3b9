-- Figure 2 of the flap paper with the typing paper's type of a sequence (request [8]): types, the operations on them, separable and apart,
-- and the typing judgement, with one rule more for repetition.
-- A set of tokens is one number, token t being 2^t, as a set of positions is in an image.
use Rattle.std.specs.Prelude.{◌≡◌, Bool, true, false, not, ◌&&◌, ◌||◌, cond, List, [], ◌∷◌, map, ℕ, zero, suc, ◌^◌, eqb}
use Rattle.std.specs.Int.Bits.{bit_or, bit_and}
use Rattle.sheet.specs.Expression.{Expression, epsilon, bottom, token, sequence, alternative, fixed_point, variable, repetition}

-- {NULL; FIRST; FLAST}. Document 01 calls FLAST the follow-last set.
pub record LanguageType : Type 0 where
  pub null : Bool
  pub first : ℕ
  pub flast : ℕ

-- b ? S
abbrev pub if_null : Bool → ℕ → ℕ
if_null b s = cond b s 0

-- τ_ε, τ_⊥, τ_t
unfoldable pub epsilon_type : LanguageType
epsilon_type = record { null = true; first = 0; flast = 0 }

unfoldable pub bottom_type : LanguageType
bottom_type = record { null = false; first = 0; flast = 0 }

unfoldable pub token_type : ℕ → LanguageType
token_type t = record { null = false; first = 2 ^ t; flast = 0 }

-- Operations on two types.
abbrev pub Operation : Type 0
Operation = LanguageType → LanguageType → LanguageType

-- τ₁ · τ₂ as the flap paper has it, for all types; the typing paper has it where neither part has τ_⊥.
unfoldable pub flap_sequence_type : Operation
flap_sequence_type a b = record {
  null = a.null && b.null;
  first = bit_or a.first (if_null a.null b.first);
  flast = bit_or b.flast (if_null b.null (bit_or b.first a.flast));
}

-- τ = τ_⊥: not NULL, and both sets are empty.
unfoldable pub is_bottom : LanguageType → Bool
is_bottom a = not a.null && (eqb a.first 0 && eqb a.flast 0)

-- τ₁ · τ₂ as the typing paper has it; in the words of request [8], "a sequence with a part whose type is the empty language's has that type
-- too".
unfoldable pub sequence_type : Operation
sequence_type a b = cond (is_bottom a || is_bottom b) bottom_type (flap_sequence_type a b)

-- τ₁ ∨ τ₂
unfoldable pub alternative_type : Operation
alternative_type a b = record {
  null = a.null || b.null;
  first = bit_or a.first b.first;
  flast = bit_or a.flast b.flast;
}

-- ε ∨ τ₁·τ₂: the type of the body of μβ.(ε ∨ g·β), from g's type and β's, with an operation for the sequence
unfoldable pub repetition_type_with : Operation → Operation
repetition_type_with op a b = alternative_type epsilon_type (op a b)

abbrev pub repetition_type : Operation
repetition_type = repetition_type_with sequence_type

-- τ₁ ⊛ τ₂, separable: FLAST of the first and FIRST of the second have no token in common, and the first is not NULL.
pub record Separable (a b : LanguageType) : Type 0 where
  pub disjoint : bit_and a.flast b.first ≡ 0
  pub not_null : a.null ≡ false

-- τ₁ # τ₂, apart: the FIRST sets have no token in common, and not both are NULL.
pub record Apart (a b : LanguageType) : Type 0 where
  pub disjoint : bit_and a.first b.first ≡ 0
  pub one_null : (a.null && b.null) ≡ false

-- The two contexts Γ; Δ as one list, the innermost variable first: a variable of Γ may be used, one of Δ may not yet.
pub record Hypothesis : Type 0 where
  pub usable : Bool
  pub type : LanguageType

abbrev pub all_usable : List Hypothesis → List Hypothesis
all_usable = map (λ h. record { usable = true; type = h.type })

-- α : τ ∈ Γ, for the variable with so many open fixed points between it and its own
pub data Usable : List Hypothesis → ℕ → LanguageType → Type 0 where
  here : {a : LanguageType} {Γ : List Hypothesis} → Usable (record { usable = true; type = a } ∷ Γ) zero a
  there : {h : Hypothesis} {a : LanguageType} {Γ : List Hypothesis} {n : ℕ} → Usable Γ n a → Usable (h ∷ Γ) (suc n) a

-- Γ; Δ ⊢ g : τ, with an operation for the sequence. A fixed point's annotation is chosen by the derivation: "the sheet carries no types".
pub data Typed (op : Operation) : List Hypothesis → Expression → LanguageType → Type 0 where
  type_epsilon : {Γ : List Hypothesis} → Typed op Γ epsilon epsilon_type
  type_bottom : {Γ : List Hypothesis} → Typed op Γ bottom bottom_type
  type_token : {Γ : List Hypothesis} (t : ℕ) → Typed op Γ (token t) (token_type t)
  type_variable : {Γ : List Hypothesis} {n : ℕ} {a : LanguageType} → Usable Γ n a → Typed op Γ (variable n) a
  type_sequence : {Γ : List Hypothesis} {g h : Expression} {a b : LanguageType}
      → Typed op Γ g a → Typed op (all_usable Γ) h b → Separable a b → Typed op Γ (sequence g h) (op a b)
  type_alternative : {Γ : List Hypothesis} {g h : Expression} {a b : LanguageType}
      → Typed op Γ g a → Typed op Γ h b → Apart a b → Typed op Γ (alternative g h) (alternative_type a b)
  type_fixed_point : {Γ : List Hypothesis} {g : Expression} {a : LanguageType}
      → Typed op (record { usable = false; type = a } ∷ Γ) g a → Typed op Γ (fixed_point g) a
  -- "It has that form's type .., and its part must be separable from itself". The part stands where that form has it, in the
  -- left part of g·β: what may not be used outside it may not be used in it.
  type_repetition : {Γ : List Hypothesis} {g : Expression} {a b : LanguageType}
      → Typed op Γ g a → Separable a a → b ≡ repetition_type_with op a b → Typed op Γ (repetition g) b

-- "From here on 001's typing decides acceptance."
infix 20 ◌⊢◌∶◌
abbrev pub ◌⊢◌∶◌ : List Hypothesis → Expression → LanguageType → Type 0
Γ ⊢ g ∶ a = Typed sequence_type Γ g a

-- "its expression has a type under the published typing rules": the flap paper's, with the typing paper's type of a sequence.
abbrev pub HasType : Expression → Type 0
HasType e = (a : LanguageType) × ([] ⊢ e ∶ a)
