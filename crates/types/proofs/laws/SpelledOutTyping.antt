-- A repetition has just the types that its form has, in every context, and so has an expression those of its spelled_out form.
use Rattle.std.specs.Prelude.{◌≡◌, refl, false, [], ◌∷◌, ◌↔◌, ℕ, zero, suc}
use Rattle.std.proofs.Common.{sym, subst, ◌∙◌}
use Rattle.std.proofs.Math.Path.{ap}
use Rattle.sheet.specs.Expression.{Expression, epsilon, bottom, token, sequence, alternative, fixed_point, variable, repetition}
use Rattle.types.specs.Types.{LanguageType, epsilon_type, sequence_type, alternative_type, repetition_type, repetition_type_with, Separable, Hypothesis, all_usable, Usable, here, there, ◌⊢◌∶◌, type_epsilon, type_bottom, type_token, type_variable, type_sequence, type_alternative, type_fixed_point, type_repetition, HasType}
use Rattle.types.specs.TypeNames.{usable_now, Context}
use Rattle.types.proofs.laws.TypeLaws.{separable_from_repetition, separable_from_itself, epsilon_apart}
use Rattle.types.specs.SpelledOut.{raise_count, raise, repetition_form, spelled_out}
use Rattle.types.proofs.laws.PutIn.{PutIn, in_front, further_in, put_in_map}

-- Every type that g has in Γ, k has in Δ. Each rule of Figure 2 keeps this.
abbrev Carries : Context → Expression → Context → Expression → Type 0
Carries Γ g Δ k = (a : LanguageType) → Γ ⊢ g ∶ a → Δ ⊢ k ∶ a

carries_epsilon : {Γ Δ : Context} → Carries Γ epsilon Δ epsilon
carries_epsilon a type_epsilon = type_epsilon

carries_bottom : {Γ Δ : Context} → Carries Γ bottom Δ bottom
carries_bottom a type_bottom = type_bottom

carries_token : {Γ Δ : Context} {t : ℕ} → Carries Γ (token t) Δ (token t)
carries_token a (type_token t) = type_token t

carries_sequence : {Γ Δ : Context} {g h k l : Expression} → Carries Γ g Δ k → Carries (all_usable Γ) h (all_usable Δ) l
    → Carries Γ (sequence g h) Δ (sequence k l)
carries_sequence f r c (type_sequence {a = a} {b = b} x y s) = type_sequence (f a x) (r b y) s

carries_alternative : {Γ Δ : Context} {g h k l : Expression} → Carries Γ g Δ k → Carries Γ h Δ l
    → Carries Γ (alternative g h) Δ (alternative k l)
carries_alternative f r c (type_alternative {a = a} {b = b} x y s) = type_alternative (f a x) (r b y) s

carries_fixed_point : {Γ Δ : Context} {g k : Expression}
    → ((a : LanguageType) → Carries (record { usable = false; type = a } ∷ Γ) g (record { usable = false; type = a } ∷ Δ) k)
    → Carries Γ (fixed_point g) Δ (fixed_point k)
carries_fixed_point f a (type_fixed_point x) = type_fixed_point (f a a x)

carries_repetition : {Γ Δ : Context} {g k : Expression} → Carries Γ g Δ k → Carries Γ (repetition g) Δ (repetition k)
carries_repetition f b (type_repetition {a = a} x s e) = type_repetition (f a x) s e

-- The same types, both ways.
abbrev SameTypes : Context → Expression → Context → Expression → Type 0
SameTypes Γ g Δ k = Carries Γ g Δ k × Carries Δ k Γ g

same_sequence : {Γ Δ : Context} {g h k l : Expression} → SameTypes Γ g Δ k → SameTypes (all_usable Γ) h (all_usable Δ) l
    → SameTypes Γ (sequence g h) Δ (sequence k l)
same_sequence x y = (carries_sequence x.0 y.0, carries_sequence x.1 y.1)

same_alternative : {Γ Δ : Context} {g h k l : Expression} → SameTypes Γ g Δ k → SameTypes Γ h Δ l
    → SameTypes Γ (alternative g h) Δ (alternative k l)
same_alternative x y = (carries_alternative x.0 y.0, carries_alternative x.1 y.1)

same_fixed_point : {Γ Δ : Context} {g k : Expression}
    → ((a : LanguageType) → SameTypes (record { usable = false; type = a } ∷ Γ) g (record { usable = false; type = a } ∷ Δ) k)
    → SameTypes Γ (fixed_point g) Δ (fixed_point k)
same_fixed_point x = (carries_fixed_point (λ a. (x a).0), carries_fixed_point (λ a. (x a).1))

same_repetition : {Γ Δ : Context} {g k : Expression} → SameTypes Γ g Δ k → SameTypes Γ (repetition g) Δ (repetition k)
same_repetition x = (carries_repetition x.0, carries_repetition x.1)

-- One more hypothesis in the context changes nothing for a raised expression.
usable_raised : {h : Hypothesis} {d n : ℕ} {Γ Δ : Context} {a : LanguageType} → PutIn h d Γ Δ → Usable Γ n a → Usable Δ (raise_count d n) a
usable_raised in_front u = there u
usable_raised (further_in s) here = here
usable_raised (further_in s) (there u) = there (usable_raised s u)

raised_usable : {h : Hypothesis} {d : ℕ} {Γ Δ : Context} {a : LanguageType} → PutIn h d Γ Δ → (n : ℕ) → Usable Δ (raise_count d n) a → Usable Γ n a
raised_usable in_front n (there u) = u
raised_usable (further_in s) zero here = here
raised_usable (further_in s) (suc n) (there u) = there (raised_usable s n u)

variable_raised : {h : Hypothesis} {d n : ℕ} {Γ Δ : Context} → PutIn h d Γ Δ → Carries Γ (variable n) Δ (variable (raise_count d n))
variable_raised s a (type_variable u) = type_variable (usable_raised s u)

raised_variable : {h : Hypothesis} {d n : ℕ} {Γ Δ : Context} → PutIn h d Γ Δ → Carries Δ (variable (raise_count d n)) Γ (variable n)
raised_variable {n = n} s a (type_variable u) = type_variable (raised_usable s n u)

raised_types : (g : Expression) {h : Hypothesis} {d : ℕ} {Γ Δ : Context} → PutIn h d Γ Δ → SameTypes Γ g Δ (raise d g)
raised_types epsilon s = (carries_epsilon, carries_epsilon)
raised_types bottom s = (carries_bottom, carries_bottom)
raised_types (token k) s = (carries_token, carries_token)
raised_types (sequence g h) s = same_sequence (raised_types g s) (raised_types h (put_in_map usable_now s))
raised_types (alternative g h) s = same_alternative (raised_types g s) (raised_types h s)
raised_types (fixed_point g) s = same_fixed_point (λ a. raised_types g (further_in s))
raised_types (variable n) s = (variable_raised s, raised_variable s)
raised_types (repetition g) s = same_repetition (raised_types g s)

-- The types of ε and of β, the innermost variable.
epsilon_typed : {Γ : Context} {a : LanguageType} → Γ ⊢ epsilon ∶ a → a ≡ epsilon_type
epsilon_typed type_epsilon = refl

usable_typed : {h : Hypothesis} {Γ : Context} {a : LanguageType} → Usable (h ∷ Γ) zero a → a ≡ h.type
usable_typed here = refl

variable_typed : {h : Hypothesis} {Γ : Context} {a : LanguageType} → (h ∷ Γ) ⊢ variable zero ∶ a → a ≡ h.type
variable_typed (type_variable u) = usable_typed u

-- From a derivation for the repetition one for its form, over the same types of the part and of the whole, and back.
module _ (Γ : Context) (g : Expression) where
  abbrev form_body : Expression
  form_body = alternative epsilon (sequence (raise zero g) (variable zero))

  abbrev inside : LanguageType → Context
  inside b = record { usable = false; type = b } ∷ Γ

  form_typed : Carries Γ (repetition g) Γ (repetition_form g)
  unfolding repetition_type_with
  form_typed b (type_repetition {a = a} x s e) = type_fixed_point (subst (λ c. inside b ⊢ form_body ∶ c) (sym e)
      (type_alternative type_epsilon
      (type_sequence ((raised_types g in_front).0 a x) (type_variable here) (separable_from_repetition a b e s))
      (epsilon_apart a b s.not_null)))

  sequence_typed : {b c : LanguageType} → inside b ⊢ sequence (raise zero g) (variable zero) ∶ c → b ≡ alternative_type epsilon_type c
      → Γ ⊢ repetition g ∶ b
  unfolding repetition_type_with
  sequence_typed {b} (type_sequence {a = a} x y s) e =
      let v = variable_typed y in
      let own : b ≡ repetition_type a b = e ∙ ap (λ c. alternative_type epsilon_type (sequence_type a c)) v in
      type_repetition ((raised_types g in_front).1 a x) (separable_from_itself a b own (subst (Separable a) v s)) own

  body_typed : {b c : LanguageType} → inside b ⊢ form_body ∶ c → b ≡ c → Γ ⊢ repetition g ∶ b
  body_typed (type_alternative {b = c} x y k) e = sequence_typed y (e ∙ ap (λ a. alternative_type a c) (epsilon_typed x))

  typed_form : Carries Γ (repetition_form g) Γ (repetition g)
  typed_form b (type_fixed_point x) = body_typed x refl

pub repetition_types : (Γ : Context) (g : Expression) (b : LanguageType) → (Γ ⊢ repetition g ∶ b) ↔ (Γ ⊢ repetition_form g ∶ b)
repetition_types Γ g b = (form_typed Γ g b, typed_form Γ g b)

-- At every depth at once.
same_spelled_out : (e : Expression) (Γ : Context) → SameTypes Γ e Γ (spelled_out e)
same_spelled_out epsilon Γ = (carries_epsilon, carries_epsilon)
same_spelled_out bottom Γ = (carries_bottom, carries_bottom)
same_spelled_out (token k) Γ = (carries_token, carries_token)
same_spelled_out (sequence g h) Γ = same_sequence (same_spelled_out g Γ) (same_spelled_out h (all_usable Γ))
same_spelled_out (alternative g h) Γ = same_alternative (same_spelled_out g Γ) (same_spelled_out h Γ)
same_spelled_out (fixed_point g) Γ = same_fixed_point (λ a. same_spelled_out g (record { usable = false; type = a } ∷ Γ))
same_spelled_out (variable n) Γ = (λ a x. x, λ a x. x)
same_spelled_out (repetition g) Γ =
    let part = same_repetition (same_spelled_out g Γ) in
    let k = spelled_out g in
    (λ b x. form_typed Γ k b (part.0 b x), λ b x. part.1 b (typed_form Γ k b x))

pub spelled_out_types : (Γ : Context) (e : Expression) (b : LanguageType) → (Γ ⊢ e ∶ b) ↔ (Γ ⊢ spelled_out e ∶ b)
spelled_out_types Γ e b = ((same_spelled_out e Γ).0 b, (same_spelled_out e Γ).1 b)

pub spelled_out_has_type : (e : Expression) → HasType e ↔ HasType (spelled_out e)
spelled_out_has_type e = (λ h. (h.0, (spelled_out_types [] e h.0).0 h.1), λ h. (h.0, (spelled_out_types [] e h.0).1 h.1))
