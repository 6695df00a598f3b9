-- What an expression denotes: section 3.4 of the flap paper, word for word, and repetition. A language is a set of token sequences.
use Rattle.std.specs.Prelude.{◌≡◌, List, [], ◌∷◌, ◌++◌, ◌⊎◌, ℕ, zero, suc}
use Rattle.sheet.specs.Expression.{Expression, epsilon, bottom, token, sequence, alternative, fixed_point, variable, repetition}

abbrev pub Language : Type 1
Language = List ℕ → Type 0

-- { w · w' | w ∈ L ∧ w' ∈ M }
abbrev pub followed_by : Language → Language → Language
followed_by L M w = (u : List ℕ) × (v : List ℕ) × (w ≡ u ++ v) × L u × M v

-- L₀ = ∅, Lᵢ₊₁ = f(Lᵢ)
abbrev pub iterate : (Language → Language) → ℕ → Language
iterate f zero = λ w. ⊥
iterate f (suc i) = f (iterate f i)

-- fix(f), the union of all Lᵢ
abbrev pub least_fixed_point : (Language → Language) → Language
least_fixed_point f w = (i : ℕ) × iterate f i w

-- The language of a variable, in γ: the languages of the open fixed points, the innermost first. Past its end it denotes nothing.
abbrev pub language_at : List Language → ℕ → Language
language_at [] n = λ w. ⊥
language_at (L ∷ γ) zero = L
language_at (L ∷ γ) (suc n) = language_at γ n

-- ⟦g⟧γ
abbrev pub denotation : Expression → List Language → Language
denotation epsilon γ w = w ≡ []
denotation bottom γ w = ⊥
denotation (token k) γ w = w ≡ k ∷ []
denotation (sequence g h) γ w = followed_by (denotation g γ) (denotation h γ) w
denotation (alternative g h) γ w = denotation g γ w ⊎ denotation h γ w
denotation (fixed_point g) γ w = least_fixed_point (λ L. denotation g (L ∷ γ)) w
denotation (variable n) γ w = language_at γ n w
-- μβ.(ε ∨ g·β), β new: any number of words of g, one after the other
denotation (repetition g) γ w = least_fixed_point (λ L v. (v ≡ []) ⊎ followed_by (denotation g γ) L v) w

-- The expression denotes the token sequence: a sheet's expression is closed.
abbrev pub Denotes : Expression → List ℕ → Type 0
Denotes e tokens = denotation e [] tokens
