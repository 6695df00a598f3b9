-- A repetition denotes what its form denotes, and so an expression what its spelled_out form denotes: the same language in every
-- environment, whatever the types.
use Rattle.std.specs.Prelude.{◌≡◌, refl, List, [], ◌∷◌, ◌↔◌, ℕ, zero, suc}
use Rattle.std.proofs.Common.{sym, ◌∙◌}
use Rattle.std.proofs.Math.Path.{transport}
use Rattle.sheet.specs.Expression.{Expression, epsilon, bottom, token, sequence, alternative, fixed_point, variable, repetition}
use Rattle.types.specs.Denotation.{Language, followed_by, least_fixed_point, language_at, denotation, Denotes}
use Rattle.types.specs.Languages.{either, any_number_of, Environment}
use Rattle.types.specs.SpelledOut.{raise_count, raise, repetition_form, spelled_out}
use Rattle.types.proofs.laws.PutIn.{PutIn, in_front, further_in}

-- A raised variable denotes what it did, and so does a raised expression.
raised_language : {L : Language} {d : ℕ} {γ δ : Environment} → PutIn L d γ δ → (n : ℕ) (w : List ℕ)
    → language_at γ n w ≡ language_at δ (raise_count d n) w
raised_language in_front n w = refl
raised_language (further_in s) zero w = refl
raised_language (further_in s) (suc n) w = raised_language s n w

raised_denotes : (g : Expression) {L : Language} {d : ℕ} {γ δ : Environment} → PutIn L d γ δ → (w : List ℕ)
    → denotation g γ w ≡ denotation (raise d g) δ w
raised_denotes epsilon s w = refl
raised_denotes bottom s w = refl
raised_denotes (token k) s w = refl
raised_denotes (sequence g h) s w = λ i. followed_by (λ v. raised_denotes g s v i) (λ v. raised_denotes h s v i) w
raised_denotes (alternative g h) s w = λ i. either (λ v. raised_denotes g s v i) (λ v. raised_denotes h s v i) w
raised_denotes (fixed_point g) s w = λ i. least_fixed_point (λ M v. raised_denotes g (further_in {y = M} s) v i) w
raised_denotes (variable n) s w = raised_language s n w
raised_denotes (repetition g) s w = λ i. any_number_of (λ v. raised_denotes g s v i) w

-- The repetition's language and that of μβ.(ε ∨ g·β).
pub repetition_language : (g : Expression) (γ : Environment) (w : List ℕ) → denotation (repetition g) γ w ≡ denotation (repetition_form g) γ w
repetition_language g γ w =
    λ i. least_fixed_point (λ M. either (λ v. v ≡ []) (followed_by (λ v. raised_denotes g {L = M} {γ = γ} in_front v i) M)) w

pub repetition_denotes : (g : Expression) (γ : Environment) (w : List ℕ) → denotation (repetition g) γ w ↔ denotation (repetition_form g) γ w
repetition_denotes g γ w = let p = repetition_language g γ w in (transport p, transport (sym p))

-- At every depth at once.
pub spelled_out_language : (e : Expression) (γ : Environment) (w : List ℕ) → denotation e γ w ≡ denotation (spelled_out e) γ w
spelled_out_language epsilon γ w = refl
spelled_out_language bottom γ w = refl
spelled_out_language (token k) γ w = refl
spelled_out_language (sequence g h) γ w =
    λ i. followed_by (λ v. spelled_out_language g γ v i) (λ v. spelled_out_language h γ v i) w
spelled_out_language (alternative g h) γ w =
    λ i. either (λ v. spelled_out_language g γ v i) (λ v. spelled_out_language h γ v i) w
spelled_out_language (fixed_point g) γ w = λ i. least_fixed_point (λ M v. spelled_out_language g (M ∷ γ) v i) w
spelled_out_language (variable n) γ w = refl
spelled_out_language (repetition g) γ w =
    (λ i. any_number_of (λ v. spelled_out_language g γ v i) w) ∙ repetition_language (spelled_out g) γ w

pub spelled_out_denotes : (e : Expression) (tokens : List ℕ) → Denotes e tokens ↔ Denotes (spelled_out e) tokens
spelled_out_denotes e tokens = let p = spelled_out_language e [] tokens in (transport p, transport (sym p))
