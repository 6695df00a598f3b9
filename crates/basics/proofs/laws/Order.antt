-- Two numbers compared, as cases to go by.
use Rattle.std.specs.Prelude.{◌≡◌, refl, ◌⊎◌, ℕ, zero, suc, ◌≤◌, ◌<◌}
use Rattle.std.proofs.Common.{ap, inl, inr, ⊎_elim, arith}
use Rattle.std.proofs.Math.Decide.{dec_lt}

pub compare_cases : (i j : ℕ) → (i < j) ⊎ ((i ≡ j) ⊎ (j < i))
compare_cases zero zero = inr (inl refl)
compare_cases zero (suc j) = inl (omega arith)
compare_cases (suc i) zero = inr (inr (omega arith))
compare_cases (suc i) (suc j) =
    ⊎_elim (λ h. inl (omega arith)) (⊎_elim (λ e. inr (inl (ap suc e))) (λ h. inr (inr (omega arith)))) (compare_cases i j)

pub lt-or-le : (i j : ℕ) → (i < j) ⊎ (j ≤ i)
lt-or-le i j = elim (dec_lt i j) [ yes h ↦ inl h | no h ↦ inr (omega arith) ]
