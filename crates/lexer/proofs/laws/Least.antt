-- The least number of a kind, or that there is none: what a search for it is to answer.
use Rattle.std.specs.Prelude.{◌≡◌, refl, ◌↔◌, ℕ, ◌<◌}
use Rattle.std.proofs.Common.{ap, ⊎_elim}
use Rattle.std.proofs.Math.Option.{Option, none, some}
use Rattle.basics.proofs.laws.Order.{compare_cases}

-- The least number that is so, if any is.
abbrev pub LeastOf : (ℕ → Type 0) → Option ℕ → Type 0
LeastOf Q none = (k : ℕ) → Q k → ⊥
LeastOf Q (some k) = Q k × ((j : ℕ) → j < k → Q j → ⊥)

pub least_iff : (Q R : ℕ → Type 0) → ((k : ℕ) → Q k ↔ R k) → (o : Option ℕ) → LeastOf Q o → LeastOf R o
least_iff Q R f none h = λ k x. h k ((f k).1 x)
least_iff Q R f (some k) h = ((f k).0 h.0, λ j l x. h.1 j l ((f j).1 x))

pub least_one : (Q : ℕ → Type 0) (a b : Option ℕ) → LeastOf Q a → LeastOf Q b → a ≡ b
least_one Q none none g h = refl
least_one Q none (some k) g h = absurd (g k h.0)
least_one Q (some k) none g h = absurd (h k g.0)
least_one Q (some k) (some j) g h =
    ap (λ (x : ℕ). some x) (⊎_elim (λ l. absurd (h.1 k l g.0)) (⊎_elim (λ e. e) (λ l. absurd (g.1 j l h.0))) (compare_cases k j))
