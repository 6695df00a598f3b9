-- The laws of lists that are given entry by entry.
use Rattle.std.specs.Prelude.{◌≡◌, refl, [], ◌∷◌, map, ℕ, zero, suc, ◌+◌, ◌-◌, ◌≤◌, ◌<◌, length, get_or}
use Rattle.std.proofs.Common.{sym, ap, ap₂, ◌∙◌, add-one, arith}
use Rattle.columns.specs.Tabulate.{tabulate}

pub tabulate-length : {A : Type 0} (f : ℕ → A) (i n : ℕ) → length (tabulate f i n) ≡ n
unfolding tabulate
tabulate-length f i zero = refl
tabulate-length f i (suc n) = ap suc (tabulate-length f (suc i) n)

pub tabulate-at : {A : Type 0} (f : ℕ → A) (other : A) (i n k : ℕ) → k < n → get_or (tabulate f i n) k other ≡ f (i + k)
unfolding tabulate
tabulate-at f other i zero k l = absurd (omega arith)
tabulate-at f other i (suc n) zero l = ap f (omega arith)
tabulate-at f other i (suc n) (suc k) l = tabulate-at f other (suc i) n k (omega arith) ∙ ap f (omega arith)

-- Functions that agree on those numbers give the same list.
pub tabulate_same : {A : Type 0} (f g : ℕ → A) (i n : ℕ) → ((k : ℕ) → k < i + n → f k ≡ g k) → tabulate f i n ≡ tabulate g i n
unfolding tabulate
tabulate_same f g i zero h = refl
tabulate_same f g i (suc n) h = ap₂ ◌∷◌ (h i (omega arith)) (tabulate_same f g (suc i) n (λ k l. h k (omega arith)))

pub tabulate-map : {A B : Type 0} (f : A → B) (g : ℕ → A) (i n : ℕ) → map f (tabulate g i n) ≡ tabulate (λ k. f (g k)) i n
unfolding tabulate
tabulate-map f g i zero = refl
tabulate-map f g i (suc n) = ap (λ l. f (g i) ∷ l) (tabulate-map f g (suc i) n)

-- What is left of n entries from entry i on: the next one and those after it, or nothing.
pub tabulate-next : {A : Type 0} (f : ℕ → A) (n i : ℕ) → i < n → tabulate f i (n - i) ≡ f i ∷ tabulate f (i + 1) (n - (i + 1))
unfolding tabulate
tabulate-next f n i l =
    ap (tabulate f i) (left n i l) ∙ ap (λ (k : ℕ). f i ∷ tabulate f k (n - (i + 1))) (sym (add-one i))
  where
    left : (n i : ℕ) → i < n → n - i ≡ suc (n - (i + 1))
    left n i l = omega arith

pub tabulate_end : {A : Type 0} (f : ℕ → A) (n i : ℕ) → n ≤ i → tabulate f i (n - i) ≡ []
unfolding tabulate
tabulate_end f n i l = ap (tabulate f i) (none n i l)
  where
    none : (n i : ℕ) → n ≤ i → n - i ≡ 0
    none n i l = omega arith
