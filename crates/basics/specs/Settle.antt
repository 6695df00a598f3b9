-- Rounds that stop once nothing changes, as they are computed. They lead to the same values as `rounds` (Settling: `settled_rounds`).
use Rattle.std.specs.Prelude.{Bool, true, false, ◌&&◌, List, [], ◌∷◌, map, ℕ, zero, suc, ◌*◌, length, replicate}

-- A step taken so many times, but no further once it changes nothing.
unfoldable pub settle : {A : Type 0} → (A → A → Bool) → (A → A) → ℕ → A → A
settle same step zero a = a
settle same step (suc k) a = let b = step a in elim (same a b) [ true ↦ a | false ↦ settle same step k b ]

-- The same members in the same order, by a test of members.
unfoldable pub same_all : {A : Type 0} → (A → A → Bool) → List A → List A → Bool
same_all same [] [] = true
same_all same [] (b ∷ ys) = false
same_all same (a ∷ xs) [] = false
same_all same (a ∷ xs) (b ∷ ys) = same a b && same_all same xs ys

-- Each round that changes something lets a value grow, and each value can grow `height` times: so many rounds are enough.
unfoldable pub least_solution : {A E : Type 0} → (A → A → Bool) → A → ℕ → (List A → E → A) → List E → List A
least_solution same least height equation es = settle (same_all same) (λ l. map (equation l) es) (height * length es) (replicate (length es) least)
