-- Numbers in the order in which they are first met: those that each of them leads to join at the end, row by row. Which numbers a number
-- leads to is left open: nodes and their tails, or sets of positions and the sets that follow. Nothing here speaks of either.
use Rattle.std.specs.Prelude.{Bool, false, ◌||◌, cond, List, [], ◌∷◌, ◌++◌, ℕ, zero, suc, get_or, length, eqb, ltb}

unfoldable pub is_met : ℕ → List ℕ → Bool
is_met n [] = false
is_met n (m ∷ met) = eqb m n || is_met n met

-- A number joins those met, at their end, unless it has been met.
unfoldable pub meet : List ℕ → ℕ → List ℕ
meet met n = cond (is_met n met) met (met ++ (n ∷ []))

unfoldable pub meet_all : List ℕ → List ℕ → List ℕ
meet_all met [] = met
meet_all met (n ∷ tail) = meet_all (meet met n) tail

-- Row by row, from the i-th number met on, so many rows at most. A number's row are those that it leads to.
unfoldable pub meet_rows : (ℕ → List ℕ) → ℕ → ℕ → List ℕ → List ℕ
meet_rows row zero i met = met
meet_rows row (suc k) i met = cond (ltb i (length met)) (meet_rows row k (suc i) (meet_all met (row (get_or met i 0)))) met

-- A number's place among those met.
unfoldable pub number_of : List ℕ → ℕ → ℕ
number_of [] n = 0
number_of (m ∷ met) n = cond (eqb m n) 0 (suc (number_of met n))
