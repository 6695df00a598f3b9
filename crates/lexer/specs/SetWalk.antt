-- "walk the set as a word: from its lowest position to the next, until none is left": the positions that this walk meets, and what is to be
-- shown of them. A set of positions is one word of 64 digits. What is done at a position is not said here.
use Rattle.std.specs.Prelude.{cond, ℕ, zero, suc, ◌-◌, ◌≤◌, eqb}
use mathlib.Core.List.{List, [], ◌∷◌, Memᴰ}
use Rattle.std.specs.Int.Bits.{bit_and}
use Rattle.std.specs.Int.Count.{ones, count_trailing_zeros}
use Rattle.basics.specs.Bits.{bit, ◌∈◌}

-- At most so many steps of the walk. The lowest position stands at the number of trailing zeros, and clearing it gives the set that is left.
unfoldable pub steps : ℕ → ℕ → List ℕ
steps zero s = []
steps (suc k) s = cond (eqb s 0) [] (count_trailing_zeros 64 s ∷ steps k (bit_and s (s - 1)))

-- The positions that the walk meets, in their order: a step for each one that is left.
unfoldable pub set_walk : ℕ → List ℕ
set_walk s = steps (ones s) s

-- The rising list of a set's positions, of those among the n from i on.
unfoldable pub members_from : ℕ → ℕ → ℕ → List ℕ
members_from s i zero = []
members_from s i (suc n) = cond (bit s i) (i ∷ members_from s (suc i) n) (members_from s (suc i) n)

unfoldable pub members : ℕ → List ℕ
members s = members_from s 0 64

-- Each is above the one before it, and the first is at least so much.
abbrev pub Rises : ℕ → List ℕ → Type 0
Rises least [] = Unit
Rises least (i ∷ l) = (least ≤ i) × Rises (suc i) l

-- "meets each position of the set once, rising, and no other"
pub record MeetsEach (s : ℕ) (met : List ℕ) : Type 0 where
  pub rising : Rises 0 met
  pub each : (i : ℕ) → i ∈ s → Memᴰ i met
  pub no_other : (i : ℕ) → Memᴰ i met → i ∈ s
