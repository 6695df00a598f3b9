-- Values that are given by equations, one for each of them: all start with the least value, and the equations are applied to all of them,
-- round by round. When the rounds end at the least values that solve the equations is not said here: it is a law.
use Rattle.std.specs.Prelude.{List, map, ℕ, zero, suc, length, replicate}

-- The values after so many rounds.
unfoldable pub rounds : {A E : Type 0} → A → (List A → E → A) → List E → ℕ → List A
rounds least equation es zero = replicate (length es) least
rounds least equation es (suc k) = map (equation (rounds least equation es k)) es
