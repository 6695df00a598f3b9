-- The numbers met so far: which they are, in which order they joined, and the place of each.
use Rattle.std.specs.Prelude.{ℕ, T}
use mathlib.Core.List.{List}
use Rattle.basics.specs.Meeting.{is_met}

-- ---- what has been met

-- Number n is among those met.
abbrev pub Met : ℕ → List ℕ → Type 0
Met n met = T (is_met n met)
