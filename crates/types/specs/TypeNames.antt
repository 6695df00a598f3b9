-- Names for contexts and types, as the proofs speak of them.
use Rattle.std.specs.Prelude.{◌≡◌, true, List, [], ◌∷◌, ℕ}
use Rattle.basics.specs.Bits.{◌∈◌}
use Rattle.types.specs.Types.{LanguageType, Hypothesis}

abbrev pub Context : Type 0
Context = List Hypothesis

-- Γ, Δ; • : every variable may be used.
abbrev pub usable_now : Hypothesis → Hypothesis
usable_now h = record { usable = true; type = h.type }

-- The type has what the word begins with: NULL for the empty word, else its first token in FIRST.
abbrev pub TypeHas : LanguageType → List ℕ → Type 0
TypeHas a [] = a.null ≡ true
TypeHas a (t ∷ w) = t ∈ a.first
