-- A set of small numbers as one number: i is a member of s when the bit of 2^i is set in s ("position i being 2^i").
use Rattle.std.specs.Prelude.{Bool, true, ◌≡◌, ℕ, ◌^◌, ◌/◌, ◌%◌, eqb}

-- Whether i is a member.
unfoldable pub bit : ℕ → ℕ → Bool
bit s i = eqb (s / 2 ^ i % 2) 1

infix 40 ◌∈◌
abbrev pub ◌∈◌ : ℕ → ℕ → Type 0
i ∈ s = bit s i ≡ true
