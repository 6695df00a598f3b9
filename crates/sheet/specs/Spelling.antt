-- How numbers are written: which bytes are written for a number, and where numbers stand among bytes, one after the other. Which numbers a
-- sheet has is said in SheetFormat; how bytes are read is not said here.
use Rattle.std.specs.Prelude.{List, [], ◌∷◌, ◌++◌, ℕ, ◌-◌, ◌^◌, ◌≤◌, ◌<◌, length, get_or, take, drop}
use Rattle.number.specs.Number.{InGroups, encode}

-- Bytes: each is below 256.
abbrev pub Bytes : List ℕ → Type 0
Bytes bytes = (i : ℕ) → get_or bytes i 0 < 256

-- "A number is written in groups of seven bits .. and lies below 2^64"; "In sheets a number may have any length up to ten groups": in a
-- sheet these bytes are written for this number.
abbrev pub NumberBytes : ℕ → List ℕ → Type 0
NumberBytes n bytes = (n < 2 ^ 64) × InGroups n bytes × (length bytes ≤ 10)

-- A number stands at a place of some bytes: those from there up to the next number's place are written for it. Which bytes are written for
-- a number is not the same in a sheet and in an image.
pub record StandsAt (Written : ℕ → List ℕ → Type 0) (bytes : List ℕ) (at n next : ℕ) : Type 0 where
  pub inside : next ≤ length bytes
  pub written : Written n (take (next - at) (drop at bytes))

-- In a sheet.
abbrev pub NumberAt : List ℕ → ℕ → ℕ → ℕ → Type 0
NumberAt = StandsAt NumberBytes

-- Numbers stand one after the other, from a place to an end.
pub data NumbersAt (bytes : List ℕ) : ℕ → List ℕ → ℕ → Type 0 where
  no_more : {at : ℕ} → NumbersAt bytes at [] at
  one_more : {at n next end : ℕ} {ns : List ℕ} → NumberAt bytes at n next → NumbersAt bytes next ns end → NumbersAt bytes at (n ∷ ns) end

-- Numbers in their fewest bytes, one after the other, as an image has them.
unfoldable pub spell : List ℕ → List ℕ
spell [] = []
spell (n ∷ ns) = encode n ++ spell ns
