-- Which positions lead to a set of positions: those whose follow set has a member of it; and what follows a set: the follow sets of its
-- members, together. The table of unions holds both answers for every choice of eight neighbouring positions. Whose follow sets these are,
-- and what is asked of the answers, is not said here.
use Rattle.std.specs.Prelude.{◌≡◌, cond, List, ℕ, zero, suc, ◌*◌, ◌/◌, ◌%◌, ◌^◌, ◌<◌, get_or}
use Rattle.std.specs.Int.Bits.{bit_or}
use Rattle.basics.specs.Bits.{bit}
use Rattle.lexer.specs.Alive.{meets}

-- The sets that n positions from i on have, together.
unfoldable pub over_positions : (ℕ → ℕ) → ℕ → ℕ → ℕ
over_positions part i zero = 0
over_positions part i (suc n) = bit_or (part i) (over_positions part (suc i) n)

-- A position leads to a set if its follow set has a member of it.
unfoldable pub leading_part : List ℕ → ℕ → ℕ → ℕ
leading_part follow set i = cond (meets (get_or follow i 0) set) (2 ^ i) 0

-- A member's follow set follows the set.
unfoldable pub following_part : List ℕ → ℕ → ℕ → ℕ
following_part follow set i = cond (bit set i) (get_or follow i 0) 0

-- Of the 64 positions.
abbrev pub leading : List ℕ → ℕ → ℕ
leading follow set = over_positions (leading_part follow set) 0 64

abbrev pub following : List ℕ → ℕ → ℕ
following follow set = over_positions (following_part follow set) 0 64

-- Both questions as one, so that one table answers both: of two sets as one number of 128 digits, what leads to the lower one, and what
-- follows the upper one.
abbrev pub leading_and_following : List ℕ → ℕ → ℕ
leading_and_following follow sets = bit_or (leading follow (sets % 2 ^ 64)) (following follow (sets / 2 ^ 64))

-- What a word of the table is for: word 256 * c + b is for the positions of byte b as byte c of the two sets. So the first 2048 words tell
-- what leads to a set, and the other 2048 what follows one.
abbrev pub set_of_word : ℕ → ℕ
set_of_word k = (k % 256) * 256 ^ (k / 256)

-- The first n words of the table are right.
abbrev pub UnionsBelow : ℕ → List ℕ → List ℕ → Type 0
UnionsBelow n follow unions = (k : ℕ) → k < n → get_or unions k 0 ≡ leading_and_following follow (set_of_word k)

-- All 4096 are: one for each choice of positions of each of the sixteen bytes of two sets.
abbrev pub Unions : List ℕ → List ℕ → Type 0
Unions follow unions = UnionsBelow 4096 follow unions

-- What leads to each single position, and what follows each.
abbrev pub Singles : List ℕ → List ℕ → Type 0
Singles follow singles = (y : ℕ) → y < 128 → get_or singles y 0 ≡ leading_and_following follow (2 ^ y)
