-- What columns have at a list of positions: their sets together, and the first one's entry; and the match that a set of last positions
-- stands for.
use Rattle.std.specs.Prelude.{cond, List, [], ◌∷◌, ℕ, ◌%◌, eqb, get_or}
use Rattle.std.proofs.Math.Option.{Option, none, some}
use Rattle.std.specs.Int.Bits.{bit_or}
use Rattle.lexer.specs.Match.{Match, no_match, longer}
use Rattle.lexer.specs.SetWalk.{members}
use Rattle.scanner.specs.declared.EndedBy.{EndedBy}

-- The sets of all positions of a list, together.
unfoldable pub joined : List ℕ → List ℕ → ℕ
joined sets [] = 0
joined sets (i ∷ l) = bit_or (get_or sets i 0) (joined sets l)

-- The entry of the first position of a list, if there is one, as a byte.
unfoldable pub first_entry : List ℕ → List ℕ → Option ℕ
first_entry entries [] = none
first_entry entries (i ∷ l) = some (get_or entries i 0 % 256)

-- The match that a set of last positions stands for, after so many bytes: the lowest position's rule; none by the empty set.
unfoldable pub match_by : List ℕ → ℕ → ℕ → Match
match_by rule ending n = longer (first_entry rule (members ending)) n no_match

-- A set of last positions after so many bytes replaces an earlier match, the empty set leaves it.
unfoldable pub latest_ended : ℕ → ℕ → EndedBy → EndedBy
latest_ended ending n earlier = cond (eqb ending 0) earlier (record { ending = ending; length = n })
