-- Worked cases of the walk over a set as a word: no position, three, the two ends of the word, and all 64.
use Rattle.std.specs.Prelude.{◌≡◌, [], ◌∷◌, ◌+◌, ◌-◌, ◌^◌, length}
use Rattle.std.proofs.Common.{ap, arith}
use Rattle.lexer.specs.SetWalk.{set_walk}
use Rattle.lexer.specs.laws.Computing.{computing_lexer}
use Rattle.lexer.proofs.laws.SetWalkLaws.{walk-meets-members}

pub walk_of-none : set_walk 0 ≡ []
unfolding computing_lexer
walk_of-none = walk-meets-members 0 (omega arith)

-- 44 is 4 + 8 + 32.
pub walk_of_three : set_walk 44 ≡ 2 ∷ 3 ∷ 5 ∷ []
unfolding computing_lexer
walk_of_three = walk-meets-members 44 (omega arith)

pub walk_of_ends : set_walk (2 ^ 63 + 1) ≡ 0 ∷ 63 ∷ []
unfolding computing_lexer
walk_of_ends = walk-meets-members (2 ^ 63 + 1) (omega arith)

pub walk_of-all : length (set_walk (2 ^ 64 - 1)) ≡ 64
unfolding computing_lexer
walk_of-all = ap length (walk-meets-members (2 ^ 64 - 1) (omega arith))
