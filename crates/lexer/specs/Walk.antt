-- "Over any image it is a walk: the first set is held; a byte keeps the held positions whose class has it; a kept position that
-- is last ends a match of its rule there; then the follow sets of the kept ones, together, are held. The longest match over all
-- R rules wins; for equal length, the lowest rule."
use Rattle.std.specs.Prelude.{Bool, true, false, ◌&&◌, cond, List, [], ◌∷◌, ℕ, suc, ◌^◌, min, leb}
use Rattle.std.proofs.Math.Option.{Option, none, some}
use Rattle.std.specs.Int.Bits.{bit_or}
use Rattle.basics.specs.Bits.{bit}
use Rattle.lexer.specs.Positions.{Position}
use Rattle.lexer.specs.Match.{Match, no_match, longer}

-- Whether a position's class has a byte.
unfoldable pub has_byte : Position → ℕ → Bool
has_byte p b = leb p.low b && leb b p.high

-- The held positions, from position i on, whose class has the byte.
unfoldable pub keep : List Position → ℕ → ℕ → ℕ → ℕ
keep [] i held b = 0
keep (p ∷ ps) i held b = bit_or (cond (bit held i && has_byte p b) (2 ^ i) 0) (keep ps (suc i) held b)

-- The follow sets of the kept positions, from position i on, together.
unfoldable pub follows : List Position → ℕ → ℕ → ℕ
follows [] i kept = 0
follows (p ∷ ps) i kept = bit_or (cond (bit kept i) p.follow 0) (follows ps (suc i) kept)

-- Of equally long matches the lowest rule wins.
unfoldable pub lower : ℕ → Option ℕ → Option ℕ
lower rule none = some rule
lower rule (some other) = some (min rule other)

-- The rule that wins among the kept positions, from position i on, that are last.
unfoldable pub ended_rule : List Position → ℕ → ℕ → Option ℕ
ended_rule [] i kept = none
ended_rule (p ∷ ps) i kept = elim (bit kept i && p.last) [ true ↦ lower p.rule (ended_rule ps (suc i) kept) | false ↦ ended_rule ps (suc i) kept ]

-- The walk over a text, with n bytes behind it and the best match so far.
unfoldable pub walk : List Position → ℕ → List ℕ → ℕ → Match → Match
walk ps held [] n best = best
walk ps held (b ∷ text) n best =
    let kept = keep ps 0 held b in walk ps (follows ps 0 kept) text (suc n) (longer (ended_rule ps 0 kept) (suc n) best)

-- "Matching starts at place p and sees only the rest of the text."
unfoldable pub longest_match : List Position → ℕ → List ℕ → Match
longest_match ps first text = walk ps first text 0 no_match
