-- How far a walk goes, and which positions are alive: those from which a match still ends. A walk that keeps only these ends where the
-- longest match ends (AliveLaws: `cut_match`, `cut_bytes_right`). Nothing here is asked by a demand: it says what reading costs.
use Rattle.std.specs.Prelude.{Bool, not, cond, List, [], ◌∷◌, ℕ, suc, ◌+◌, ◌*◌, ◌^◌, eqb, get_or}
use Rattle.std.specs.Int.Bits.{bit_or, bit_and}
use Rattle.lexer.specs.Positions.{Position}
use Rattle.lexer.specs.Match.{Match, no_match, matched, longer}
use Rattle.lexer.specs.Walk.{keep, follows, ended_rule, longest_match}
use Rattle.lexer.specs.Table.{row_entries, match_by_rows}

-- The bytes that a walk goes over: it ends where a byte keeps no position.
unfoldable pub walk_bytes : List Position → ℕ → List ℕ → ℕ
walk_bytes ps held [] = 0
walk_bytes ps held (b ∷ text) =
    let kept = keep ps 0 held b in cond (eqb kept 0) 0 (suc (walk_bytes ps (follows ps 0 kept) text))

unfoldable pub match_bytes : Match → ℕ
match_bytes no_match = 0
match_bytes (matched rule n) = n

-- A walk over n bytes is in vain if it goes past the end of its match, or over some bytes without a match: n bytes then, and 0 otherwise.
unfoldable pub vain : ℕ → Match → ℕ
vain n m = cond (eqb n (match_bytes m)) 0 n

unfoldable pub vain_bytes : List Position → ℕ → List ℕ → ℕ
vain_bytes ps first text = vain (walk_bytes ps first text) (longest_match ps first text)

-- What one walk tells: the longest match if the walk ends with it, and else how many bytes it went over in vain.
pub data Told : Type 0 where
  ends_with : Match → Told
  in_vain : ℕ → Told

unfoldable pub told_by : ℕ → Match → Told
told_by n m = cond (eqb (vain n m) 0) (ends_with m) (in_vain (vain n m))

unfoldable pub told : List Position → ℕ → List ℕ → Told
told ps first text = told_by (walk_bytes ps first text) (longest_match ps first text)

-- The same by the rows of a table: row 1, the empty set, ends the walk.
unfoldable pub row_bytes : List ℕ → ℕ → List ℕ → ℕ
row_bytes table row [] = 0
row_bytes table row (b ∷ text) =
    let next = get_or table (row * row_entries + b) 0 in cond (eqb next 1) 0 (suc (row_bytes table next text))

unfoldable pub told_by_rows : List ℕ → List ℕ → List ℕ → Told
told_by_rows table winners text = told_by (row_bytes table 0 text) (match_by_rows table winners text)

-- ---- alive positions

-- Whether two sets have a common member.
unfoldable pub meets : ℕ → ℕ → Bool
meets a b = not (eqb (bit_and a b) 0)

-- The positions, from position i on, that are last.
unfoldable pub last_set : List Position → ℕ → ℕ
last_set [] i = 0
last_set (p ∷ ps) i = bit_or (cond p.last (2 ^ i) 0) (last_set ps (suc i))

-- The positions, from position i on, whose follow set has one of these.
unfoldable pub leads_to : List Position → ℕ → ℕ → ℕ
leads_to [] i next = 0
leads_to (p ∷ ps) i next = bit_or (cond (meets p.follow next) (2 ^ i) 0) (leads_to ps (suc i) next)

-- Before a byte, given those that are alive after it: its class has the byte, and it is last or may be followed by one of these.
unfoldable pub alive_before : List Position → ℕ → ℕ → ℕ
alive_before ps b next = keep ps 0 (bit_or (last_set ps 0) (leads_to ps 0 next)) b

-- The positions alive at the front of a text: keeping one there leads to the end of some match.
unfoldable pub alive : List Position → List ℕ → ℕ
alive ps [] = 0
alive ps (b ∷ text) = alive_before ps b (alive ps text)

-- The walk that keeps alive positions alone, with n bytes behind it and the best match so far. It stops where it keeps none.
unfoldable pub cut_walk : List Position → ℕ → List ℕ → ℕ → Match → Match
cut_walk ps held [] n best = best
cut_walk ps held (b ∷ text) n best =
    let kept = bit_and held (alive ps (b ∷ text)) in
    cond (eqb kept 0) best (cut_walk ps (follows ps 0 kept) text (suc n) (longer (ended_rule ps 0 kept) (suc n) best))

-- The bytes that it goes over.
unfoldable pub cut_bytes : List Position → ℕ → List ℕ → ℕ
cut_bytes ps held [] = 0
cut_bytes ps held (b ∷ text) =
    let kept = bit_and held (alive ps (b ∷ text)) in cond (eqb kept 0) 0 (suc (cut_bytes ps (follows ps 0 kept) text))
