-- Request [6]: "a table made from an image: row 0 is the start, row 1 the empty set, then each set of kept positions in the order first
-- reached, rows in order, bytes rising". Its rows, entries and winners, from an image's positions and first set, and the longest match by
-- rows. Which buffers hold the table, and when it is built, is not said here.
use Rattle.std.specs.Prelude.{cond, ℕ, zero, suc, ◌+◌, ◌*◌, ◌^◌, eqb, length, get_or}
use mathlib.Core.List.{List, [], ◌∷◌, map, flat_map}
use Rattle.std.proofs.Math.Option.{Option, none, some}
use Rattle.basics.specs.Meeting.{meet_rows, number_of}
use Rattle.lexer.specs.Positions.{Position}
use Rattle.lexer.specs.Match.{Match, no_match, longer}
use Rattle.lexer.specs.Walk.{keep, follows, ended_rule}

-- "over 256 rows is 19"; 256 entries a row, one a byte; "32 for none".
abbrev pub most_rows : ℕ
most_rows = 256

abbrev pub row_entries : ℕ
row_entries = 256

abbrev pub no_winner : ℕ
no_winner = 32

-- So many bytes from b on, rising.
unfoldable pub bytes_from : ℕ → ℕ → List ℕ
bytes_from b zero = []
bytes_from b (suc n) = b ∷ bytes_from (suc b) n

-- A row is a set of kept positions, or the start, which is no set: sets of these positions lie below this number.
abbrev pub start_row : List Position → ℕ
start_row ps = 2 ^ length ps

-- The positions held in a row: at the start the first set, otherwise the follow sets of the kept ones, together.
unfoldable pub held_in : List Position → ℕ → ℕ → ℕ
held_in ps first row = cond (eqb row (start_row ps)) first (follows ps 0 row)

-- The sets that a row leads to, bytes rising.
unfoldable pub next_sets : List Position → ℕ → ℕ → List ℕ
next_sets ps first row = map (keep ps 0 (held_in ps first row)) (bytes_from 0 row_entries)

-- The rows. As many as the table may have are gone through: where there are no more, these are all, and where there are more, more are found
-- (`TableLaws`: `rows-all`, `rows_over`).
unfoldable pub table_rows : List Position → ℕ → List ℕ
table_rows ps first = meet_rows (next_sets ps first) most_rows 0 (start_row ps ∷ 0 ∷ [])

-- "at row × 256 + byte the next row"
unfoldable pub table_entries : List Position → ℕ → List ℕ
table_entries ps first = flat_map (λ row. map (number_of (table_rows ps first)) (next_sets ps first row)) (table_rows ps first)

-- "each row's winning rule (32 for none)": the lowest rule of which a kept position is last. The start keeps none.
unfoldable pub rule_or_none : Option ℕ → ℕ
rule_or_none none = no_winner
rule_or_none (some rule) = rule

unfoldable pub winner_in : List Position → ℕ → ℕ
winner_in ps row = cond (eqb row (start_row ps)) no_winner (rule_or_none (ended_rule ps 0 row))

unfoldable pub table_winners : List Position → ℕ → List ℕ
table_winners ps first = map (winner_in ps) (table_rows ps first)

-- ---- the longest match by rows

unfoldable pub winning : ℕ → Option ℕ
winning winner = cond (eqb winner no_winner) none (some winner)

-- The walk over a text from a row on, with n bytes behind it and the best match so far: one entry of the table a byte.
unfoldable pub row_walk : List ℕ → List ℕ → ℕ → List ℕ → ℕ → Match → Match
row_walk table winners row [] n best = best
row_walk table winners row (b ∷ text) n best =
    let next = get_or table (row * row_entries + b) 0 in
    row_walk table winners next text (suc n) (longer (winning (get_or winners next no_winner)) (suc n) best)

unfoldable pub match_by_rows : List ℕ → List ℕ → List ℕ → Match
match_by_rows table winners text = row_walk table winners 0 text 0 no_match
