-- How far the walk by rows goes, and what it tells in the end, the match or the bytes. The match in so many bytes is Front's.
use mathlib.Core.Path.{◌≡◌, sym, ap₂, ◌∙◌}
use mathlib.Core.List.{List}
use Prim.Native.Nat.{ℕ, suc, ◌+◌, ◌*◌, ◌≤◌, ◌<◌}
use native.Mathlib.Omega.{arith}
use native.Mathlib.Numerals.{add-one}
use lib.ListN.{length, drop, get_or, drop_of_length-le}
use lib.Seq.{drop-cons}
use borrow.Author.Tests.{ne_eqb}
use Rattle.lexer.specs.Match.{no_match, matched}
use Rattle.lexer.specs.Table.{row_entries, no_winner, match_by_rows}
use Rattle.lexer.specs.Alive.{ends_with, in_vain, told_by, row_bytes, told_by_rows}
use Rattle.lexer.proofs.laws.ToldLaws.{told-none, told-whole, told_past}
use Rattle.table_scanner.proofs.Front.{at_start, front_row, front_match, match_won, match_shorter}

-- ---- how far it goes

module _ (table text : List ℕ) where
  bytes_more : (row n next : ℕ) → n < length text → next ≡ get_or table (row * row_entries + get_or text n 0) 0 → (next ≡ 1 → ⊥)
      → row_bytes table row (drop n text) ≡ suc (row_bytes table next (drop (n + 1) text))
  unfolding row_bytes
  bytes_more row n next h k other =
      let entry = get_or table (row * row_entries + get_or text n 0) 0 in
      rw (k, drop-cons text n 0 h, add-one n, ne_eqb entry 1 (λ e. other (k ∙ e)))

  bytes_stop : (row n : ℕ) → n < length text → get_or table (row * row_entries + get_or text n 0) 0 ≡ 1 → row_bytes table row (drop n text) ≡ 0
  unfolding row_bytes
  bytes_stop row n h one = rw (drop-cons text n 0 h, one)

  bytes_end : (row n : ℕ) → length text ≤ n → row_bytes table row (drop n text) ≡ 0
  unfolding row_bytes
  bytes_end row n h = rw (drop_of_length-le text {i = n} h)

  -- The walk is in a row, and has so many bytes behind it.
  abbrev pub Behind : ℕ → ℕ → Type 0
  Behind row n = n + row_bytes table row (drop n text) ≡ row_bytes table 0 text

  pub behind_first : 0 < length text → (get_or table (get_or text 0 0) 0 ≡ 1 → ⊥) → Behind (get_or table (get_or text 0 0) 0) 1
  behind_first h other = let more = bytes_more 0 0 _ h (at_start table (get_or text 0 0)) other in omega arith

  -- One byte more.
  pub behind-more : (row n next : ℕ) → n < length text → next ≡ get_or table (row * row_entries + get_or text n 0) 0 → (next ≡ 1 → ⊥)
      → Behind row n → Behind next (n + 1)
  behind-more row n next h k other e = let more = bytes_more row n next h k other in omega arith

  -- The walk ends with the text, or at a byte that leads to row 1.
  pub behind-all : (row n : ℕ) → length text ≤ n → Behind row n → n ≡ row_bytes table 0 text
  behind-all row n h e = let none = bytes_end row n h in omega arith

  pub behind_stops : (row n : ℕ) → n < length text → get_or table (row * row_entries + get_or text n 0) 0 ≡ 1 → Behind row n
      → n ≡ row_bytes table 0 text
  behind_stops row n h one e = let none = bytes_stop row n h one in omega arith

  pub never_begins : 0 < length text → get_or table (get_or text 0 0) 0 ≡ 1 → 0 ≡ row_bytes table 0 text
  never_begins h one = sym (bytes_stop 0 0 h (sym (at_start table (get_or text 0 0)) ∙ one))

-- ---- what it tells

module _ (table winners text : List ℕ) where
  pub tells_nothing : 0 ≡ row_bytes table 0 text → no_match ≡ match_by_rows table winners text
      → ends_with no_match ≡ told_by_rows table winners text
  unfolding told_by_rows
  tells_nothing e f = told-none ∙ ap₂ told_by e f

  module _ (row n : ℕ) (one : 1 ≤ n) (inside : n ≤ length text) (here : row ≡ front_row table text n) (all : n ≡ row_bytes table 0 text)
      (ended : front_match table winners text n ≡ match_by_rows table winners text) where
    pub tells_match : (winner : ℕ) → winner ≡ get_or winners row no_winner → (winner ≡ no_winner → ⊥)
        → ends_with (matched winner n) ≡ told_by_rows table winners text
    unfolding told_by_rows
    tells_match winner f w =
        told-whole winner n ∙ ap₂ told_by all (match_won table winners text row n winner one inside here f w ∙ ended)

    pub tells_vain : (winner : ℕ) → winner ≡ get_or winners row no_winner → winner ≡ no_winner → in_vain n ≡ told_by_rows table winners text
    unfolding told_by_rows
    tells_vain winner f w =
        told_past n (front_match table winners text n) (match_shorter table winners text row n one inside here (sym f ∙ w)) ∙ ap₂ told_by all ended
