-- The walk by rows over a front of a text, as the code goes: one byte more, the early end at row 1, and the match that the latest row
-- tells. That the walk finds the longest match of an image's positions is not said here.
use mathlib.Core.Path.{◌≡◌, refl, sym, ap, ◌∙◌}
use mathlib.Core.List.{List, [], ◌∷◌, ◌++◌}
use Prim.Native.Nat.{ℕ, zero, suc, ◌+◌, ◌-◌, ◌*◌, ◌≤◌, ◌<◌}
use native.Mathlib.Omega.{arith}
use native.Mathlib.Nat.{not-suc-le-zero}
use native.Mathlib.Numerals.{add-one}
use lib.ListN.{length, take, drop, get_or, length-take, take-append-drop}
use lib.Seq.{take-suc, take_all, drop-cons, get_or-drop}
use borrow.Author.Tests.{ne_eqb}
use Rattle.lexer.specs.Match.{Match, no_match, matched, longer}
use Rattle.lexer.specs.Table.{row_entries, no_winner, winning, row_walk, match_by_rows}
use Rattle.lexer.specs.Alive.{match_bytes}
use Rattle.lexer.proofs.laws.ToldLaws.{longer_bytes}
use Rattle.table_scanner.specs.Rows.{RowsIn}

-- ---- the table as the code reads it

-- Inside a list it does not matter which number stands for what is past its end.
inside : (l : List ℕ) (i d e : ℕ) → i < length l → get_or l i d ≡ get_or l i e
inside [] i d e h = absurd (not-suc-le-zero h)
inside (a ∷ l) zero d e h = refl
inside (a ∷ l) (suc i) d e h = inside l i d e (omega arith)

pub winner_read : {table winners : List ℕ} (k : RowsIn table winners) (row : ℕ) → row < k.row_count
    → get_or winners row 0 ≡ get_or winners row no_winner
winner_read {winners = winners} k row h = inside winners row 0 no_winner (omega (arith, k.few_rows, k.winners_lent))

pub winner_most : {table winners : List ℕ} (k : RowsIn table winners) (row : ℕ) → row < k.row_count → get_or winners row 0 ≤ no_winner
winner_most k row h = rw (winner_read k row h) (k.winner_below row h)

-- Row 0 is the start: the first byte alone is the entry's place.
pub at_start : (table : List ℕ) (b : ℕ) → get_or table b 0 ≡ get_or table (0 * row_entries + b) 0
at_start table b = ap (λ (i : ℕ). get_or table i 0) (let z : b ≡ 0 * row_entries + b = omega arith in z)

pub first_below : {table winners : List ℕ} (k : RowsIn table winners) (b : ℕ) → b < row_entries → get_or table b 0 < k.row_count
first_below {table = table} k b h = rw (at_start table b) (k.next_row 0 b (omega (arith, k.two_rows)) h)

-- ---- a text in two parts

-- The row that a text leads to.
unfoldable pub row_after : List ℕ → ℕ → List ℕ → ℕ
row_after table row [] = row
row_after table row (b ∷ text) = row_after table (get_or table (row * row_entries + b) 0) text

after-append : (table : List ℕ) (row : ℕ) (u v : List ℕ) → row_after table row (u ++ v) ≡ row_after table (row_after table row u) v
unfolding row_after
after-append table row [] v = refl
after-append table row (b ∷ u) v = after-append table (get_or table (row * row_entries + b) 0) u v

walk-append : (table winners : List ℕ) (row : ℕ) (u v : List ℕ) (n : ℕ) (m : Match)
    → row_walk table winners row (u ++ v) n m
    ≡ row_walk table winners (row_after table row u) v (length u + n) (row_walk table winners row u n m)
unfolding row_after row_walk
walk-append table winners row [] v n m = ap (λ (k : ℕ). row_walk table winners row v k m) (let z : n ≡ 0 + n = omega arith in z)
walk-append table winners row (b ∷ u) v n m =
    let next = get_or table (row * row_entries + b) 0 in
    let best = longer (winning (get_or winners next no_winner)) (suc n) m in
    walk-append table winners next u v (suc n) best
    ∙ ap (λ (k : ℕ). row_walk table winners (row_after table next u) v k (row_walk table winners next u (suc n) best))
    (let z : length u + suc n ≡ suc (length u) + n = omega arith in z)

-- A match has no more bytes than the text.
walk_most : (table winners : List ℕ) (row : ℕ) (text : List ℕ) (n : ℕ) (m : Match) → match_bytes m ≤ n
    → match_bytes (row_walk table winners row text n m) ≤ length text + n
unfolding row_walk
walk_most table winners row [] n m h = omega arith
walk_most table winners row (b ∷ text) n m h =
    let next = get_or table (row * row_entries + b) 0 in
    let most =
    walk_most table winners next text (suc n) _ (longer_bytes (winning (get_or winners next no_winner)) (suc n) m (omega arith)) in
    omega (arith, most)

-- From row 1 on nothing more is found.
empty_rest : (table winners : List ℕ) → RowsIn table winners → (text : List ℕ) → ((i : ℕ) → get_or text i 0 < row_entries)
    → (n : ℕ) (m : Match) → row_walk table winners 1 text n m ≡ m
unfolding row_walk winning longer
empty_rest table winners rows [] bytes n m = refl
empty_rest table winners rows (b ∷ text) bytes n m =
    rw (rows.empty_stays b (bytes 0), rows.empty_wins_none) (empty_rest table winners rows text (λ i. bytes (suc i)) (suc n) m)

one_rest : (table winners : List ℕ) → RowsIn table winners → (row b : ℕ) (text : List ℕ) → ((i : ℕ) → get_or text i 0 < row_entries)
    → (n : ℕ) (m : Match) → get_or table (row * row_entries + b) 0 ≡ 1 → row_walk table winners row (b ∷ text) n m ≡ m
unfolding row_walk winning longer
one_rest table winners rows row b text bytes n m one = rw (one, rows.empty_wins_none) (empty_rest table winners rows text bytes (suc n) m)

-- ---- a front of a text, and the row that it leads to

-- The row that so many bytes of a text lead to.
abbrev pub front_row : List ℕ → List ℕ → ℕ → ℕ
front_row table text n = row_after table 0 (take n text)

-- The match in so many bytes of a text.
abbrev pub front_match : List ℕ → List ℕ → List ℕ → ℕ → Match
front_match table winners text n = match_by_rows table winners (take n text)

module _ (table text : List ℕ) where
  pub row-none : 0 ≡ front_row table text 0
  unfolding row_after
  row-none = refl

  -- One byte more.
  pub row-more : (row n : ℕ) → n < length text → row ≡ front_row table text n
      → get_or table (row * row_entries + get_or text n 0) 0 ≡ front_row table text (n + 1)
  unfolding row_after
  row-more row n h e = rw (e, add-one n, take-suc text n 0 h, after-append table 0 (take n text) (get_or text n 0 ∷ []))

  pub row-first : 0 < length text → get_or table (get_or text 0 0) 0 ≡ front_row table text 1
  row-first h = at_start table (get_or text 0 0) ∙ row-more 0 0 h row-none

module _ (table winners text : List ℕ) where
  pub match_none : no_match ≡ front_match table winners text 0
  unfolding match_by_rows row_walk
  match_none = refl

  pub match_all : (n : ℕ) → length text ≤ n → front_match table winners text n ≡ match_by_rows table winners text
  match_all n h = ap (match_by_rows table winners) (take_all n text h)

  -- One byte more.
  pub match_more : (row n next : ℕ) → n < length text → row ≡ front_row table text n
      → next ≡ get_or table (row * row_entries + get_or text n 0) 0
      → longer (winning (get_or winners next no_winner)) (n + 1) (front_match table winners text n) ≡ front_match table winners text (n + 1)
  unfolding match_by_rows row_walk
  match_more row n next h e k =
      let all : length (take n text) + 0 ≡ n = omega (arith, length-take n text) in
      rw (k, e, add-one n, take-suc text n 0 h, walk-append table winners 0 (take n text) (get_or text n 0 ∷ []) 0 no_match, all)

  -- The match with the latest row's winner.
  match_latest : (row n : ℕ) → 1 ≤ n → n ≤ length text → row ≡ front_row table text n
      → longer (winning (get_or winners row no_winner)) n (front_match table winners text (n - 1)) ≡ front_match table winners text n
  match_latest row n one h e =
      let k = n - 1 in
      let there : k + 1 ≡ n = omega arith in
      let inside_text : k < length text = omega arith in
      let before = front_row table text k in
      let last : row ≡ get_or table (before * row_entries + get_or text k 0) 0 =
      e ∙ ap (front_row table text) (sym there) ∙ sym (row-more table text before k inside_text refl) in
      let more = match_more before k row inside_text refl last in
      rw there at more

  -- A winner of the latest row is the match, and where it has none, the match has fewer bytes.
  pub match_won : (row n winner : ℕ) → 1 ≤ n → n ≤ length text → row ≡ front_row table text n → winner ≡ get_or winners row no_winner
      → (winner ≡ no_winner → ⊥) → matched winner n ≡ front_match table winners text n
  unfolding winning longer
  match_won row n winner one h e f w =
      let latest = match_latest row n one h e in
      rw (sym f, ne_eqb winner no_winner w) at latest

  pub match_shorter : (row n : ℕ) → 1 ≤ n → n ≤ length text → row ≡ front_row table text n → get_or winners row no_winner ≡ no_winner
      → match_bytes (front_match table winners text n) < n
  unfolding winning longer match_by_rows match_bytes
  match_shorter row n one h e f =
      let latest = match_latest row n one h e in
      let same : front_match table winners text (n - 1) ≡ front_match table winners text n = rw f at latest in
      let most = walk_most table winners 0 (take (n - 1) text) 0 no_match (omega arith) in
      rw (sym same) (omega (arith, most, length-take (n - 1) text))

  -- The walk may end where a byte leads to row 1.
  pub match_stops : RowsIn table winners → ((i : ℕ) → get_or text i 0 < row_entries) → (row n : ℕ) → n < length text
      → row ≡ front_row table text n
      → get_or table (row * row_entries + get_or text n 0) 0 ≡ 1 → front_match table winners text n ≡ match_by_rows table winners text
  unfolding match_by_rows
  match_stops rows bytes row n h e one =
      let later : (i : ℕ) → get_or (drop (suc n) text) i 0 < row_entries = λ i. rw (get_or-drop (suc n) text i 0) (bytes (suc n + i)) in
      sym
      (ap (λ (l : List ℕ). row_walk table winners 0 l 0 no_match) (sym (take-append-drop n text))
      ∙ walk-append table winners 0 (take n text) (drop n text) 0 no_match
      ∙ rw (sym e, drop-cons text n 0 h) (one_rest table winners rows row (get_or text n 0) (drop (suc n) text) later _ _ one))

  pub match_never : RowsIn table winners → ((i : ℕ) → get_or text i 0 < row_entries) → 0 < length text → get_or table (get_or text 0 0) 0 ≡ 1
      → no_match ≡ match_by_rows table winners text
  match_never rows bytes h one =
      match_none ∙ match_stops rows bytes 0 0 h (row-none table text) (sym (at_start table (get_or text 0 0)) ∙ one)

-- ---- a match noted as a winner and a length

abbrev pub noted : ℕ → ℕ → Match
noted winner n = longer (winning winner) n no_match

pub noted-none : noted no_winner 0 ≡ no_match
unfolding winning longer
noted-none = refl

-- A winner replaces an earlier match, and where there is none, it stays.
pub noted_new : (winner n : ℕ) (m : Match) → (winner ≡ no_winner → ⊥) → matched winner n ≡ longer (winning winner) n m
unfolding winning longer
noted_new winner n m w = rw (ne_eqb winner no_winner w)

pub noted-old : (winner n : ℕ) (m : Match) → winner ≡ no_winner → m ≡ longer (winning winner) n m
unfolding winning longer
noted-old winner n m w = rw w
