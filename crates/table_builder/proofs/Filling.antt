-- The rows as they are written: the entries of one row, byte by byte, and what stands in a buffer when one row more is written.
use mathlib.Core.Path.{◌≡◌, refl, sym, ap, subst, ◌∙◌}
use mathlib.Core.List.{List, [], ◌∷◌, ◌++◌, map, flat_map, map-map, map-append, append-nil}
use Prim.Native.Nat.{ℕ, suc, ◌+◌, ◌*◌, ◌^◌, ◌≤◌, ◌<◌}
use native.Mathlib.Omega.{arith}
use native.Mathlib.Numerals.{add-one}
use lib.Bits.{bit_and}
use lib.ListN.{get_or, length, take, drop, set, length-map}
use lib.Seq.{paste, paste-suc, take_at, take_all, take-length, take-suc, drop-append-add, drop-drop, get_or-take, length-take-le}
use borrow.Author.Tests.{ne_eqb}
use Rattle.basics.proofs.laws.BitLaws.{bit_high}
use Rattle.basics.proofs.laws.Members.{all-at}
use Rattle.basics.proofs.laws.Buffers.{written_one}
use Rattle.basics.specs.Meeting.{number_of}
use Rattle.basics.proofs.laws.Reaching.{flat_map-last}
use Rattle.lexer.specs.Positions.{Position}
use Rattle.lexer.specs.SetWalk.{set_walk, members}
use Rattle.lexer.specs.Table.{row_entries, no_winner, bytes_from, start_row, held_in, next_sets, table_rows, table_entries}
use Rattle.lexer.specs.Table.{rule_or_none, winner_in, table_winners}
use Rattle.basics.specs.Lists.{written_over}
use Rattle.lexer.proofs.laws.TableLaws.{power_some, bytes_count, mapped_byte, rows-length, row-length, rows-front, start-held, start_winner, set_winner, empty_second, entries-length}
use Rattle.scanner.proofs.laws.ByteLaws.{ended_of}
use Rattle.scanner.specs.Meaning.{Prepared}
use Rattle.scanner.specs.Sets.{joined, first_entry}
use Rattle.table_builder.specs.Rows.{AllHeld, numbers_by, sets_by}
use Rattle.table_builder.proofs.Reaching.{map_bytes, start_is, sets_below, sets_are, held_is}

-- ---- one row

module _ (sets classes : List ℕ) (held : ℕ) where
  pub numbers-count : (n : ℕ) → length (numbers_by sets classes held n) ≡ n
  unfolding numbers_by
  numbers-count n = length-map (bytes_from 0 n) (λ b. suc (number_of sets (bit_and held (get_or classes b 0)))) ∙ bytes_count 0 n

  number_at : (byte : ℕ) → byte < row_entries → get_or (numbers_by sets classes held row_entries) byte 0 ≡ suc (number_of sets (bit_and held (get_or classes byte 0)))
  unfolding numbers_by
  number_at byte h =
      mapped_byte (λ b. suc (number_of sets (bit_and held (get_or classes b 0)))) 0 row_entries byte h
      ∙ ap (λ (k : ℕ). suc (number_of sets (bit_and held (get_or classes k 0)))) (let z : 0 + byte ≡ byte = omega arith in z)

  -- One entry more.
  pub one_entry : (table table' : List ℕ) (at byte number : ℕ) → at + row_entries ≤ length table → byte < row_entries
      → number ≡ suc (number_of sets (bit_and held (get_or classes byte 0)))
      → table' ≡ paste table at (numbers_by sets classes held row_entries) byte
      → set table' (at + byte) number ≡ paste table at (numbers_by sets classes held row_entries) (byte + 1)
  one_entry table table' at byte number room h e f =
      let row = numbers_by sets classes held row_entries in
      ap (λ (l : List ℕ). set l (at + byte) number) f
      ∙ ap (λ (k : ℕ). set (paste table at row byte) (at + byte) k) (e ∙ sym (number_at byte h))
      ∙ paste-suc table at row byte 0 (omega arith) (omega (arith, numbers-count row_entries))
      ∙ ap (λ (k : ℕ). paste table at row k) (sym (add-one byte))

-- ---- one row more

-- A buffer whose front is written keeps the rest.
pub written-more : (front new buffer : List ℕ) (at n : ℕ) → length front ≡ at → length new ≡ n
    → paste (front ++ drop at buffer) at new n ≡ (front ++ new) ++ drop (at + n) buffer
written-more front new buffer at n e f =
    let d = front ++ drop at buffer in
    ap (λ (l : List ℕ). l ++ take n new ++ drop (at + n) d) (take_at front (drop at buffer) at e)
    ∙ ap (λ (l : List ℕ). front ++ l ++ drop (at + n) d) (take_all n new (omega arith))
    ∙ ap (λ (l : List ℕ). (front ++ new) ++ l)
    (ap (λ (k : ℕ). drop (k + n) d) (sym e) ∙ drop-append-add front (drop at buffer) n ∙ drop-drop n at buffer)

-- The rows before row i + 1 are written, the entries of each and the winner of each.
abbrev pub row_numbers : List Position → ℕ → ℕ → List ℕ
row_numbers ps first row = map (number_of (table_rows ps first)) (next_sets ps first row)

abbrev pub EntriesTo : List Position → ℕ → List ℕ → ℕ → List ℕ → Type 0
EntriesTo ps first buffer i table =
    table ≡ flat_map (row_numbers ps first) (take (suc i) (table_rows ps first)) ++ drop (suc i * row_entries) buffer

abbrev pub WinnersTo : List Position → ℕ → List ℕ → ℕ → List ℕ → Type 0
WinnersTo ps first buffer i winners = winners ≡ map (winner_in ps) (take (suc i) (table_rows ps first)) ++ drop (suc i) buffer

module _ (ps : List Position) (last first : ℕ) (classes : List ℕ) (prepared : Prepared ps last classes) where
  abbrev count : ℕ
  count = length ps

  abbrev rows : List ℕ
  rows = table_rows ps first

  module _ (sets : List ℕ) (met : ℕ) (held_All : AllHeld (2 ^ count) sets met rows) (long : met ≤ length sets) where
    whole : rows ≡ 2 ^ count ∷ take met sets
    whole = held_All.whole

    pub rows_count : length rows ≡ suc met
    rows_count = ap length whole ∙ ap suc (length-take-le met sets long)

    -- The row after the i-th set is that set, below the start's number.
    row_is : (i : ℕ) → i < met → get_or rows (suc i) 0 ≡ get_or sets i 0
    row_is i h = ap (λ (l : List ℕ). get_or l (suc i) 0) whole ∙ get_or-take met sets i 0 h

    row_small : (i : ℕ) → i < met → get_or sets i 0 < 2 ^ count
    row_small i h =
        let size = length-take-le met sets long in
        subst (λ (k : ℕ). k < 2 ^ count) (get_or-take met sets i 0 h) (all-at (λ x. x < 2 ^ count) (take met sets) held_All.below i 0 (omega arith))

    -- A set's row stands just after its place among the sets.
    number_is : (x : ℕ) → x < 2 ^ count → suc (number_of (take met sets) x) ≡ number_of rows x
    unfolding number_of
    number_is x h = rw (whole, ne_eqb (2 ^ count) x (λ e. absurd (omega arith)))

    -- The empty set is row 1.
    pub empty_first : number_of (take met sets) 0 ≡ 0
    empty_first = omega (arith, number_is 0 (power_some count), empty_second ps first)

    pub numbers_are : (held x : ℕ) → held ≡ held_in ps first x → numbers_by (take met sets) classes held row_entries ≡ row_numbers ps first x
    unfolding numbers_by sets_by
    numbers_are held x e =
        map_bytes (λ b. suc (number_of (take met sets) (bit_and held (get_or classes b 0)))) (λ b. number_of rows (bit_and held (get_or classes b 0))) 0 row_entries
        (λ b h. number_is (bit_and held (get_or classes b 0)) (sets_below ps last first classes prepared held b (omega arith)))
        ∙ sym (map-map (number_of rows) (λ b. bit_and held (get_or classes b 0)) (bytes_from 0 row_entries))
        ∙ ap (map (number_of rows)) (sets_are ps last first classes prepared held x e)

    front_length : (i : ℕ) → suc i ≤ length rows → length (flat_map (row_numbers ps first) (take (suc i) rows)) ≡ suc i * row_entries
    front_length i h =
        rows-length (row_numbers ps first) row_entries (row-length ps first) (take (suc i) rows)
        ∙ ap (λ (k : ℕ). k * row_entries) (length-take-le (suc i) rows h)

    pub first-written : (buffer table : List ℕ) → row_entries ≤ length buffer
        → table ≡ paste buffer 0 (numbers_by (take met sets) classes first row_entries) row_entries → EntriesTo ps first buffer 0 table
    unfolding flat_map
    first-written buffer table room e =
        let held = numbers_are first (start_row ps) (sym (start-held ps first)) in
        e
        ∙ ap (λ (l : List ℕ). paste buffer 0 l row_entries) held
        ∙ written-more [] (row_numbers ps first (start_row ps)) buffer 0 row_entries refl (row-length ps first (start_row ps))
        ∙ ap (λ (l : List ℕ). l ++ drop row_entries buffer)
        (sym (append-nil (row_numbers ps first (start_row ps))) ∙ sym (ap (λ (l : List ℕ). flat_map (row_numbers ps first) (take 1 l)) (rows-front ps first).1))

    pub next-written : (buffer table table' : List ℕ) (i held : ℕ) → i < met
        → held ≡ joined (drop 256 classes) (set_walk (get_or sets i 0)) → EntriesTo ps first buffer i table
        → table' ≡ paste table ((i + 1) * row_entries) (numbers_by (take met sets) classes held row_entries) row_entries
        → EntriesTo ps first buffer (i + 1) table'
    next-written buffer table table' i held h e w f =
        let inside : suc i < length rows = omega (arith, rows_count) in
        let front = flat_map (row_numbers ps first) (take (suc i) rows) in
        let x_is = row_is i h in
        let row : numbers_by (take met sets) classes held row_entries ≡ row_numbers ps first (get_or rows (suc i) 0) =
        numbers_are held (get_or rows (suc i) 0)
        (e ∙ held_is ps last first classes prepared (get_or sets i 0) (row_small i h) ∙ ap (held_in ps first) (sym x_is)) in
        let more : front ++ row_numbers ps first (get_or rows (suc i) 0) ≡ flat_map (row_numbers ps first) (take (suc (suc i)) rows) =
        sym (flat_map-last (row_numbers ps first) (take (suc i) rows) (get_or rows (suc i) 0)) ∙ ap (flat_map (row_numbers ps first)) (sym (take-suc rows (suc i) 0 inside)) in
        f
        ∙ ap (λ (k : ℕ). paste table (k * row_entries) (numbers_by (take met sets) classes held row_entries) row_entries) (add-one i)
        ∙ ap (λ (l : List ℕ). paste table (suc i * row_entries) l row_entries) row
        ∙ ap (λ (l : List ℕ). paste l (suc i * row_entries) (row_numbers ps first (get_or rows (suc i) 0)) row_entries) w
        ∙ written-more front (row_numbers ps first (get_or rows (suc i) 0)) buffer (suc i * row_entries) row_entries (front_length i (omega arith))
        (row-length ps first (get_or rows (suc i) 0))
        ∙ ap (λ (l : List ℕ). l ++ drop (suc i * row_entries + row_entries) buffer) more
        ∙ ap (λ (k : ℕ). flat_map (row_numbers ps first) (take (suc k) rows) ++ drop (suc i * row_entries + row_entries) buffer) (sym (add-one i))
        ∙ ap (λ (k : ℕ). flat_map (row_numbers ps first) (take (suc (i + 1)) rows) ++ drop k buffer)
        (let z : suc i * row_entries + row_entries ≡ suc (i + 1) * row_entries = omega arith in z)

    pub all-written : (buffer table : List ℕ) (i : ℕ) → i ≤ met → met ≤ i → EntriesTo ps first buffer i table
        → table ≡ written_over (table_entries ps first) buffer
    unfolding table_entries written_over
    all-written buffer table i a b w =
        let all : suc i ≡ length rows = omega (arith, rows_count) in
        w
        ∙ ap (λ (k : ℕ). flat_map (row_numbers ps first) (take k rows) ++ drop (k * row_entries) buffer) all
        ∙ ap (λ (l : List ℕ). flat_map (row_numbers ps first) l ++ drop (length rows * row_entries) buffer) (take-length rows)
        ∙ ap (λ (k : ℕ). flat_map (row_numbers ps first) rows ++ drop k buffer) (sym (entries-length ps first))

    -- ---- the winners

    pub first_winner : (buffer winners : List ℕ) → 0 < length buffer → winners ≡ set buffer 0 no_winner → WinnersTo ps first buffer 0 winners
    first_winner buffer winners room e =
        e
        ∙ written_one [] buffer no_winner 0 refl room
        ∙ ap (λ (k : ℕ). (k ∷ []) ++ drop 1 buffer) (sym (start_winner ps))
        ∙ ap (λ (l : List ℕ). map (winner_in ps) (take 1 l) ++ drop 1 buffer) (sym (rows-front ps first).1)

    pub next_winner : (buffer winners winners' : List ℕ) (i v : ℕ) → i < met → suc i < length buffer
        → v ≡ rule_or_none (first_entry (drop 320 classes) (members (bit_and (get_or sets i 0) last))) → WinnersTo ps first buffer i winners
        → winners' ≡ set winners (i + 1) v → WinnersTo ps first buffer (i + 1) winners'
    next_winner buffer winners winners' i v h room e w f =
        let inside : suc i < length rows = omega (arith, rows_count) in
        let front = map (winner_in ps) (take (suc i) rows) in
        let size : length front ≡ suc i = length-map (take (suc i) rows) (winner_in ps) ∙ length-take-le (suc i) rows (omega arith) in
        let value : v ≡ winner_in ps (get_or rows (suc i) 0) =
        e
        ∙ ap rule_or_none
        (ended_of classes last ps prepared (get_or sets i 0) (λ j l. bit_high count (get_or sets i 0) j (row_small i h) (omega arith)))
        ∙ sym (set_winner ps (get_or sets i 0) (omega (arith, row_small i h, start_is ps last first classes prepared)))
        ∙ ap (winner_in ps) (sym (row_is i h)) in
        let more : front ++ (winner_in ps (get_or rows (suc i) 0) ∷ []) ≡ map (winner_in ps) (take (suc (suc i)) rows) =
        sym (map-append (winner_in ps) (take (suc i) rows) (get_or rows (suc i) 0 ∷ [])) ∙ ap (map (winner_in ps)) (sym (take-suc rows (suc i) 0 inside)) in
        f
        ∙ ap (λ (l : List ℕ). set l (i + 1) v) w
        ∙ ap (λ (k : ℕ). set (front ++ drop (suc i) buffer) k v) (add-one i)
        ∙ written_one front buffer v (suc i) size room
        ∙ ap (λ (k : ℕ). (front ++ (k ∷ [])) ++ drop (suc (suc i)) buffer) value
        ∙ ap (λ (l : List ℕ). l ++ drop (suc (suc i)) buffer) more
        ∙ ap (λ (k : ℕ). map (winner_in ps) (take (suc k) rows) ++ drop (suc k) buffer) (sym (add-one i))

    pub all-winners : (buffer winners : List ℕ) (i : ℕ) → i ≤ met → met ≤ i → WinnersTo ps first buffer i winners
        → winners ≡ written_over (table_winners ps first) buffer
    unfolding table_winners written_over
    all-winners buffer winners i a b w =
        let all : suc i ≡ length rows = omega (arith, rows_count) in
        w
        ∙ ap (λ (k : ℕ). map (winner_in ps) (take k rows) ++ drop k buffer) all
        ∙ ap (λ (l : List ℕ). map (winner_in ps) l ++ drop (length rows) buffer) (take-length rows)
        ∙ ap (λ (k : ℕ). map (winner_in ps) rows ++ drop k buffer) (sym (length-map rows (winner_in ps)))
