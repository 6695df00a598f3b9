-- Laws of the table of some positions: 256 rows tell whether there are more; the rows stand in the order first reached, and all that a row leads
-- to is a row; the entries and winners by row; and that the longest match by rows, and what one walk by rows tells, are those by sets.
use Rattle.std.specs.Prelude.{◌≡◌, Bool, false, ◌⊎◌, eqb, length}
use Rattle.std.proofs.Math.Path.{refl, ap, ap₂}
use Rattle.std.proofs.Common.{sym, subst, ◌∙◌, ⊎_elim, not-suc-le-zero, length-append, get_or-append-add}
use Rattle.std.proofs.Math.Bool.{true, cond}
use mathlib.Core.List.{List, [], ◌∷◌, ◌++◌, map, flat_map, append_assoc, Memᴰ}
use Rattle.std.proofs.Math.Option.{Option, none, some}
use Prim.Native.Nat.{ℕ, zero, suc, ◌+◌, ◌*◌, ◌^◌, ◌≤◌, ◌<◌}
use native.Mathlib.Omega.{arith}
use Rattle.std.proofs.Math.Dec.{eqb_refl}
use Rattle.std.proofs.Math.ListN.{get_or, length-map, get_or-append}
use borrow.Author.Tests.{eq-eqb, ne_eqb, eqb-true, eqb-false}
use Rattle.basics.proofs.laws.BitLaws.{lt-pow_self}
use Rattle.basics.specs.Lists.{All}
use Rattle.basics.proofs.laws.Truth.{or_left, or_right}
use Rattle.basics.proofs.laws.Members.{get_or-map-inside}
use Rattle.basics.specs.Meeting.{is_met, meet_rows, number_of}
use Rattle.basics.specs.laws.MeetingLaws.{Met}
use Rattle.basics.proofs.laws.MeetingLaws.{Once, first_met, number_below}
use Rattle.basics.proofs.laws.Reaching.{RowsDone, none_done, rows_reach, closed_rows, in_order, enough_rows, further_rows}
use Rattle.lexer.specs.Positions.{Position}
use Rattle.lexer.specs.Match.{Match, no_match, longer}
use Rattle.lexer.specs.Walk.{keep, follows, ended_rule, walk, longest_match}
use Rattle.lexer.proofs.laws.Least.{LeastOf}
use Rattle.lexer.proofs.laws.WalkLaws.{EndsRule, ended-least}
use Rattle.lexer.proofs.laws.PositionList.{all-at}
use Rattle.lexer.proofs.laws.PositionBounds.{keep-below}
use Rattle.lexer.specs.Table.{most_rows, row_entries, no_winner, bytes_from, start_row, held_in, next_sets, table_rows, table_entries}
use Rattle.lexer.specs.Table.{rule_or_none, winner_in, table_winners, winning, row_walk, match_by_rows}
use Rattle.lexer.specs.Alive.{walk_bytes, told_by, told, row_bytes, told_by_rows}

-- ---- lists

pub bytes_count : (b n : ℕ) → length (bytes_from b n) ≡ n
unfolding bytes_from
bytes_count b zero = refl
bytes_count b (suc n) = ap suc (bytes_count (suc b) n)

pub mapped_byte : (f : ℕ → ℕ) (b n i : ℕ) → i < n → get_or (map f (bytes_from b n)) i 0 ≡ f (b + i)
unfolding bytes_from
mapped_byte f b zero i h = absurd (not-suc-le-zero h)
mapped_byte f b (suc n) zero h = ap f (let z : b ≡ b + 0 = omega arith in z)
mapped_byte f b (suc n) (suc i) h = mapped_byte f (suc b) n i (omega arith) ∙ ap f (let z : suc b + i ≡ b + suc i = omega arith in z)

-- Rows of one width, one after the other.
pub rows-length : (f : ℕ → List ℕ) (width : ℕ) → ((x : ℕ) → length (f x) ≡ width) → (l : List ℕ) → length (flat_map f l) ≡ length l * width
unfolding flat_map
rows-length f width same [] = omega arith
rows-length f width same (x ∷ l) =
    omega (arith, length-append (f x) (flat_map f l), same x, rows-length f width same l, suc_times (length l) width)
  where
    suc_times : (n w : ℕ) → suc n * w ≡ w + n * w
    suc_times n w = omega arith

-- The entries of a row stand together.
row-at : (f : ℕ → List ℕ) (width : ℕ) → ((x : ℕ) → length (f x) ≡ width) → (l more : List ℕ) (r b : ℕ) → r < length l → b < width
    → get_or (flat_map f l ++ more) (r * width + b) 0 ≡ get_or (f (get_or l r 0)) b 0
unfolding flat_map
row-at f width same [] more r b h k = absurd (not-suc-le-zero h)
row-at f width same (x ∷ l) more zero b h k =
    ap (λ (z : List ℕ). get_or z (0 * width + b) 0) (append_assoc (f x) (flat_map f l) more)
    ∙ ap (λ (z : ℕ). get_or (f x ++ (flat_map f l ++ more)) z 0) (let z : 0 * width + b ≡ b = omega arith in z)
    ∙ get_or-append (f x) (flat_map f l ++ more) 0 b (omega (arith, same x))
row-at f width same (x ∷ l) more (suc r) b h k =
    let there : suc r * width + b ≡ length (f x) + (r * width + b) = suc_times r width b ∙ ap (λ (z : ℕ). z + (r * width + b)) (sym (same x)) in
    ap (λ (z : List ℕ). get_or z (suc r * width + b) 0) (append_assoc (f x) (flat_map f l) more)
    ∙ ap (λ (z : ℕ). get_or (f x ++ (flat_map f l ++ more)) z 0) there
    ∙ get_or-append-add (f x) (flat_map f l ++ more) (r * width + b) 0
    ∙ row-at f width same l more r b (omega arith) k
  where
    suc_times : (r w b : ℕ) → suc r * w + b ≡ w + (r * w + b)
    suc_times r w b = omega arith

-- ---- the rows

-- A set of kept positions is not the start.
not-start : (ps : List Position) (held b : ℕ) → eqb (keep ps 0 held b) (start_row ps) ≡ false
not-start ps held b =
    let l : keep ps 0 held b < 2 ^ length ps =
    subst (λ (k : ℕ). keep ps 0 held b < 2 ^ k) (let z : 0 + length ps ≡ length ps = omega arith in z) (keep-below ps 0 held b) in
    ne_eqb (keep ps 0 held b) (start_row ps) (λ e. absurd (omega arith))

pub kept-held : (ps : List Position) (first held b : ℕ) → held_in ps first (keep ps 0 held b) ≡ follows ps 0 (keep ps 0 held b)
unfolding held_in
kept-held ps first held b = rw (not-start ps held b)

pub start-held : (ps : List Position) (first : ℕ) → held_in ps first (start_row ps) ≡ first
unfolding held_in
start-held ps first = rw (eq-eqb (start_row ps) (start_row ps) refl)

pub start_winner : (ps : List Position) → winner_in ps (start_row ps) ≡ no_winner
unfolding winner_in
start_winner ps = rw (eq-eqb (start_row ps) (start_row ps) refl)

pub set_winner : (ps : List Position) (x : ℕ) → x < start_row ps → winner_in ps x ≡ rule_or_none (ended_rule ps 0 x)
unfolding winner_in
set_winner ps x h = rw (ne_eqb x (start_row ps) (λ e. absurd (omega arith)))

pub kept_winner : (ps : List Position) (held b : ℕ) → winner_in ps (keep ps 0 held b) ≡ rule_or_none (ended_rule ps 0 (keep ps 0 held b))
unfolding winner_in
kept_winner ps held b = rw (not-start ps held b)

mapped_member : (f : ℕ → ℕ) (b n i : ℕ) → i < n → Memᴰ (f (b + i)) (map f (bytes_from b n))
unfolding bytes_from
mapped_member f b zero i h = absurd (not-suc-le-zero h)
mapped_member f b (suc n) zero h = Memᴰ.head (ap f (let z : b + 0 ≡ b = omega arith in z))
mapped_member f b (suc n) (suc i) h =
    Memᴰ.tail (subst (λ (k : ℕ). Memᴰ (f k) (map f (bytes_from (suc b) n))) (let z : suc b + i ≡ b + suc i = omega arith in z)
    (mapped_member f (suc b) n i (omega arith)))

pub power_some : (n : ℕ) → 0 < 2 ^ n
power_some n = let l = lt-pow_self n in omega arith

module _ (ps : List Position) (first : ℕ) where
  abbrev rows : List ℕ
  rows = table_rows ps first

  -- With more than 256 rows gone through, the rows are the same, or there were more than 256 already.
  pub rows-all : length rows ≤ most_rows → (n : ℕ) → most_rows ≤ n → meet_rows (next_sets ps first) n 0 (start_row ps ∷ 0 ∷ []) ≡ rows
  unfolding table_rows
  rows-all few n more = enough_rows (next_sets ps first) most_rows n 0 (start_row ps ∷ 0 ∷ []) more (omega (arith, few))

  pub rows_over : most_rows < length rows → (n : ℕ) → most_rows ≤ n
      → most_rows < length (meet_rows (next_sets ps first) n 0 (start_row ps ∷ 0 ∷ []))
  unfolding table_rows
  rows_over many n more = let l = further_rows (next_sets ps first) most_rows n 0 (start_row ps ∷ 0 ∷ []) more in omega (arith, many)

  once_start : Once (start_row ps ∷ 0 ∷ [])
  unfolding number_of
  once_start zero h = rw (eq-eqb (start_row ps) (start_row ps) refl)
  once_start (suc zero) h = rw (ne_eqb (start_row ps) 0 (λ e. let l = power_some (length ps) in absurd (omega arith)))
  once_start (suc (suc i)) h = absurd (not-suc-le-zero (let z : suc i ≤ 0 = omega arith in z))

  reached : (j : ℕ) × RowsDone (next_sets ps first) (start_row ps ∷ 0 ∷ []) (λ x. Unit) j rows × ((length rows ≤ j) ⊎ (0 + most_rows ≤ j))
  unfolding table_rows
  reached =
      rows_reach (next_sets ps first) (start_row ps ∷ 0 ∷ []) (λ x. Unit) (λ n x m. tt) most_rows 0 (start_row ps ∷ 0 ∷ [])
      (none_done (next_sets ps first) (start_row ps ∷ 0 ∷ []) (λ x. Unit) (λ n x m. tt) once_start (λ x m. tt))

  pub rows-front : (more : List ℕ) × (rows ≡ start_row ps ∷ 0 ∷ more)
  rows-front = reached.1.front

  -- Each row stands once.
  pub rows_once : Once rows
  rows_once = reached.1.once

  -- Past the start and the empty set, each is one that an earlier row leads to.
  pub rows-reached : (j : ℕ) → 2 ≤ j → j < length rows → (k : ℕ) × (k < j) × Memᴰ (get_or rows j 0) (next_sets ps first (get_or rows k 0))
  rows-reached = reached.1.from_earlier

  pub start-met : Met (start_row ps) rows
  unfolding is_met
  start-met = rw rows-front.1 (or_left (eqb (start_row ps) (start_row ps)) _ (eqb_refl (start_row ps)))

  pub start-first : number_of rows (start_row ps) ≡ 0
  unfolding number_of
  start-first = rw (rows-front.1, eq-eqb (start_row ps) (start_row ps) refl)

  pub empty_met : Met 0 rows
  unfolding is_met
  empty_met = rw rows-front.1 (or_right (eqb (start_row ps) 0) true tt)

  pub empty_second : number_of rows 0 ≡ 1
  unfolding number_of
  empty_second = rw (rows-front.1, ne_eqb (start_row ps) 0 (λ e. let l = power_some (length ps) in absurd (omega arith)))

  -- Row 1 stands for the empty set alone.
  one_empty : (x : ℕ) → Met x rows → eqb (number_of rows x) 1 ≡ eqb x 0
  one_empty x t = go (eqb x 0) refl
    where
      go : (b : Bool) → eqb x 0 ≡ b → eqb (number_of rows x) 1 ≡ b
      go true e = eq-eqb (number_of rows x) 1 (ap (number_of rows) (eqb-true x 0 e) ∙ empty_second)
      go false e =
          ne_eqb (number_of rows x) 1
          (λ one. eqb-false x 0 e
          (sym (number_below x rows t).1 ∙ ap (λ (i : ℕ). get_or rows i 0) (one ∙ sym empty_second) ∙ (number_below 0 rows empty_met).1))

  module _ (few : length rows ≤ most_rows) where
    all_done : length rows ≤ reached.0
    all_done = ⊎_elim (λ l. l) (λ l. omega arith) reached.2

    -- "in the order first reached, rows in order, bytes rising"
    pub rows_in_order : rows ≡ start_row ps ∷ 0 ∷ first_met (start_row ps ∷ 0 ∷ []) (flat_map (next_sets ps first) rows)
    rows_in_order = in_order (next_sets ps first) (start_row ps ∷ 0 ∷ []) (λ y. Unit) (λ n y m. tt) reached.0 rows reached.1 all_done

    -- Every set that a row leads to is a row.
    pub next-met : (x : ℕ) → Met x rows → (b : ℕ) → b < row_entries → Met (keep ps 0 (held_in ps first x) b) rows
    unfolding next_sets
    next-met x t b h =
        closed_rows (next_sets ps first) (start_row ps ∷ 0 ∷ []) (λ y. Unit) (λ n y m. tt) reached.0 rows reached.1 all_done x t (keep ps 0 (held_in ps first x) b)
        (subst (λ (k : ℕ). Memᴰ (keep ps 0 (held_in ps first x) k) (next_sets ps first x)) (let z : 0 + b ≡ b = omega arith in z)
        (mapped_member (keep ps 0 (held_in ps first x)) 0 row_entries b h))

  -- ---- the entries and winners of a row

  pub next-count : (x : ℕ) → length (next_sets ps first x) ≡ row_entries
  unfolding next_sets
  next-count x = length-map (bytes_from 0 row_entries) (keep ps 0 (held_in ps first x)) ∙ bytes_count 0 row_entries

  pub row-length : (x : ℕ) → length (map (number_of rows) (next_sets ps first x)) ≡ row_entries
  row-length x = length-map (next_sets ps first x) (number_of rows) ∙ next-count x

  pub entries-length : length (table_entries ps first) ≡ length rows * row_entries
  unfolding table_entries
  entries-length = rows-length (λ row. map (number_of rows) (next_sets ps first row)) row_entries row-length rows

  pub winners-length : length (table_winners ps first) ≡ length rows
  unfolding table_winners
  winners-length = length-map rows (winner_in ps)

  pub entry_at : (more : List ℕ) (x : ℕ) → Met x rows → (b : ℕ) → b < row_entries
      → get_or (table_entries ps first ++ more) (number_of rows x * row_entries + b) 0 ≡ number_of rows (keep ps 0 (held_in ps first x) b)
  unfolding table_entries next_sets
  entry_at more x t b h =
      let n = number_below x rows t in
      row-at (λ row. map (number_of rows) (next_sets ps first row)) row_entries row-length rows more (number_of rows x) b n.0 h
      ∙ ap (λ (z : ℕ). get_or (map (number_of rows) (next_sets ps first z)) b 0) n.1
      ∙ get_or-map-inside (number_of rows) (next_sets ps first x) b 0 0 (omega (arith, h, next-count x))
      ∙ ap (number_of rows) (mapped_byte (keep ps 0 (held_in ps first x)) 0 row_entries b h)
      ∙ ap (λ (k : ℕ). number_of rows (keep ps 0 (held_in ps first x) k)) (let z : 0 + b ≡ b = omega arith in z)

  pub winner_at : (more : List ℕ) (x : ℕ) → Met x rows
      → get_or (table_winners ps first ++ more) (number_of rows x) no_winner ≡ winner_in ps x
  unfolding table_winners
  winner_at more x t =
      let n = number_below x rows t in
      get_or-append (map (winner_in ps) rows) more no_winner (number_of rows x) (omega (arith, n.0, length-map rows (winner_in ps)))
      ∙ get_or-map-inside (winner_in ps) rows (number_of rows x) 0 no_winner n.0
      ∙ ap (winner_in ps) n.1

-- ---- the longest match by rows

-- A rule below 32 is a winner, and 32 is none.
winning-rule : (o : Option ℕ) → ((rule : ℕ) → o ≡ some rule → rule < no_winner) → winning (rule_or_none o) ≡ o
unfolding winning rule_or_none
winning-rule none h = refl
winning-rule (some rule) h = rw (ne_eqb rule no_winner (λ e. let l = h rule refl in absurd (omega arith)))

-- The rule that ends is a position's.
pub ended-below : (ps : List Position) (bound : ℕ) → All (λ p. p.rule < bound) ps → (i kept rule : ℕ) → ended_rule ps i kept ≡ some rule → rule < bound
ended-below ps bound all i kept rule e =
    let h = (subst (LeastOf (EndsRule ps i kept)) e (ended-least ps i kept)).0 in
    let l = all-at (λ p. p.rule < bound) all h.2 in
    omega (arith, h.5)

module _ (ps : List Position) (first : ℕ) (below : All (λ p. p.rule < no_winner) ps) (few : length (table_rows ps first) ≤ most_rows)
    (more rest : List ℕ) where
  abbrev table : List ℕ
  table = table_entries ps first ++ more

  abbrev winners : List ℕ
  winners = table_winners ps first ++ rest

  -- From a row on the walk by rows is the walk from the positions held in it.
  rows_walk : (x : ℕ) → Met x (table_rows ps first) → (text : List ℕ) → All (λ b. b < row_entries) text → (n : ℕ) (best : Match)
      → row_walk table winners (number_of (table_rows ps first) x) text n best ≡ walk ps (held_in ps first x) text n best
  unfolding row_walk walk
  rows_walk x t [] all n best = refl
  rows_walk x t (b ∷ text) all n best =
      let kept = keep ps 0 (held_in ps first x) b in
      let met = next-met ps first few x t b all.0 in
      let wins : winning (get_or winners (number_of (table_rows ps first) kept) no_winner) ≡ ended_rule ps 0 kept =
      ap winning (winner_at ps first rest kept met ∙ kept_winner ps (held_in ps first x) b)
      ∙ winning-rule (ended_rule ps 0 kept) (λ rule e. ended-below ps no_winner below 0 kept rule e) in
      let held : held_in ps first kept ≡ follows ps 0 kept = kept-held ps first (held_in ps first x) b in
      rw (entry_at ps first more x t b all.0, wins)
      (rows_walk kept met text all.1 (suc n) (longer (ended_rule ps 0 kept) (suc n) best)
      ∙ ap (λ (h : ℕ). walk ps h text (suc n) (longer (ended_rule ps 0 kept) (suc n) best)) held)

  -- The longest match by rows is the longest match by sets, whatever lies past the last row.
  pub by_rows : (text : List ℕ) → All (λ b. b < row_entries) text → match_by_rows table winners text ≡ longest_match ps first text
  unfolding match_by_rows longest_match
  by_rows text all =
      ap (λ (r : ℕ). row_walk table winners r text 0 no_match) (sym (start-first ps first))
      ∙ rows_walk (start_row ps) (start-met ps first) text all 0 no_match
      ∙ ap (λ (h : ℕ). walk ps h text 0 no_match) (start-held ps first)

  -- From a row on the walk by rows goes as far as the walk from the positions held in it.
  bytes_by_rows : (x : ℕ) → Met x (table_rows ps first) → (text : List ℕ) → All (λ b. b < row_entries) text
      → row_bytes table (number_of (table_rows ps first) x) text ≡ walk_bytes ps (held_in ps first x) text
  unfolding row_bytes walk_bytes
  bytes_by_rows x t [] all = refl
  bytes_by_rows x t (b ∷ text) all =
      let kept = keep ps 0 (held_in ps first x) b in
      let met = next-met ps first few x t b all.0 in
      rw (entry_at ps first more x t b all.0, one_empty ps first kept met)
      (ap (λ (n : ℕ). cond (eqb kept 0) 0 (suc n))
      (bytes_by_rows kept met text all.1 ∙ ap (λ (h : ℕ). walk_bytes ps h text) (kept-held ps first (held_in ps first x) b)))

  -- One walk by rows tells what one by sets tells.
  pub told-rows : (text : List ℕ) → All (λ b. b < row_entries) text → told_by_rows table winners text ≡ told ps first text
  unfolding told_by_rows told
  told-rows text all =
      ap₂ told_by
      (ap (λ (r : ℕ). row_bytes table r text) (sym (start-first ps first))
      ∙ bytes_by_rows (start_row ps) (start-met ps first) text all
      ∙ ap (λ (h : ℕ). walk_bytes ps h text) (start-held ps first))
      (by_rows text all)
