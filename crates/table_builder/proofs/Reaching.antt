-- The rows of a table, by columns: what a row leads to by the class table, and the rows one after the other until none is left.
use mathlib.Core.Path.{◌≡◌, refl, sym, ap, subst, ◌∙◌}
use mathlib.Core.Bool.{true}
use mathlib.Core.List.{List, [], ◌∷◌, map}
use mathlib.Core.Logic.{◌⊎◌, ⊎_elim}
use Prim.Native.Nat.{ℕ, zero, suc, ◌+◌, ◌-◌, ◌^◌, ◌≤◌, ◌<◌}
use native.Mathlib.Omega.{arith}
use native.Mathlib.Numerals.{add-one}
use lib.Bits.{bit_and}
use lib.Dec.{eqb}
use lib.ListN.{get_or, length, take, drop, length-append}
use lib.Seq.{get_or-take, take-suc, length-take-le}
use borrow.Author.Tests.{ne_eqb}
use Rattle.basics.proofs.laws.BitLaws.{bit_high}
use Rattle.basics.specs.Lists.{All}
use Rattle.basics.proofs.laws.Members.{all-at}
use Rattle.basics.proofs.laws.Truth.{or_right}
use Rattle.basics.specs.Meeting.{is_met, meet_all, meet_rows}
use Rattle.basics.specs.laws.MeetingLaws.{Met}
use Rattle.basics.proofs.laws.MeetingLaws.{meet_all_keeps}
use Rattle.basics.proofs.laws.Reaching.{row_done, rows_done, rows-more}
use Rattle.lexer.specs.Positions.{Position}
use Rattle.lexer.proofs.laws.PositionBounds.{keep-below}
use Rattle.lexer.proofs.laws.SetBounds.{below_power, members_below}
use Rattle.lexer.specs.SetWalk.{set_walk}
use Rattle.lexer.proofs.laws.SetWalkLaws.{walk-meets-members}
use Rattle.lexer.specs.Table.{most_rows, row_entries, bytes_from, start_row, held_in, next_sets, table_rows}
use Rattle.lexer.proofs.laws.TableLaws.{power_some, start-held}
use Rattle.lexer.specs.Walk.{keep}
use Rattle.scanner.proofs.laws.ByteLaws.{kept_is, follows_of}
use Rattle.scanner.specs.Meaning.{Prepared}
use Rattle.scanner.specs.Sets.{joined}
use Rattle.table_builder.specs.Rows.{RowsHeld, all_held, too_many, sets_by, SetsBelow}

second-met : (m : ℕ) → Met 0 (m ∷ 0 ∷ [])
unfolding is_met
second-met m = or_right (eqb m 0) true tt

pub map_bytes : (f g : ℕ → ℕ) (b n : ℕ) → ((i : ℕ) → i < b + n → f i ≡ g i) → map f (bytes_from b n) ≡ map g (bytes_from b n)
unfolding bytes_from
map_bytes f g b zero h = refl
map_bytes f g b (suc n) h =
    ap (λ (k : ℕ). k ∷ map f (bytes_from (suc b) n)) (h b (omega arith))
    ∙ ap (λ (l : List ℕ). g b ∷ l) (map_bytes f g (suc b) n (λ i k. h i (omega arith)))

-- The rows before row i + 1 are done, and those met lead to all rows. The start's number is 2 to the number of positions.
pub record Reached (ps : List Position) (first : ℕ) (sets : List ℕ) (met i : ℕ) : Type 0 where
  pub so_far : List ℕ
  pub held : RowsHeld (2 ^ length ps) sets met so_far
  pub empty_met : Met 0 so_far
  pub rest : meet_rows (next_sets ps first) (most_rows - suc i) (suc i) so_far ≡ table_rows ps first

module _ (columns : List Position) (last first : ℕ) (classes : List ℕ) (prepared : Prepared columns last classes) where
  abbrev count : ℕ
  count = length columns

  pub start_is : start_row columns ≡ 2 ^ count
  start_is = refl

  -- The sets that a held set leads to, by the class table.
  pub sets_below : (held : ℕ) → SetsBelow (2 ^ count) held classes
  sets_below held b h =
      subst (λ (k : ℕ). k < 2 ^ count) (sym (kept_is classes last columns prepared held b h))
      (subst (λ (k : ℕ). keep columns 0 held b < 2 ^ k) (let z : 0 + length columns ≡ count = omega arith in z)
      (keep-below columns 0 held b))

  pub sets_are : (held x : ℕ) → held ≡ held_in columns first x → sets_by classes held row_entries ≡ next_sets columns first x
  unfolding sets_by next_sets
  sets_are held x e =
      map_bytes (λ b. bit_and held (get_or classes b 0)) (keep columns 0 held) 0 row_entries
      (λ b h. kept_is classes last columns prepared held b (omega arith))
      ∙ ap (λ (k : ℕ). map (keep columns 0 k) (bytes_from 0 row_entries)) e

  -- The positions held in a row of kept positions, as the walk over them joins their follow sets.
  pub held_is : (x : ℕ) → x < 2 ^ count → joined (drop 256 classes) (set_walk x) ≡ held_in columns first x
  unfolding held_in
  held_is x h =
      let small : x < 2 ^ 64 = below_power x 64 (λ j m. let l = members_below x count j h m in omega (arith, prepared.few)) in
      let other = ne_eqb x (start_row columns) (λ e. let s = start_is in absurd (omega arith)) in
      ap (joined (drop 256 classes)) (walk-meets-members x small)
      ∙ follows_of classes last columns prepared x (λ j l. bit_high count x j h (omega arith))
      ∙ (rw other)

  -- Row 0 is done: the start leads to the first sets, and the empty set is row 1.
  pub reached_start : (sets sets' : List ℕ) (met : ℕ) → length sets ≡ 256 → get_or sets 0 0 ≡ 0
      → ((so_far : List ℕ) → SetsBelow (2 ^ count) first classes → Met 0 so_far → RowsHeld (2 ^ count) sets 1 so_far
      → RowsHeld (2 ^ count) sets' met (meet_all so_far (sets_by classes first row_entries)))
      → Reached columns first sets' met 0
  unfolding table_rows
  reached_start sets sets' met size zero_first joins =
      let start : List ℕ = start_row columns ∷ 0 ∷ [] in
      let front : take 1 sets ≡ 0 ∷ [] = take-suc sets 0 0 (omega arith) ∙ ap (λ (k : ℕ). k ∷ []) zero_first in
      let begun : RowsHeld (2 ^ count) sets 1 start =
      all_held (record {
        few = omega arith;
        below = rw front (power_some count, tt);
        whole = ap (λ (k : ℕ). k ∷ 0 ∷ []) start_is ∙ ap (λ (l : List ℕ). 2 ^ count ∷ l) (sym front);
      }) in
      record {
        so_far = meet_all start (next_sets columns first (start_row columns));
        held = subst (λ (l : List ℕ). RowsHeld (2 ^ count) sets' met (meet_all start l)) (sets_are first (start_row columns) (sym (start-held columns first)))
            (joins start (sets_below first) (second-met (start_row columns)) begun);
        empty_met = meet_all_keeps 0 start (next_sets columns first (start_row columns)) (second-met (start_row columns));
        rest = sym (row_done (next_sets columns first) 255 0 start (omega arith));
      }

  -- The set of row i + 1 is below 2^count, and is the number met there.
  held_row : (sets : List ℕ) (met i : ℕ) → met ≤ length sets → i < met → (so_far : List ℕ) → All (λ x. x < 2 ^ count) (take met sets)
      → so_far ≡ 2 ^ count ∷ take met sets → (get_or sets i 0 < 2 ^ count) × (get_or so_far (suc i) 0 ≡ get_or sets i 0)
  held_row sets met i long l so_far below e =
      let size = length-take-le met sets long in
      let here = get_or-take met sets i 0 l in (
        subst (λ (k : ℕ). k < 2 ^ count) here (all-at (λ x. x < 2 ^ count) (take met sets) below i 0 (omega arith)),
        ap (λ (k : List ℕ). get_or k (suc i) 0) e ∙ here,
      )

  -- One row more is done.
  pub reached_next : (sets sets' : List ℕ) (met met' i : ℕ) → met ≤ length sets → i < met → met < most_rows → Reached columns first sets met i
      → (held : ℕ) → held ≡ joined (drop 256 classes) (set_walk (get_or sets i 0))
      → ((so_far : List ℕ) → SetsBelow (2 ^ count) held classes → Met 0 so_far → RowsHeld (2 ^ count) sets met so_far
      → RowsHeld (2 ^ count) sets' met' (meet_all so_far (sets_by classes held row_entries)))
      → Reached columns first sets' met' (i + 1)
  reached_next sets sets' met met' i long l few r held e joins = go r.held
    where
      go : RowsHeld (2 ^ count) sets met r.so_far → Reached columns first sets' met' (i + 1)
      go (too_many full many) = absurd (omega arith)
      go (all_held h) =
          let below = h.below in
          let whole = h.whole in
          let row = held_row sets met i long l r.so_far below whole in
          let x = get_or r.so_far (suc i) 0 in
          let same : sets_by classes held row_entries ≡ next_sets columns first x =
          sets_are held x (e ∙ held_is (get_or sets i 0) row.0 ∙ ap (held_in columns first) (sym row.1)) in
          let inside : suc i < length r.so_far = omega (arith, ap length whole, length-take-le met sets long) in
          record {
            so_far = meet_all r.so_far (next_sets columns first x);
            held = subst (λ (k : List ℕ). RowsHeld (2 ^ count) sets' met' (meet_all r.so_far k)) same
                (joins r.so_far (sets_below held) r.empty_met r.held);
            empty_met = meet_all_keeps 0 r.so_far (next_sets columns first x) r.empty_met;
            rest = rw add-one (sym (ap (λ (k : ℕ). meet_rows (next_sets columns first) k (suc i) r.so_far)
                (let z : most_rows - suc i ≡ suc (most_rows - suc (suc i)) = omega arith in z)
                ∙ row_done (next_sets columns first) (most_rows - suc (suc i)) (suc i) r.so_far inside) ∙ r.rest);
          }

  -- No row is left, or there are more than 256.
  pub reached_end : (sets : List ℕ) (met i : ℕ) → met ≤ length sets → (met ≤ i) ⊎ (most_rows ≤ met) → Reached columns first sets met i
      → RowsHeld (2 ^ count) sets met (table_rows columns first)
  reached_end sets met i long h r = go r.held
    where
      go : RowsHeld (2 ^ count) sets met r.so_far → RowsHeld (2 ^ count) sets met (table_rows columns first)
      go (too_many full many) =
          let m = rows-more (next_sets columns first) (most_rows - suc i) (suc i) r.so_far in
          too_many full (omega (arith, ap length (sym r.rest ∙ m.1), length-append r.so_far m.0))
      go (all_held a) =
          let few = a.few in
          let whole = a.whole in
          let done : length r.so_far ≤ suc i =
          ⊎_elim (λ l. omega (arith, ap length whole, length-take-le met sets long)) (λ l. absurd (omega arith)) h in
          all_held (record {
            few = few;
            below = a.below;
            whole = sym r.rest ∙ rows_done (next_sets columns first) (most_rows - suc i) (suc i) r.so_far done ∙ whole;
          })
