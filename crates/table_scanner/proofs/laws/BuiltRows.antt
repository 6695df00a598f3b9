-- The table of some positions is one that a walk by rows may rely on, whatever lies past its last row, as soon as the two lists are long
-- enough. That the walk over it finds the longest match of the positions is said in lexer's TableLaws.
use Rattle.std.specs.Prelude.{◌≡◌, refl, Bool, true, false, cond, List, ◌++◌, ℕ, ◌+◌, ◌*◌, ◌≤◌, ◌<◌, eqb, length, get_or}
use Rattle.std.proofs.Common.{sym, ap, subst, ◌∙◌, arith}
use Rattle.std.proofs.Math.Option.{Option, none, some}
use Rattle.basics.specs.Lists.{All}
use Rattle.basics.specs.Meeting.{number_of}
use Rattle.basics.proofs.laws.MeetingLaws.{met-at, number_below}
use Rattle.lexer.specs.Positions.{Position}
use Rattle.lexer.specs.Walk.{keep, follows, ended_rule}
use Rattle.lexer.proofs.laws.LowestPosition.{keep_nothing, follows_nothing, ended_nothing}
use Rattle.lexer.specs.Table.{most_rows, row_entries, no_winner, start_row, held_in, table_rows, table_entries}
use Rattle.lexer.specs.Table.{rule_or_none, winner_in, table_winners}
use Rattle.lexer.proofs.laws.TableLaws.{rows-front, rows_once, empty_met, empty_second, next-met, entry_at, winner_at}
use Rattle.lexer.proofs.laws.TableLaws.{kept-held, kept_winner, ended-below}
use Rattle.table_scanner.specs.Rows.{RowsIn}

-- ---- the empty set

-- In the empty set nothing is held, so that it leads to itself, and no rule ends.
empty_keeps : (ps : List Position) (first b : ℕ) → keep ps 0 (held_in ps first 0) b ≡ 0
empty_keeps ps first b =
    let none_kept = keep_nothing ps 0 0 in
    let held : held_in ps first 0 ≡ 0 =
    ap (held_in ps first) (sym none_kept) ∙ kept-held ps first 0 0 ∙ ap (follows ps 0) none_kept ∙ follows_nothing ps 0 in
    ap (λ (h : ℕ). keep ps 0 h b) held ∙ keep_nothing ps 0 b

empty_winner : (ps : List Position) → winner_in ps 0 ≡ no_winner
unfolding rule_or_none
empty_winner ps =
    let none_kept = keep_nothing ps 0 0 in
    ap (winner_in ps) (sym none_kept) ∙ kept_winner ps 0 0 ∙ ap (λ (k : ℕ). rule_or_none (ended_rule ps 0 k)) none_kept
    ∙ ap rule_or_none (ended_nothing ps 0)

-- ---- winners

rule_below : (o : Option ℕ) → ((rule : ℕ) → o ≡ some rule → rule < no_winner) → rule_or_none o ≤ no_winner
unfolding rule_or_none
rule_below none h = omega arith
rule_below (some rule) h = let l = h rule refl in omega arith

winner_at_most : (ps : List Position) → All (λ p. p.rule < no_winner) ps → (row : ℕ) → winner_in ps row ≤ no_winner
unfolding winner_in
winner_at_most ps below row = go (eqb row (start_row ps)) (rule_below (ended_rule ps 0 row) (λ rule e. ended-below ps no_winner below 0 row rule e))
  where
    go : (b : Bool) → rule_or_none (ended_rule ps 0 row) ≤ no_winner → cond b no_winner (rule_or_none (ended_rule ps 0 row)) ≤ no_winner
    go true l = omega arith
    go false l = l

-- ---- all rows

module _ (ps : List Position) (first : ℕ) (below : All (λ p. p.rule < no_winner) ps) (few : length (table_rows ps first) ≤ most_rows)
    (more rest : List ℕ) where
  abbrev rows : List ℕ
  rows = table_rows ps first

  abbrev table : List ℕ
  table = table_entries ps first ++ more

  abbrev winners : List ℕ
  winners = table_winners ps first ++ rest

  rows_two : 2 ≤ length rows
  rows_two = rw (rows-front ps first).1 (omega arith)

  leads_below : (row b : ℕ) → row < length rows → b < row_entries → get_or table (row * row_entries + b) 0 < length rows
  leads_below row b h l =
      let x = get_or rows row 0 in
      let met = met-at rows row h in
      let next = keep ps 0 (held_in ps first x) b in
      let entry : get_or table (row * row_entries + b) 0 ≡ number_of rows next =
      subst (λ (r : ℕ). get_or table (r * row_entries + b) 0 ≡ number_of rows next) (rows_once ps first row h)
      (entry_at ps first more x met b l) in
      rw entry (number_below next rows (next-met ps first few x met b l)).0

  row_winner : (row : ℕ) → row < length rows → get_or winners row no_winner ≤ no_winner
  row_winner row h =
      let x = get_or rows row 0 in
      let wins : get_or winners row no_winner ≡ winner_in ps x =
      subst (λ (r : ℕ). get_or winners r no_winner ≡ winner_in ps x) (rows_once ps first row h)
      (winner_at ps first rest x (met-at rows row h)) in
      rw wins (winner_at_most ps below x)

  empty_leads : (b : ℕ) → b < row_entries → get_or table (1 * row_entries + b) 0 ≡ 1
  empty_leads b l =
      ap (λ (r : ℕ). get_or table (r * row_entries + b) 0) (sym (empty_second ps first))
      ∙ entry_at ps first more 0 (empty_met ps first) b l
      ∙ ap (number_of rows) (empty_keeps ps first b)
      ∙ empty_second ps first

  empty_none : get_or winners 1 no_winner ≡ no_winner
  empty_none =
      ap (λ (r : ℕ). get_or winners r no_winner) (sym (empty_second ps first))
      ∙ winner_at ps first rest 0 (empty_met ps first)
      ∙ empty_winner ps

  -- The lists hold the whole table where they are as long as the caller must lend them.
  pub built-rows : most_rows * row_entries ≤ length table → most_rows ≤ length winners → RowsIn table winners
  built-rows entries_long winners_long =
      record {
        entries_lent = entries_long;
        winners_lent = winners_long;
        row_count = length rows;
        two_rows = rows_two;
        few_rows = few;
        next_row = leads_below;
        winner_below = row_winner;
        empty_stays = empty_leads;
        empty_wins_none = empty_none;
      }
