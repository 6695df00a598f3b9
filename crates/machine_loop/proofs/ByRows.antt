-- What is found by the rows of an image's table is the image's longest match. And turns by matches found ahead need no table.
use Rattle.std.specs.Prelude.{Option, None, IsSome}
use mathlib.Core.Path.{◌≡◌, sym, ap₂, subst, ◌∙◌}
use mathlib.Core.Bool.{Bool, true, false}
use mathlib.Core.List.{List, [], ◌∷◌, ◌++◌}
use Prim.Native.Nat.{ℕ, suc, ◌≤◌, ◌<◌}
use native.Mathlib.Omega.{arith}
use lib.ListN.{get_or, length}
use Rattle.basics.specs.Lists.{All}
use Rattle.basics.proofs.laws.Members.{all_of, all_member}
use Rattle.lexer.specs.Table.{row_entries, no_winner, match_by_rows}
use Rattle.lexer.specs.Alive.{Told, told, told_by_rows}
use Rattle.lexer.proofs.laws.TableLaws.{by_rows, told-rows}
use Rattle.lexer.specs.Walk.{longest_match}
use Rattle.table_scanner.specs.Rows.{RowsIn}
use Rattle.table_scanner.proofs.laws.BuiltRows.{built-rows}
use Rattle.scanner.specs.Meaning.{match_of}
use Rattle.scanner.specs.declared.Match.{Match}
use Rattle.image.specs.Image.{Image}
use Rattle.image.specs.ImageRanges.{InRange}
use Rattle.machine.specs.Lent.{winners_of}
use Rattle.machine_loop.specs.Built.{Built}
use Rattle.machine_loop.specs.declared.Machine.{Machine}
use Rattle.machine.specs.Trace.{Ended}
use Rattle.machine_turn.specs.declared.State.{State}
use Rattle.machine_turn.specs.laws.Going.{Going}
use Rattle.machine_loop.specs.declared.Turns.{Turns}
use Rattle.machine_loop.specs.declared.Turns.TheVariants.{Done, Reached, InVain}
use Rattle.machine_loop.specs.Prepared.{tables_in, WithTables}
use Rattle.machine_loop.specs.Turning.{TurnsLead}

-- The same image without the scanner's table: it goes by no rows, and turns leave the same.
module _ (m n : Machine) (e : n ≡ record m { scanner = None }) where
  pub no_rows : IsSome n.scanner → ⊥
  no_rows some = let z : ◌≡◌ {A = Bool} false true = subst (λ (x : Machine). IsSome x.scanner) e some in cc

  pub without_rows : {i : Image} → WithTables m i → WithTables n i
  without_rows {i} w =
      subst (λ (x : Machine). WithTables x i) (sym e) (record { decoded = w.decoded; in_range = w.in_range; built = λ h. cc })

  module _ (i : Image) (text : List ℕ) (whole : Ended) where
    pub same_going : {stack : List ℕ} {s : State} → Going i m.image.now (tables_in m) text stack s whole
        → Going i n.image.now (tables_in n) text stack s whole
    same_going {stack} {s} g = subst (λ (x : Machine). Going i x.image.now (tables_in x) text stack s whole) (sym e) g

    pub same_lead : (place : ℕ) (matches : List ℕ) (to stop : ℕ) (stack : List ℕ) (turned : Turns)
        → TurnsLead i n text place matches to stop whole stack turned → TurnsLead i m text place matches to stop whole stack turned
    same_lead place matches to stop stack turned l =
        go turned (subst (λ (x : Machine). TurnsLead i x text place matches to stop whole stack turned) e l)
      where
        go : (turned : Turns) → TurnsLead i (record m { scanner = None }) text place matches to stop whole stack turned
            → TurnsLead i m text place matches to stop whole stack turned
        go (Done a) l = l
        go (Reached s) l = l
        go (InVain s k) l = l

all_entries : (bound : ℕ) (l : List ℕ) → ((j : ℕ) → get_or l j 0 < bound) → All (λ b. b < bound) l
all_entries bound [] f = tt
all_entries bound (b ∷ l) f = (f 0, all_entries bound l (λ j. f (suc j)))

module _ (i : Image) (range : InRange i) (table winners : List ℕ) (built : Built i table winners) where
  -- Rules are below 32, so that 32 is none of them.
  below : All (λ p. p.rule < no_winner) i.positions
  below =
      all_of (λ p. p.rule < no_winner) i.positions
      (λ p m. omega (arith, (all_member _ i.positions range.positions_in_range p m).rule_below, range.rule_count))

  pub rows_in : RowsIn table winners
  rows_in =
      subst (RowsIn table) (sym built.row_winners)
      (subst (λ (l : List ℕ). RowsIn l (winners_of i ++ built.rest)) (sym built.entries)
      (built-rows i.positions i.first below built.few_rows built.more built.rest
      (subst (λ (l : List ℕ). 65536 ≤ length l) built.entries built.long_table)
      (subst (λ (l : List ℕ). 256 ≤ length l) built.row_winners built.long_winners)))

  pub found_by_rows : (text : List ℕ) → ((j : ℕ) → get_or text j 0 < row_entries) → (f : Option Match) → match_of f ≡ match_by_rows table winners text
      → match_of f ≡ longest_match i.positions i.first text
  found_by_rows text bytes f e =
      e
      ∙ ap₂ (λ (t w : List ℕ). match_by_rows t w text) built.entries built.row_winners
      ∙ by_rows i.positions i.first below built.few_rows built.more built.rest text (all_entries row_entries text bytes)

  -- What one walk by rows tells is what one walk tells.
  pub told_by-table : (text : List ℕ) → ((j : ℕ) → get_or text j 0 < row_entries) → (t : Told) → t ≡ told_by_rows table winners text
      → t ≡ told i.positions i.first text
  told_by-table text bytes t e =
      e
      ∙ ap₂ (λ (t w : List ℕ). told_by_rows t w text) built.entries built.row_winners
      ∙ told-rows i.positions i.first below built.few_rows built.more built.rest text (all_entries row_entries text bytes)
