-- What the functions' proofs cite: that a run which is turned away leaves all as it was, what is built of a scanner's buffers, that what is
-- left is what the run leaves, and what a run by rows relies on.
use mathlib.Core.Path.{◌≡◌, refl, sym, ap, subst, ◌∙◌}
use mathlib.Core.Bool.{Bool, true, false, not, cond}
use mathlib.Core.List.{List}
use mathlib.Core.Logic.{⊎_elim}
use Prim.Native.Nat.{ℕ, ◌≤◌}
use native.Mathlib.Omega.{arith}
use lib.Dec.{leb, ltb}
use lib.ListN.{length, replicate}
use borrow.Author.Tests.{lt-ltb, le-ltb, lt-leb, le-leb, leb-true, not-true, not-false}
use Rattle.std.specs.Prelude.{Option, Some}
use Rattle.basics.proofs.laws.Order.{lt-or-le}
use Rattle.basics.specs.Lists.{written_over}
use Rattle.lexer.specs.Positions.{Position}
use Rattle.lexer.specs.Table.{most_rows, table_rows, table_entries, table_winners}
use Rattle.image.specs.Image.{Image}
use Rattle.image.specs.Answer.{Answer, answer}
use Rattle.machine.specs.Trace.{answer_of}
use Rattle.machine.specs.Lent.{lent_entries, Lent, stack_alone, with_scanner, rows_of, entries_of, winners_of, built, turned_away, finished}
use Rattle.machine.specs.Runs.{Short}
use Rattle.machine.specs.Run.{trace, has_many_rows, run_image, run}
use Rattle.machine_turn.specs.Steps.{answer_held}
use Rattle.machine_turn.specs.declared.RunAnswer.{RunAnswer}
use Rattle.machine_loop.specs.Built.{Built}
use Rattle.machine_loop.specs.Prepared.{WithTables}
use Rattle.machine_loop.specs.declared.ScannerTable.{ScannerTable}
use Rattle.machine_loop.specs.declared.Machine.{Machine}
use Rattle.image_runner.specs.Lending.{ran}
use Rattle.image_runner.specs.Reading.{Readable}

-- A run that is turned away leaves all as it was.
pub left_alone : (bytes text : List ℕ) (lent : Lent) (number place : ℕ) → run bytes text lent ≡ turned_away number place lent
    → (r : RunAnswer) → answer_held r ≡ answer number place 0 → ran r lent ≡ run bytes text lent
unfolding turned_away
left_alone bytes text lent number place e r f = ap (λ (a : Answer). record { answer = a; left = lent }) f ∙ sym e

-- A run without a table.
pub run_alone : (i : Image) (text stack stack' : List ℕ) (r : RunAnswer) → answer_held r ≡ answer_of (trace i (length stack) text)
    → stack' ≡ replicate (length stack) 0 → ran r (stack_alone stack') ≡ run_image i text (stack_alone stack)
unfolding run_image has_many_rows finished built
run_alone i text stack stack' r e z = rw (e, z) refl

-- ---- with a table

-- Whether the rows are few enough, against the test for too many.
few_rows : (m n : ℕ) → leb m n ≡ not (ltb n m)
few_rows m n = ⊎_elim (λ l. rw (lt-ltb n m l, lt-leb m n l)) (λ l. rw (le-ltb n m l, le-leb m n l)) (lt-or-le n m)

pub long_both : (stack table winners : List ℕ) → lent_entries ≤ length table → most_rows ≤ length winners
    → Short (with_scanner stack table winners).scanner → ⊥
long_both stack table winners l w s = ⊎_elim (λ h. omega arith) (λ h. omega arith) s

-- What building a table of an image's positions leaves.
pub record BuiltFrom (i : Image) (few : Bool) (table winners table' winners' : List ℕ) : Type 0 where
  pub few_is : few ≡ leb (length (rows_of i)) most_rows
  pub table_is : table' ≡ cond few (written_over (entries_of i) table) table
  pub winners_is : winners' ≡ cond few (written_over (winners_of i) winners) winners

abbrev BuiltAt : List Position → ℕ → Bool → List ℕ → List ℕ → List ℕ → List ℕ → Type 0
BuiltAt ps first few table winners table' winners' =
    (few ≡ leb (length (table_rows ps first)) most_rows) × (table' ≡ cond few (written_over (table_entries ps first) table) table)
    × (winners' ≡ cond few (written_over (table_winners ps first) winners) winners)

pub built_from : (i : Image) {first : ℕ} {few : Bool} {table winners table' winners' : List ℕ} → first ≡ i.first
    → BuiltAt i.positions first few table winners table' winners' → BuiltFrom i few table winners table' winners'
built_from i {first} {few} {table} {winners} {table'} {winners'} e b =
    let x = subst (λ (k : ℕ). BuiltAt i.positions k few table winners table' winners') e b in
    record { few_is = x.0; table_is = x.1; winners_is = x.2 }

module _ {i : Image} {few : Bool} {table winners table' winners' : List ℕ} (x : BuiltFrom i few table winners table' winners') where
  many_told : {b : Bool} → few ≡ b → not (ltb most_rows (length (rows_of i))) ≡ b
  many_told e = sym (few_rows (length (rows_of i)) most_rows) ∙ sym x.few_is ∙ e

  table_at : {b : Bool} → few ≡ b → table' ≡ cond b (written_over (entries_of i) table) table
  table_at e = x.table_is ∙ ap (λ (c : Bool). cond c (written_over (entries_of i) table) table) e

  winners_at : {b : Bool} → few ≡ b → winners' ≡ cond b (written_over (winners_of i) winners) winners
  winners_at e = x.winners_is ∙ ap (λ (c : Bool). cond c (written_over (winners_of i) winners) winners) e

  pub run_over_rows : (text stack : List ℕ) → few ≡ false → (r : RunAnswer) → answer_held r ≡ answer 19 0 0
      → ran r (with_scanner stack table' winners') ≡ run_image i text (with_scanner stack table winners)
  unfolding run_image has_many_rows turned_away
  run_over_rows text stack e r f = rw (not-false _ (many_told e), f, table_at e, winners_at e) refl

  pub run_few_rows : (text stack : List ℕ) → few ≡ true → (r : RunAnswer) (stack' : List ℕ) → answer_held r ≡ answer_of (trace i (length stack) text)
      → stack' ≡ replicate (length stack) 0 → ran r (with_scanner stack' table' winners') ≡ run_image i text (with_scanner stack table winners)
  unfolding run_image has_many_rows finished built
  run_few_rows text stack e r stack' f z = rw (not-true _ (many_told e), f, z, table_at e, winners_at e) refl

  table_holds : few ≡ true → lent_entries ≤ length table → most_rows ≤ length winners → length table' ≡ length table
      → length winners' ≡ length winners → Built i table' winners'
  unfolding written_over
  table_holds e l k t w = record {
    few_rows = leb-true (length (rows_of i)) most_rows (sym x.few_is ∙ e);
    long_table = omega (arith, l, t);
    long_winners = omega (arith, k, w);
    more = _;
    entries = table_at e;
    rest = _;
    row_winners = winners_at e;
  }

-- ---- the machine

some_injective : {A : Type 0} {a b : A} → ◌≡◌ {A = Option A} (Some a) (Some b) → a ≡ b
some_injective e = cc

-- What a run by the rows that were built relies on.
pub with_rows : (m : Machine) (rows : ScannerTable) {text table winners : List ℕ} {few : Bool}
    → (r : Readable m.image.now text m.read m.tables.now m.productions.now) → m.scanner ≡ Some rows
    → BuiltFrom r.image few table winners rows.table.now rows.winners.now → few ≡ true → lent_entries ≤ length table → most_rows ≤ length winners
    → length rows.table.now ≡ length table → length rows.winners.now ≡ length winners → WithTables m r.image
with_rows m rows r e x few l k t w = record {
  decoded = r.decoded;
  in_range = r.in_range;
  built = λ f. subst (λ (y : ScannerTable). Built r.image y.table.now y.winners.now) (some_injective (sym e ∙ f)) (table_holds x few l k t w);
}
