-- What a caller learns of the definition's reading from the outcome alone.
use Rattle.std.specs.Prelude.{◌≡◌, refl, ℕ, Result, Ok, Err}
use Rattle.std.proofs.Common.{sym, ◌∙◌}
use Rattle.sheet.specs.Field.{Reading, stop, got}
use Rattle.sheet.specs.Reading.{Contents}
use Rattle.sheet_reader.specs.Reads.{Holds, Reads}
use Rattle.sheet_reader.proofs.Told.{told_stop}
use Rattle.sheet_reader.specs.declared.Refusal.{Refusal}
use Rattle.sheet_reader.specs.declared.SheetColumns.{SheetColumns}

-- A sheet was read whole, and the columns hold it.
pub record ReadWhole (m : Reading Contents) (r : SheetColumns) : Type 0 where
  pub what : Contents
  pub end : ℕ
  pub read : m ≡ got what end
  pub holds : Holds what r

module _ {r : Result SheetColumns Refusal} where
  pub outcome_done : (m : Reading Contents) {columns : SheetColumns} → Reads m r → r ≡ Ok columns → ReadWhole m columns
  outcome_done (stop q p) h e = cc
  outcome_done (got c end) h e = record { what = c; end = end; read = refl; holds = rw e at h }

  pub outcome_refused : (m : Reading Contents) {refusal : Refusal} → Reads m r → r ≡ Err refusal → m ≡ stop refusal.question refusal.place
  outcome_refused (stop q p) {refusal} h e = told_stop (sym h ∙ e)
  outcome_refused (got c end) h e = absurd (rw e at h)
