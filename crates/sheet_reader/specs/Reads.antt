-- What reading a sheet promises: the columns hold what the definition reads, or the answer is the refusal, and there are no columns.
-- How the columns are filled is not said here.
use Rattle.std.specs.Prelude.{◌≡◌, ℕ, Result, Err, IsOkAnd}
use Rattle.sheet.specs.Field.{Reading, stop, got}
use Rattle.sheet.specs.Reading.{Contents}
use Rattle.columns.specs.Holds.{RulesOf, NodesOf}
use Rattle.sheet_reader.specs.declared.SheetColumns.{SheetColumns}
use Rattle.sheet_reader.specs.declared.Refusal.{Refusal}

-- A refusal has its question and its place.
abbrev pub refused : {A : Type 0} → ℕ → ℕ → Result A Refusal
refused question place = Err (record { question = question; place = place })

-- The columns hold a sheet that was read, with its places.
pub record Holds (c : Contents) (r : SheetColumns) : Type 0 where
  pub tokens_held : r.tokens ≡ c.sheet.tokens
  pub rules_held : RulesOf r.rules c.sheet.rules c.action_places
  pub nodes_held : NodesOf r.nodes c.sheet.expression c.node_places

abbrev pub Reads : Reading Contents → Result SheetColumns Refusal → Type 0
Reads (stop question place) r = r ≡ refused question place
Reads (got c end) r = IsOkAnd r (Holds c)
