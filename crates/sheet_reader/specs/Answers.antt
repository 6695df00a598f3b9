-- What the readers of a sheet's parts answer: for what the definition reads from a place on, the columns with it and the place after it;
-- for a refusal, its question and place.
use Rattle.std.specs.Prelude.{◌≡◌, List, [], ◌∷◌, ℕ, ◌-◌, ◌≤◌, length, Result, IfOk}
use Rattle.sheet.specs.Limits.{most_expression_nodes}
use Rattle.sheet.specs.Field.{Reading, stop, got, read_many}
use Rattle.sheet.specs.Reading.{Allowance, less_rule, read_rule, expression_nodes}
use Rattle.columns.specs.declared.RuleColumns.{RuleColumns}
use Rattle.columns.specs.declared.NodeColumns.{NodeColumns}
use Rattle.sheet_reader.specs.declared.Refusal.{Refusal}
use Rattle.sheet_reader.specs.declared.Got.{Got}
use Rattle.sheet_reader.specs.Put.{with_all, with_rule, with_read_node, no_rules, no_nodes}
use Rattle.sheet_reader.specs.Reads.{refused}
use Rattle.sheet_reader.specs.Turns.{was_got}

-- The columns do not overflow.
pub record RulesFit (c : RuleColumns) : Type 0 where
  pub rules : c.count ≤ 32
  pub nodes : c.items ≤ 256
  pub classes : c.classes ≤ 64

-- The nodes and classes that the columns leave.
unfoldable pub allowance : RuleColumns → Allowance
allowance c = record { nodes = 256 - c.items; classes = 64 - c.classes }

-- The columns c with what was read, and a place within the bytes.
abbrev pub Says : {A C : Type 0} → (C → A → C) → ℕ → Reading A → C → Result (Got C) Refusal → Type 0
Says put most (stop question place) c r = r ≡ refused question place
Says put most (got a end) c r = (r ≡ was_got (put c a) end) × (end ≤ most)

pub record Answers {A C : Type 0} (put : C → A → C) (most : ℕ) (m : Reading A) (c : C) (r : Result (Got C) Refusal) : Type 0 where
  pub says : Says put most m c r

-- So many rules, and the expression.
pub record ReadsRules (bytes : List ℕ) (at tokens count : ℕ) (r : Result (Got RuleColumns) Refusal) : Type 0 where
  pub answers : Answers (with_all with_rule) (length bytes) (read_many (read_rule bytes tokens) less_rule (allowance no_rules) count at) no_rules r
  pub fits : IfOk r (λ g. RulesFit g.value)

abbrev pub ReadsExpression : List ℕ → ℕ → ℕ → Result (Got NodeColumns) Refusal → Type 0
ReadsExpression bytes at tokens r =
    Answers (with_all with_read_node) (length bytes) (expression_nodes bytes tokens most_expression_nodes (0 ∷ []) at) no_nodes r
