-- A grammar sheet: its token count, its rules and its expression. How it is written in bytes is said in SheetFormat.
use Rattle.std.specs.Prelude.{List, ℕ}
use Rattle.sheet.specs.Regex.{Regex}
use Rattle.sheet.specs.Expression.{Expression}

-- A rule: its action (0 skips, k + 1 returns token k) and its regex.
pub record Rule : Type 0 where
  pub action : ℕ
  pub regex : Regex

-- Rules and tokens count from 0.
pub record Sheet : Type 0 where
  pub tokens : ℕ
  pub rules : List Rule
  pub expression : Expression
