-- What holds of every well-formed sheet: it keeps the page's ranges and limits. Facts for the laws: which bytes are a sheet is said by its
-- format (SheetFormat), and that such a sheet is so in ReadingLaws.
use Rattle.std.specs.Prelude.{ℕ, suc, ◌≤◌, ◌<◌, length}
use Rattle.basics.specs.Lists.{All, sum}
use Rattle.sheet.specs.Limits.{most_tokens, most_rules, most_classes, most_regex_nodes, most_expression_nodes}
use Rattle.sheet.specs.Regex.{Regex, empty, class, concat, union, star, regex_nodes, class_count}
use Rattle.sheet.specs.Expression.{Expression, epsilon, bottom, token, sequence, alternative, fixed_point, variable, repetition, size}
use Rattle.sheet.specs.Sheet.{Rule, Sheet}

-- "its low byte (0 to 255) and high byte (low to 255)"
abbrev pub BytesInRange : Regex → Type 0
BytesInRange empty = Unit
BytesInRange (class low high) = (low ≤ high) × (high ≤ 255)
BytesInRange (concat r s) = BytesInRange r × BytesInRange s
BytesInRange (union r s) = BytesInRange r × BytesInRange s
BytesInRange (star r) = BytesInRange r

-- Every token is below the token count, and every variable counts fixed points that are open where it stands:
-- `Closed tokens open g` for an expression g inside so many open fixed points.
abbrev pub Closed : ℕ → ℕ → Expression → Type 0
Closed tokens opened epsilon = Unit
Closed tokens opened bottom = Unit
Closed tokens opened (token k) = k < tokens
Closed tokens opened (sequence g h) = Closed tokens opened g × Closed tokens opened h
Closed tokens opened (alternative g h) = Closed tokens opened g × Closed tokens opened h
Closed tokens opened (fixed_point g) = Closed tokens (suc opened) g
Closed tokens opened (variable n) = n < opened
-- "is no fixed point in a variable's count"
Closed tokens opened (repetition g) = Closed tokens opened g

-- "action (0 skips, k + 1 returns token k, k below T), then a regex"
pub record RuleInRange (tokens : ℕ) (r : Rule) : Type 0 where
  pub action_allowed : r.action ≤ tokens
  pub bytes_allowed : BytesInRange r.regex

-- "token count T, 1 to 24; rule count R, 1 to 32", the fields of its rules and its expression, and
-- "at most 64 byte classes and 256 regex nodes over all rules, 64 expression nodes"
pub record WithinLimits (s : Sheet) : Type 0 where
  pub tokens_least : 1 ≤ s.tokens
  pub tokens_most : s.tokens ≤ most_tokens
  pub rules_least : 1 ≤ length s.rules
  pub rules_most : length s.rules ≤ most_rules
  pub rules_allowed : All (RuleInRange s.tokens) s.rules
  pub regex_nodes_most : sum (λ r. regex_nodes r.regex) s.rules ≤ most_regex_nodes
  pub classes_most : sum (λ r. class_count r.regex) s.rules ≤ most_classes
  pub closed : Closed s.tokens 0 s.expression
  pub nodes_most : size s.expression ≤ most_expression_nodes
