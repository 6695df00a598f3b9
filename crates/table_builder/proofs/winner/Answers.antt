-- `winner` meets its contract, by the rule that is lowest.
use mathlib.Core.Path.{◌≡◌, ap, ◌∙◌}
use Prim.Native.Nat.{ℕ}
use Rattle.std.specs.Prelude.{Option, Some, None}
use Rattle.std.specs.Option.{MatchOption}
use Rattle.lexer.specs.Table.{rule_or_none}
use Rattle.scanner.specs.Meaning.{rule_of}
use Rattle.table_builder.proofs.winner.Goals as goal

number_of_rule : (o : Option ℕ) (x : ℕ) → MatchOption o (x ≡ 32) (λ rule. x ≡ rule) → x ≡ rule_or_none (rule_of o)
unfolding rule_or_none rule_of
number_of_rule None x h = h
number_of_rule (Some rule) x h = h

pub returns : goal.returns
returns c = number_of_rule c.lowest_rule-ended.result _ c.map_or.ensures ∙ ap rule_or_none c.lowest_rule-ended.ensures
