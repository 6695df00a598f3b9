-- `read_rule` meets its contract.
use Rattle.std.proofs.Common.{rules, ◌≡◌, Err}
use native.Mathlib.Omega.{arith}
use mathlib.Core.Path.{sym, ◌∙◌}
use Rattle.image_reader.proofs.Fields.{field_range}
use Rattle.image_reader.proofs.Productions.{rule_stops, rule_skips, rule_passes}
use Rattle.image_reader.proofs.read_rule.Goals as goal

pub returns-in_err-rule : goal.returns-in_err-rule
returns-in_err-rule c =
    let up : c.from_residual.result ≡ Err c.in_err-rule.field-0.0 = search rules in
    rw up (sym (rule_stops _ _ _ _ _ (sym c.in_err-rule.ensures)))

pub has-requires : goal.has-requires
has-requires c = omega (arith, field_range _ _ _ _ (sym c.in_ok-rule.ensures))

pub returns-then-has : goal.returns-then-has
returns-then-has c = sym (rule_skips _ _ _ _ _ (sym c.in_ok-rule.ensures) (sym c.has.ensures ∙ c.if-has.true))

pub returns : goal.returns
returns c = sym (rule_passes _ _ _ _ _ (sym c.in_ok-rule.ensures) (sym c.has.ensures ∙ c.if-has.false))
