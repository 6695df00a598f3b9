-- `sheet_checker::check_rules` meets its contract.
use native.Mathlib.Omega.{arith}
use Rattle.sheet_checker.proofs.Endings.{rule_entry, ends_empty, ends_rules}
use Rattle.sheet_checker.proofs.check_rules.Goals as goal

pub returns-in-Some : goal.returns-in-Some
returns-in-Some c =
    let p = c.empty_rule in
    λ d s. rw (c.from-place.ensures, c.from-at.ensures)
    (ends_empty d c.args.rules c.args.nodes s p.result (p.ensures d.sheet.rules d.action_places s.rules_held) c.in-Some.is)

pub bounds-rules-at : goal.bounds-rules-at
bounds-rules-at c =
    let w = c.requires in
    let p = c.empty_rule in
    omega (
      arith,
      c.from-at.ensures,
      rule_entry w.0 _ _ w.1 p.result (p.ensures w.0.sheet.rules w.0.action_places w.1.rules_held) c.in-Some.is,
    )

pub returns-in-None : goal.returns-in-None
returns-in-None c =
    let p = c.empty_rule in
    λ d s. ends_rules d c.args.rules c.args.nodes s p.result (p.ensures d.sheet.rules d.action_places s.rules_held)
    c.check_expression.result c.in-None.is (c.check_expression.ensures d s)
