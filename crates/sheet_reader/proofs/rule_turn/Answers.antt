-- `sheet_reader::rule_turn` meets its contract.
use mathlib.Core.Path.{◌∙◌}
use Rattle.sheet_reader.proofs.RuleTurns.{turn_action, turn_node}
use Rattle.sheet_reader.proofs.rule_turn.Goals as goal

pub returns-then-due-eq0 : goal.returns-then-due-eq0
returns-then-due-eq0 c =
    c.action_turn.ensures ∙ turn_action c.args.sheet.now _ _ _ _ _ _ c.if-due-eq0.true

pub returns : goal.returns
returns c =
    c.regex_turn.ensures ∙ turn_node c.args.sheet.now _ _ _ _ _ _ c.if-due-eq0.false
