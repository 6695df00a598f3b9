-- `sheet_reader::numbered_turn` meets its contract.
use mathlib.Core.Path.{sym, ap, ◌∙◌}
use Rattle.sheet_reader.specs.Turns.{numbered_answer}
use Rattle.sheet_reader.proofs.Told.{passed_on}
use Rattle.sheet_reader.proofs.Fields.{answer-got, answer_unfit}
use Rattle.sheet_reader.proofs.numbered_turn.Goals as goal

pub returns : goal.returns
unfolding numbered_answer
returns c = ap (numbered_answer _) (sym (answer-got _ (sym c.read_field.ensures ∙ c.in_ok-number.was)))

pub returns-in_err-number : goal.returns-in_err-number
unfolding numbered_answer
returns-in_err-number c = passed_on _ c.from_residual.ensures.1 ∙ ap (numbered_answer _) (sym (answer_unfit _ (sym c.read_field.ensures ∙ c.in_err-number.was)))
