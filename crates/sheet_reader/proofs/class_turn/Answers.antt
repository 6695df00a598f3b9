-- `sheet_reader::class_turn` meets its contract: each way through it is a way through the definition's byte class.
use mathlib.Core.Path.{sym, ap, ◌∙◌}
use Rattle.sheet_reader.specs.Turns.{node_answer}
use Rattle.sheet_reader.proofs.Told.{passed_on}
use Rattle.sheet_reader.proofs.Fields.{up_to, field-got, field_unfit}
use Rattle.sheet_reader.proofs.RegexTurns.{class_full, class_low, class_high, class_whole}
use Rattle.sheet_reader.proofs.class_turn.Goals as goal

pub returns-then-classes-ge-MOST_CLASSES : goal.returns-then-classes-ge-MOST_CLASSES
unfolding node_answer
returns-then-classes-ge-MOST_CLASSES c = ap node_answer (sym (class_full c.args.sheet.now _ _ _ c.if-classes-ge-MOST_CLASSES.true))

pub returns-in_err-low : goal.returns-in_err-low
unfolding node_answer
returns-in_err-low c =
    let e = field_unfit (up_to 0 255) c.args.sheet.now _ c.read_field.ensures c.in_err-low.was in
    passed_on _ c.from_residual.ensures.1 ∙ ap node_answer (sym (class_low c.args.sheet.now _ _ _ c.if-classes-ge-MOST_CLASSES.false e))

pub returns-in_err-high : goal.returns-in_err-high
unfolding node_answer
returns-in_err-high c =
    let low = field-got (up_to 0 255) c.args.sheet.now _ c.read_field.ensures c.in_ok-low.was in
    let e = field_unfit (up_to _ 255) c.args.sheet.now _ c.read_field-2.ensures c.in_err-high.was in
    passed_on _ c.from_residual-in_err-high.ensures.1 ∙ ap node_answer (sym (class_high c.args.sheet.now _ _ _ c.if-classes-ge-MOST_CLASSES.false low e))

pub returns : goal.returns
unfolding node_answer
returns c =
    let low = field-got (up_to 0 255) c.args.sheet.now _ c.read_field.ensures c.in_ok-low.was in
    let high = field-got (up_to _ 255) c.args.sheet.now _ c.read_field-2.ensures c.in_ok-high.was in
    ap node_answer (sym (class_whole c.args.sheet.now _ _ _ c.if-classes-ge-MOST_CLASSES.false low high))
