-- `sheet_checker::in_image_order` meets its contract.
use Rattle.sheet_checker.proofs.Ordered.{ordered_parts}
use Rattle.sheet_checker.proofs.in_image_order.Goals as goal

pub words_first-rules-requires : goal.words_first-rules-requires
words_first-rules-requires c = let w = c.requires in (w.0.rules, w.1.places, w.1.rules_held)

pub returns : goal.returns
returns c = λ s h. ordered_parts s c.args.checked h _ (c.words_first-rules.ensures s.rules h.places h.rules_held)
