-- `image_writer::grammar_of` meets its contract.
use mathlib.Core.Path.{sym, subst}
use Rattle.node_numbering.specs.Grammar.{GrammarOf}
use Rattle.image_writer.proofs.Endings.{grammar_held}
use Rattle.image_writer.proofs.grammar_of.Goals as goal

pub returns : goal.returns
returns c =
    let k = c.args.checked in
    λ s h. subst (λ g. GrammarOf g s.rules s.expression) (sym c.grammar_from.ensures) (grammar_held s k h)
