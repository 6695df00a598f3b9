-- `production_finder::production` meets its contract: one law for each answer.
use borrow.Author.Rules.{rules}
use mathlib.Core.Path.{◌≡◌, sym, ◌∙◌}
use lib.ListN.{length}
use Rattle.production_finder.proofs.Joined.{right_outside, right_found}
use Rattle.production_finder.proofs.production.Goals as goal

pub returns-then-not-begins-clause-same : goal.returns-then-not-begins-clause-same
returns-then-not-begins-clause-same c = λ e h l. right_outside _ _ _ e h _ _ l (sym c.begins.ensures ∙ c.if-not-begins.true)

pub returns-clause-same : goal.returns-clause-same
returns-clause-same c =
    let w = c.walk-walked in
    let full : length w.result.rights ≡ 64 = search rules in
    λ e h l. right_found _ _ _ e h _ _ l (sym c.begins.ensures ∙ c.if-not-begins.false) c.tail_of.result w.result
    (w.ensures.same h.guarded) full c.tail_of.ensures.same
