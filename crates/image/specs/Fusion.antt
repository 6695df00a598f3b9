-- "Next, fusion replaces each token by every rule that returns it; a token without rules loses its productions."
-- Figure 6 of the flap paper without its lexing: which rule matches is the machine's to find.
use Rattle.std.specs.Prelude.{List, [], ◌∷◌, map, ℕ, zero, suc}
use Rattle.std.proofs.Math.Option.{none, some}
use Rattle.sheet.specs.Sheet.{Rule}
use Rattle.normal_form.specs.Productions.{Production, Row, production_of}

-- The productions by rule, from rule r on, in rising order: a rule has the production of the token that it returns, if there is one. An
-- action of 0 skips; k + 1 returns token k.
unfoldable pub fused_from : List Rule → ℕ → List Production → List Production
fused_from [] r ps = []
fused_from (rule ∷ rules) r ps =
    let others = fused_from rules (suc r) ps in
    elim rule.action [ zero ↦ others | suc k ↦ elim (production_of k ps) [ none ↦ others | some p ↦ record { head = r; tail = p.tail } ∷ others ] ]

unfoldable pub fused : List Rule → List Row → List Row
fused rules = map (λ row. record { has_epsilon = row.has_epsilon; productions = fused_from rules 0 row.productions })
