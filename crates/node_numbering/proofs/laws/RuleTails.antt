-- A row's fused productions, rule by rule: the tail that a rule has in a row, and that the rules from the first to the last give
-- the fused row.
use Rattle.std.specs.Prelude.{◌≡◌, length, drop}
use Rattle.std.proofs.Math.Path.{refl, sym, ap}
use Rattle.std.proofs.Common.{◌∙◌, arith, drop_of_length-le, drop-cons}
use mathlib.Core.List.{List, [], ◌∷◌, ◌++◌, map, append_assoc, append-nil, flat_map}
use Rattle.std.proofs.Math.Option.{Option, none, some}
use Prim.Native.Nat.{ℕ, zero, suc, ◌≤◌}
use Rattle.std.proofs.Math.ListN.{get_or}
use Rattle.sheet.specs.Regex.{empty}
use Rattle.sheet.specs.Sheet.{Rule}
use Rattle.normal_form.specs.Productions.{Production, production_of}
use Rattle.image.specs.Fusion.{fused_from}
use Rattle.image.proofs.laws.ByRule.{by_rule}
use Rattle.image.specs.Image.{all_numbers}
use Rattle.image.specs.laws.NumberingLaws.{tail_members}
use Rattle.basics.proofs.laws.Members.{get_or-map-inside}
use Rattle.image.specs.laws.Simulation.{tail_of}
use Rattle.node_numbering.specs.laws.Below.{concat_below}
use Rattle.node_numbering.specs.laws.RuleTails.{action_tail, rule_part}

-- The tail that rule r has in a row.
unfoldable pub rule_tail : List Rule → List Production → ℕ → Option (List ℕ)
rule_tail rules ps r = action_tail (get_or (map (λ rule. rule.action) rules) r 0) ps

module _ (g : Production → List ℕ) (ps : List Production) where
  first_rule_part : (rule : Rule) (rules : List Rule) (r : ℕ)
      → all_numbers g (fused_from (rule ∷ rules) r ps) ≡ rule_part g r (action_tail rule.action ps) ++ all_numbers g
      (fused_from rules (suc r) ps)
  unfolding fused_from rule_part action_tail
  first_rule_part rule rules r = go rule.action
    where
      found : (o : Option Production)
          → all_numbers g (by_rule r o (fused_from rules (suc r) ps)) ≡ rule_part g r (tail_of o) ++ all_numbers g (fused_from rules (suc r) ps)
      found none = refl
      found (some p) = refl

      go : (a : ℕ)
          → all_numbers g (elim a [ zero ↦ fused_from rules (suc r) ps | suc k ↦ by_rule r (production_of k ps) (fused_from rules (suc r) ps) ])
          ≡ rule_part g r (action_tail a ps) ++ all_numbers g (fused_from rules (suc r) ps)
      go zero = refl
      go (suc k) = found (production_of k ps)

  rules_done : (rules : List Rule) (i : ℕ) → i ≤ length rules
      → concat_below (λ r. rule_part g r (rule_tail rules ps r)) i ++ all_numbers g (fused_from (drop i rules) i ps)
      ≡ all_numbers g (fused_from rules 0 ps)
  unfolding concat_below rule_tail
  rules_done rules zero h = refl
  rules_done rules (suc i) h =
      let other : Rule = record { action = 0; regex = empty } in
      let part = rule_part g i (rule_tail rules ps i) in
      let rest = all_numbers g (fused_from (drop (suc i) rules) (suc i) ps) in
      let same : (get_or rules i other).action ≡ get_or (map (λ rule. rule.action) rules) i 0 =
      sym (get_or-map-inside (λ rule. rule.action) rules i other 0 h) in
      append_assoc (concat_below (λ r. rule_part g r (rule_tail rules ps r)) i) part rest
      ∙ ap (λ (l : List ℕ). concat_below (λ r. rule_part g r (rule_tail rules ps r)) i ++ l)
      (sym (ap (λ (l : List Rule). all_numbers g (fused_from l i ps)) (drop-cons rules i other h)
      ∙ first_rule_part (get_or rules i other) (drop (suc i) rules) i
      ∙ ap (λ (a : ℕ). rule_part g i (action_tail a ps) ++ rest) same))
      ∙ rules_done rules i (omega arith)

  -- All rules' parts, in order, are those of the fused row.
  pub fused-parts : (rules : List Rule) → concat_below (λ r. rule_part g r (rule_tail rules ps r)) (length rules) ≡ all_numbers g
      (fused_from rules 0 ps)
  fused-parts rules =
      let all = concat_below (λ r. rule_part g r (rule_tail rules ps r)) (length rules) in
      sym (append-nil all)
      ∙ ap (λ (l : List ℕ). all ++ l) (sym (ap (λ (l : List Rule). all_numbers g (fused_from l (length rules) ps))
      (drop_of_length-le rules {i = length rules} (omega arith)) ∙ (unfold fused_from in refl)))
      ∙ rules_done rules (length rules) (omega arith)

-- The tail members of productions, in order.
pub members_are : (ps : List Production) → all_numbers (λ p. p.tail) ps ≡ tail_members ps
unfolding flat_map
members_are [] = refl
members_are (p ∷ ps) = ap (λ (l : List ℕ). p.tail ++ l) (members_are ps)
