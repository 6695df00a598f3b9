-- What the columns of a sheet's rules give: positions in range, and all that the loop over the text relies on.
use mathlib.Core.Path.{◌≡◌, sym, ap, ◌∙◌, subst}
use mathlib.Core.List.{List}
use Prim.Native.Nat.{ℕ, ◌≤◌}
use lib.ListN.{length, take, length-map}
use Rattle.sheet.specs.Sheet.{Rule, Sheet}
use Rattle.lexer.specs.Positions.{Position}
use Rattle.lexer.specs.laws.PositionBounds.{PositionsInRange}
use Rattle.lexer.proofs.laws.PositionBounds.{positions_in_range}
use Rattle.columns.specs.Holds.{RulesOf}
use Rattle.columns.specs.HeldPositions.{held_positions}
use Rattle.columns.specs.declared.RuleColumns.{RuleColumns}
use Rattle.columns.specs.declared.PositionColumns.{PositionColumns}
use Rattle.position_finder.specs.Answer.{PositionsOf}
use Rattle.scanner.specs.Meaning.{Prepared}
use Rattle.token_lister.specs.Listing.{RulesPassed, RulesReady}

module _ (s : Sheet) (rules : RuleColumns) (passed : RulesPassed s rules) (p : PositionColumns)
    (held : (rs : List Rule) (places : List ℕ) → RulesOf rules rs places → PositionsOf rs p) where
  of_sheet : PositionsOf s.rules p
  of_sheet = held s.rules passed.places passed.rules_held

  pub in_range : (n : ℕ) × (n ≤ 32) × PositionsInRange n (held_positions p) p.first
  in_range = (
    length s.rules,
    passed.limits.rules_most,
    rw (of_sheet.positions_held, of_sheet.first_held) (positions_in_range s passed.limits passed.no_empty),
  )

  pub rules_ready : (tables : List ℕ) → Prepared (held_positions p) p.last tables
      → RulesReady s.rules rules.action tables p.last p.first
  rules_ready tables prepared =
      let h = passed.rules_held in
      let count : rules.count ≡ length s.rules = h.rules ∙ length-map s.rules (λ r. r.action) in
      record {
        few = passed.limits.rules_most;
        actions_held = ap (λ (n : ℕ). take n rules.action) (sym count) ∙ h.actions_held;
        prepared = subst (λ (ps : List Position). Prepared ps p.last tables) of_sheet.positions_held prepared;
        first_held = of_sheet.first_held;
      }
