-- What the two answers say: the rule that question 7's names, and that columns hold the sheet's positions and first set.
-- Which rule that is, and what the positions are, is the lexer's to say.
use Rattle.std.specs.Prelude.{◌≡◌, List, ℕ, length, Option, Some, None}
use Rattle.std.proofs.Math.Option as maybe
use Rattle.sheet.specs.Sheet.{Rule}
use Rattle.lexer.specs.Positions.{positions, first_positions}
use Rattle.columns.specs.declared.PositionColumns.{PositionColumns}
use Rattle.columns.specs.HeldPositions.{held_positions}

-- The rule that each answer names.
abbrev pub empty_rule : Option ℕ → maybe.Option ℕ
empty_rule None = maybe.none
empty_rule (Some k) = maybe.some k

pub record PositionsOf (rules : List Rule) (c : PositionColumns) : Type 0 where
  pub positions_held : held_positions c ≡ positions rules
  pub count_held : c.count ≡ length (positions rules)
  pub first_held : c.first ≡ first_positions rules
