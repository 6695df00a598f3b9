-- The numbers of an image, part by part, as the columns give them; and when columns are those of a sheet.
use Rattle.std.specs.Prelude.{◌≡◌, List, [], ◌∷◌, ◌++◌, map, ℕ, eqb, get_or, length, Option}
use Rattle.sheet.specs.Expression.{Expression}
use Rattle.sheet.specs.Sheet.{Rule, Sheet}
use Rattle.normal_form.specs.Productions.{Row, row_of}
use Rattle.normal_form.specs.NormalForm.{normal_form}
use Rattle.production_finder.specs.Columns.{tail_held}
use Rattle.production_finder.specs.declared.Tail.{Tail}
use Rattle.lexer.specs.Positions.{positions, first_positions}
use Rattle.columns.specs.HeldPositions.{held_position, held_positions}
use Rattle.columns.specs.declared.PositionColumns.{PositionColumns}
use Rattle.image.specs.Fusion.{fused_from, fused}
use Rattle.image.specs.laws.FusionLaws.{fused_row}
use Rattle.image.specs.Image.{flag, all_numbers, position_numbers, production_numbers, row_numbers}
use Rattle.image.specs.Numbering.{reached, renumbered}
use Rattle.image.specs.laws.NumberingLaws.{tail_members}
use Rattle.node_numbering.specs.laws.Below.{concat_below}
use Rattle.node_numbering.specs.Grammar.{GrammarOf}
use Rattle.node_numbering.specs.laws.RuleTails.{rule_part}
use Rattle.node_numbering.specs.declared.Grammar.{Grammar}

-- Whether rule i skips, as a number.
unfoldable pub skip_number : Grammar → ℕ → List ℕ
skip_number g i = flag (eqb (get_or g.action i 0) 0) ∷ []

-- "version 1; R; per rule 1 if it skips, else 0"
unfoldable pub rules_part : Grammar → List ℕ
rules_part g = 1 ∷ g.rules ∷ concat_below (skip_number g) g.rules

unfoldable pub position_part : PositionColumns → ℕ → List ℕ
position_part p i = position_numbers (held_position p.low p.high p.rule p.follow p.last i)

-- "position count P; per position ..; first set"
unfoldable pub positions_part : PositionColumns → List ℕ
positions_part p = p.count ∷ (concat_below (position_part p) p.count ++ (p.first ∷ []))

-- A row, with the nodes' numbers among all of them.
unfoldable pub mapped_row : List ℕ → Row → Row
mapped_row all row = record { has_epsilon = row.has_epsilon; productions = map (renumbered all) row.productions }

-- A rule's production, if it has one.
unfoldable pub production_part : List ℕ → ℕ → Option Tail → List ℕ
production_part all r tail = rule_part (λ p. production_numbers (renumbered all p)) r (tail_held tail)

-- All productions of a node's row.
unfoldable pub productions_part : List ℕ → List Rule → Expression → ℕ → List ℕ
productions_part all rules e n =
    all_numbers (λ p. production_numbers (renumbered all p)) (fused_from rules 0 (row_of (normal_form e) n).productions)

-- The nodes in the tails of a node's row.
abbrev pub row_nodes : List Rule → Expression → ℕ → List ℕ
row_nodes rules e n = tail_members (fused_from rules 0 (row_of (normal_form e) n).productions)

-- A node's row.
unfoldable pub row_part : List ℕ → List Rule → Expression → ℕ → List ℕ
row_part all rules e n = row_numbers (mapped_row all (fused_row rules (row_of (normal_form e) n)))

-- The row with number i, of the nodes reached.
abbrev pub numbered_row_part : List ℕ → List Rule → Expression → ℕ → List ℕ
numbered_row_part all rules e i = row_part all rules e (get_or all i 0)

-- "nonterminal count; per nonterminal .."
unfoldable pub rows_part : List Rule → Expression → List ℕ
rows_part rules e =
    let all = reached (fused rules (normal_form e)) in
    length all ∷ concat_below (numbered_row_part all rules e) (length all)

-- The columns are those of a sheet's rules and typed expression.
pub record PartsOf (g : Grammar) (p : PositionColumns) (s : Sheet) : Type 0 where
  pub grammar : GrammarOf g s.rules s.expression
  pub positions_held : held_positions p ≡ positions s.rules
  pub first_held : p.first ≡ first_positions s.rules
