-- What the columns of a grammar hold of a sheet's rules and typed expression; what a numbering holds
-- of the nodes met, how it starts, and what it is after one more node. That the code's results are so
-- is proved elsewhere.
use Rattle.std.specs.Prelude.{◌≡◌, cond, List, [], ◌∷◌, map, ℕ, ◌+◌, ◌≤◌, ◌<◌, leb, ltb, get_or, length, take, set, replicate}
use Rattle.std.proofs.Math.Option.{Option, none, some}
use Rattle.basics.specs.Bits.{bit}
use Rattle.sheet.specs.Expression.{Expression, size}
use Rattle.sheet.specs.Limits.{most_rules}
use Rattle.sheet.specs.Sheet.{Rule}
use Rattle.types.specs.LeastTypes.{type_of, least_types}
use Rattle.production_finder.specs.Columns.{ColumnsOf}
use Rattle.basics.specs.Meeting.{is_met, number_of}
use Rattle.node_numbering.specs.declared.Grammar.{Grammar}
use Rattle.node_numbering.specs.declared.Numbering.{Numbering}

-- The columns are those of some rules and of a typed expression of a sheet.
pub record GrammarOf (g : Grammar) (rules : List Rule) (e : Expression) : Type 0 where
  pub rule_count : g.rules ≡ length rules
  pub rules_most : length rules ≤ most_rules
  pub actions_held : take g.rules g.action ≡ map (λ rule. rule.action) rules
  pub columns : ColumnsOf g.tag g.link g.first e
  pub null_held : (n : ℕ) → n < size e → bit g.null n ≡ (type_of (least_types e) n).null

-- The members of a tail that was found; none where none was.
unfoldable pub members_of : Option (List ℕ) → List ℕ
members_of none = []
members_of (some tail) = tail

-- A numbering holds the nodes met, in order, and the number of each. A node that was not met has the entry 64.
pub record Numbers (c : Numbering) (met : List ℕ) : Type 0 where
  pub count : c.count ≡ length met
  pub nodes : take c.count c.met ≡ met
  pub numbers : (n : ℕ) → n < 64 → get_or c.number n 0 ≡ cond (is_met n met) (number_of met n) 64

-- A numbering has room for 64 nodes, and no more have been met.
pub record Within (c : Numbering) : Type 0 where
  pub count : c.count ≤ 64
  pub met : length c.met ≡ 64
  pub number : length c.number ≡ 64

-- The columns of a numbering together.
abbrev pub numbering_of : ℕ → List ℕ → List ℕ → Numbering
numbering_of count met number = record { count = count; met = met; number = number }

-- Only node 0 has been met. The entries of `met` behind the first are 0.
unfoldable pub start_numbering : Numbering
start_numbering = numbering_of 1 (replicate 64 0) (0 ∷ replicate 63 64)

-- A numbering after a node was met. A new node stands behind the others, and its number is how many
-- they are. Nothing changes where n is 64 or more, where its number is below 64, or where the count is
-- 64 or more.
unfoldable pub numbering_after : Numbering → ℕ → Numbering
numbering_after c n = cond (leb 64 n) c (cond (ltb (get_or c.number n 0) 64) c (cond (leb 64 c.count) c
    (numbering_of (c.count + 1) (set c.met c.count n) (set c.number n c.count))))
