-- The list of positions that columns hold. Entries past the count are not spoken of.
use Rattle.std.specs.Prelude.{List, [], ◌∷◌, ℕ, zero, suc, get_or}
use Rattle.basics.specs.Bits.{bit}
use Rattle.lexer.specs.Positions.{Position}
use Rattle.columns.specs.declared.PositionColumns.{PositionColumns}

-- Position i, from the columns of low bytes, high bytes, rules and follow sets, and the set of last positions.
unfoldable pub held_position : List ℕ → List ℕ → List ℕ → List ℕ → ℕ → ℕ → Position
held_position low high rule follow last i = record {
  low = get_or low i 0;
  high = get_or high i 0;
  rule = get_or rule i 0;
  last = bit last i;
  follow = get_or follow i 0;
}

-- So many positions, from position i on.
unfoldable pub held_from : List ℕ → List ℕ → List ℕ → List ℕ → ℕ → ℕ → ℕ → List Position
held_from low high rule follow last i zero = []
held_from low high rule follow last i (suc n) =
    held_position low high rule follow last i ∷ held_from low high rule follow last (suc i) n

-- All positions of some columns.
unfoldable pub held_positions : PositionColumns → List Position
held_positions c = held_from c.low c.high c.rule c.follow c.last 0 c.count
