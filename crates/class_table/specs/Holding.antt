-- What the lexer's tables hold while an image is read: the edges of the positions' classes, their follow sets and their rules. That a sweep makes
-- of them what the scanner relies on is a law.
use Rattle.std.specs.Prelude.{◌≡◌, Bool, false, cond, ◌&&◌, List, ℕ, ◌+◌, ◌%◌, ◌≤◌, ◌<◌, ltb, length, get_or}
use Rattle.std.specs.Int.Bits.{bit_xor}
use Rattle.basics.specs.Bits.{bit}
use Rattle.lexer.specs.Positions.{Position}
use Rattle.class_table.specs.Filling.{edge, swept}

abbrev pub position : ℕ → ℕ → ℕ → Bool → ℕ → Position
position low high rule last follow = record { low = low; high = high; rule = rule; last = last; follow = follow }

abbrev pub no_position : Position
no_position = position 0 0 0 false 0

-- One class has toggled a set; the words past the class table are as they were.
pub record Toggled (t : List ℕ) (set low high : ℕ) (t' : List ℕ) : Type 0 where
  pub size : length t' ≡ 448
  pub entries : (b : ℕ) → b < 256 → get_or t' b 0 ≡ bit_xor (get_or t b 0) (cond (edge low high b) set 0)
  pub others : (k : ℕ) → 256 ≤ k → get_or t' k 0 ≡ get_or t k 0

-- Position n has joined, given as a set too: its class has toggled, its follow set and its rule stand at their words, and all other words are
-- as they were.
pub record Joined (t : List ℕ) (low high rule follow n set : ℕ) (t' : List ℕ) : Type 0 where
  pub size : length t' ≡ 448
  pub entries : (b : ℕ) → b < 256 → get_or t' b 0 ≡ bit_xor (get_or t b 0) (cond (edge low high b) set 0)
  pub follow_set : get_or t' (256 + n) 0 ≡ follow
  pub rule_word : get_or t' (320 + n) 0 ≡ rule
  pub others : (k : ℕ) → 256 ≤ k → (k ≡ 256 + n → ⊥) → (k ≡ 320 + n → ⊥) → get_or t' k 0 ≡ get_or t k 0

-- The tables hold these positions, the classes by their edges.
pub record Holding (ps : List Position) (t : List ℕ) : Type 0 where
  pub edges : (b j : ℕ) → b < 256
      → bit (get_or t b 0) j ≡ (ltb j (length ps) && edge (get_or ps j no_position).low (get_or ps j no_position).high b)
  pub follow_sets : (k : ℕ) → k < length ps → get_or t (256 + k) 0 ≡ (get_or ps k no_position).follow
  pub rules : (k : ℕ) → k < length ps → get_or t (320 + k) 0 % 256 ≡ (get_or ps k no_position).rule

-- The sweep has gone over the class table.
pub record SweptOver (t t' : List ℕ) : Type 0 where
  pub size : length t' ≡ 448
  pub entries : (b : ℕ) → b < 256 → get_or t' b 0 ≡ swept t b
  pub others : (k : ℕ) → 256 ≤ k → get_or t' k 0 ≡ get_or t k 0
