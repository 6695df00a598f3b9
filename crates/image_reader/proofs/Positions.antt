-- Laws of positions: tables with one position more.
use mathlib.Core.Path.{◌≡◌, refl, ap, ◌∙◌}
use mathlib.Core.List.{List, [], ◌∷◌, ◌++◌}
use Prim.Native.Nat.{ℕ, zero, suc, ◌+◌, ◌%◌, ◌≤◌, ◌<◌}
use native.Mathlib.Omega.{arith}
use lib.ListN.{length, get_or, length-append}
use Rattle.basics.specs.Lists.{All}
use Rattle.basics.proofs.laws.Members.{all-append}
use Rattle.basics.specs.Bits.{bit}
use Rattle.lexer.specs.Positions.{Position}
use Rattle.class_table.specs.Holding.{no_position, Holding, SweptOver}
use Rattle.class_table.proofs.laws.HoldingLaws.{swept_prepared}
use Rattle.image_reader.specs.Answers.{with_flag}
use Rattle.image_reader.specs.Decoded.{LexerHeld}
use Rattle.image_reader.specs.Tables.{PositionsHeld, SameBelow}
use Rattle.image_reader.proofs.Flags.{flags_none, flags_more}

-- ---- the tables

pub positions-none : (rules : ℕ) (tables : List ℕ) → Holding [] tables → PositionsHeld rules 0 0 tables []
positions-none rules tables h =
    record { size = refl; held = h; last_ones = flags_none (λ p. p.last) no_position refl; below = tt; ordered = tt }

pub positions-more : (rules i last last' : ℕ) (tables tables' : List ℕ) (ps : List Position) (p : Position)
    → Holding (ps ++ (p ∷ [])) tables' → last' ≡ with_flag last i p.last → p.rule < rules → p.low ≤ p.high
    → PositionsHeld rules i last tables ps → PositionsHeld rules (i + 1) last' tables' (ps ++ (p ∷ []))
positions-more rules i last last' tables tables' ps p h e b o s = record {
  size = length-append ps (p ∷ []) ∙ ap (λ (k : ℕ). k + 1) s.size;
  held = h;
  last_ones = flags_more (λ p. p.last) no_position p last i ps refl s.size s.last_ones e;
  below = all-append (λ p. p.rule < rules) ps (p ∷ []) s.below (b, tt);
  ordered = all-append (λ p. p.low ≤ p.high) ps (p ∷ []) s.ordered (o, tt);
}

all-at : (P : Position → Type 0) (ps : List Position) → All P ps → (k : ℕ) → k < length ps → P (get_or ps k no_position)
all-at P [] h k l = absurd (omega arith)
all-at P (p ∷ ps) h zero l = h.0
all-at P (p ∷ ps) h (suc k) l = all-at P ps h.1 k (omega arith)

-- What is stored past the lexer's words leaves the positions.
holding_same : (ps : List Position) (t t' : List ℕ) → length ps ≤ 64 → SameBelow 384 t t' → Holding ps t → Holding ps t'
holding_same ps t t' few same h = record {
  edges = λ b j l. ap (λ (x : ℕ). bit x j) (same b (omega arith)) ∙ h.edges b j l;
  follow_sets = λ k l. same (256 + k) (omega arith) ∙ h.follow_sets k l;
  rules = λ k l. ap (λ (x : ℕ). x % 256) (same (320 + k) (omega arith)) ∙ h.rules k l;
}

-- After the sweep, the tables hold the positions as the scanner relies on it.
pub positions-swept : (rules count last : ℕ) (t t' t'' : List ℕ) (ps : List Position) → PositionsHeld rules count last t ps → count ≤ 64
    → SameBelow 384 t t' → SweptOver t' t'' → LexerHeld ps last t''
positions-swept rules count last t t' t'' ps h most same swept never =
    let few : length ps ≤ 64 = omega (arith, h.size) in
    swept_prepared ps t' t'' last (holding_same ps t t' few same h.held) swept few (all-at (λ p. p.low ≤ p.high) ps h.ordered)
    (λ k m. h.last_ones k) never
