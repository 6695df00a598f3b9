-- Positions are the byte classes, in the order of the rules that are given. "First, last and follow are the usual ones: where a match may
-- begin, where it may end, which position may come next." A set of positions is one number. A regex's own positions start at a base.
use Rattle.std.specs.Prelude.{Bool, true, false, ◌&&◌, ◌||◌, cond, List, [], ◌∷◌, ◌++◌, ℕ, suc, ◌+◌, ◌^◌}
use Rattle.std.proofs.Math.Option.{Option, none, some}
use Rattle.std.specs.Int.Bits.{bit_or}
use Rattle.basics.specs.Bits.{bit}
use Rattle.sheet.specs.Regex.{Regex, empty, class, concat, union, star, class_count}
use Rattle.sheet.specs.Sheet.{Rule}

-- Whether the empty word is a word: question 7 turns such a rule down.
unfoldable pub nullable : Regex → Bool
nullable empty = true
nullable (class low high) = false
nullable (concat r s) = nullable r && nullable s
nullable (union r s) = nullable r || nullable s
nullable (star r) = true

-- Where a word may begin.
unfoldable pub first : Regex → ℕ → ℕ
first empty base = 0
first (class low high) base = 2 ^ base
first (concat r s) base = bit_or (first r base) (cond (nullable r) (first s (base + class_count r)) 0)
first (union r s) base = bit_or (first r base) (first s (base + class_count r))
first (star r) base = first r base

-- Where a word may end.
unfoldable pub last : Regex → ℕ → ℕ
last empty base = 0
last (class low high) base = 2 ^ base
last (concat r s) base = bit_or (cond (nullable s) (last r base) 0) (last s (base + class_count r))
last (union r s) base = bit_or (last r base) (last s (base + class_count r))
last (star r) base = last r base

-- Which positions may come next after p.
unfoldable pub follow : Regex → ℕ → ℕ → ℕ
follow empty base p = 0
follow (class low high) base p = 0
follow (concat r s) base p =
    bit_or (bit_or (follow r base p) (follow s (base + class_count r) p)) (cond (bit (last r base) p) (first s (base + class_count r)) 0)
follow (union r s) base p = bit_or (follow r base p) (follow s (base + class_count r) p)
follow (star r) base p = bit_or (follow r base p) (cond (bit (last r base) p) (first r base) 0)

-- "per position (a byte class, in sheet order) low, high, rule, last (0 or 1), follow set". From request [4] on an image has them in the order of
-- its rules, and within a rule as in the sheet.
pub record Position : Type 0 where
  pub low : ℕ
  pub high : ℕ
  pub rule : ℕ
  pub last : Bool
  pub follow : ℕ

-- The positions of a part of a rule's regex: `whole` is the rule's regex, whose positions start at `base`; the part's own start
-- at p.
unfoldable pub part_positions : Regex → ℕ → ℕ → Regex → ℕ → List Position
part_positions whole base k empty p = []
part_positions whole base k (class low high) p =
    record { low = low; high = high; rule = k; last = bit (last whole base) p; follow = follow whole base p } ∷ []
part_positions whole base k (concat r s) p = part_positions whole base k r p ++ part_positions whole base k s (p + class_count r)
part_positions whole base k (union r s) p = part_positions whole base k r p ++ part_positions whole base k s (p + class_count r)
part_positions whole base k (star r) p = part_positions whole base k r p

-- The positions of all rules, from rule k on, whose positions start at a base.
unfoldable pub positions_from : List Rule → ℕ → ℕ → List Position
positions_from [] k base = []
positions_from (r ∷ rs) k base =
    part_positions r.regex base k r.regex base ++ positions_from rs (suc k) (base + class_count r.regex)

unfoldable pub positions : List Rule → List Position
positions rules = positions_from rules 0 0

-- Where a match of any rule may begin.
unfoldable pub first_from : List Rule → ℕ → ℕ
first_from [] base = 0
first_from (r ∷ rs) base = bit_or (first r.regex base) (first_from rs (base + class_count r.regex))

unfoldable pub first_positions : List Rule → ℕ
first_positions rules = first_from rules 0

-- "Does every rule match only non-empty words?": the first rule, from k on, that matches the empty one.
unfoldable pub empty_match : List Rule → ℕ → Option ℕ
empty_match [] k = none
empty_match (r ∷ rs) k = cond (nullable r.regex) (some k) (empty_match rs (suc k))
