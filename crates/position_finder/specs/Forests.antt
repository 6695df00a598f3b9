-- Regexes that stand one after the other, each with its positions after those before it: their sets together, the arrays that hold
-- them, and the arrays that are changed on the way.
use Rattle.std.specs.Prelude.{◌≡◌, ◌&&◌, cond, false, List, [], ◌∷◌, ℕ, suc, ◌+◌, ◌≤◌, ◌<◌, leb, ltb, length, get_or}
use Rattle.std.specs.Int.Bits.{bit_or}
use Rattle.basics.specs.Bits.{bit}
use Rattle.basics.specs.Lists.{sum}
use Rattle.sheet.specs.Regex.{Regex, class_count}
use Rattle.lexer.specs.Positions.{first, last, follow}
use Rattle.position_finder.specs.declared.Sets.{Sets}
use Rattle.position_finder.specs.declared.Forest.{Forest}
use Rattle.position_finder.specs.declared.RuleSets.{RuleSets}
use Rattle.position_finder.specs.Stacks.{TagsHeld, Stacked}
use Rattle.position_finder.specs.Nodes.{sets_of}

-- ---- sets of several regexes

unfoldable pub all_sets : List Regex → ℕ → List Sets
all_sets [] base = []
all_sets (r ∷ rs) base = sets_of r base ∷ all_sets rs (base + class_count r)

unfoldable pub all_first : List Regex → ℕ → ℕ
all_first [] base = 0
all_first (r ∷ rs) base = bit_or (first r base) (all_first rs (base + class_count r))

unfoldable pub all_last : List Regex → ℕ → ℕ
all_last [] base = 0
all_last (r ∷ rs) base = bit_or (last r base) (all_last rs (base + class_count r))

unfoldable pub all_follow : List Regex → ℕ → ℕ → ℕ
all_follow [] base p = 0
all_follow (r ∷ rs) base p = bit_or (follow r base p) (all_follow rs (base + class_count r) p)

-- The number of the regex that position p belongs to; the first has number k.
unfoldable pub owner : List Regex → ℕ → ℕ → ℕ → ℕ
owner [] k base p = k
owner (r ∷ rs) k base p = cond (ltb p (base + class_count r)) k (owner rs (suc k) (base + class_count r) p)

-- ---- a list changed in place

-- Of a list whose places count from i, the members at the places from a up to e are changed by f.
unfoldable pub changed : ℕ → ℕ → (ℕ → ℕ → ℕ) → ℕ → List ℕ → List ℕ
changed a e f i [] = []
changed a e f i (x ∷ l) = cond (leb a i && ltb i e) (f i x) x ∷ changed a e f (suc i) l

-- Follow sets, where `next` now follows each position of `from`.
abbrev pub joined : ℕ → ℕ → List ℕ → List ℕ
joined from next l = changed 0 64 (λ i x. bit_or x (cond (bit from i) next 0)) 0 l

-- k at the places from a up to e.
abbrev pub filled : ℕ → ℕ → ℕ → List ℕ → List ℕ
filled a e k l = changed a e (λ i x. k) 0 l

-- ---- what code holds

abbrev pub unused : Sets
unused = record { nullable = false; first = 0; last = 0; end = 0 }

-- The tags are those of the regexes, which have so many classes.
pub record RegexesHeld (tags : List ℕ) (items classes : ℕ) (rs : List Regex) : Type 0 where
  pub held : TagsHeld tags items rs
  pub classes_counted : classes ≡ sum class_count rs
  pub classes_fit : classes ≤ 64

pub record RulesStacked (stack : List Sets) (count : ℕ) (rs : List Regex) : Type 0 where
  pub stacked : Stacked unused stack (all_sets rs 0)
  pub rules : count ≡ length rs
  pub classes_fit : sum class_count rs ≤ 64

pub record RuleSetsOf (rs : List Regex) (r : RuleSets) : Type 0 where
  pub firsts : r.first ≡ all_first rs 0
  pub lasts : r.last ≡ all_last rs 0
  pub owners : (p : ℕ) → p < sum class_count rs → get_or r.rule p 0 ≡ owner rs 0 0 p

pub record ForestOf (rs : List Regex) (f : Forest) : Type 0 where
  pub gathered : RuleSetsOf rs f.sets
  pub follows : (p : ℕ) → p < 64 → get_or f.follow p 0 ≡ all_follow rs 0 p
