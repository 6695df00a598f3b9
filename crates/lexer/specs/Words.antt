-- "A regex's words: the empty word; one byte of the class, low and high included; a word of the first part, then one of the
-- second; a word of either part; for a star, any number of its part's words in a row."
-- Rules by their numbers, and question 7. What the lexer is to find in a text is said in LongestMatch.
use Rattle.std.specs.Prelude.{◌≡◌, List, [], ◌∷◌, ◌++◌, ℕ, zero, suc, ◌≤◌, ◌<◌}
use Rattle.sheet.specs.Regex.{Regex, empty, class, concat, union, star}
use Rattle.sheet.specs.Sheet.{Rule}

pub data Word : Regex → List ℕ → Type 0 where
  empty_word : Word empty []
  one_byte : {low high b : ℕ} → low ≤ b → b ≤ high → Word (class low high) (b ∷ [])
  one_then_other : {r s : Regex} {u v w : List ℕ} → Word r u → Word s v → w ≡ u ++ v → Word (concat r s) w
  of_first : {r s : Regex} {w : List ℕ} → Word r w → Word (union r s) w
  of_second : {r s : Regex} {w : List ℕ} → Word s w → Word (union r s) w
  star_none : {r : Regex} → Word (star r) []
  star_more : {r : Regex} {u v w : List ℕ} → Word r u → Word (star r) v → w ≡ u ++ v → Word (star r) w

-- Rule k of the rules is r; rules count from 0.
pub data RuleAt : List Rule → ℕ → Rule → Type 0 where
  first_rule : {r : Rule} {rs : List Rule} → RuleAt (r ∷ rs) zero r
  later_rule : {r s : Rule} {rs : List Rule} {k : ℕ} → RuleAt rs k r → RuleAt (s ∷ rs) (suc k) r

-- w is a word of rule k.
abbrev pub WordOf : List Rule → ℕ → List ℕ → Type 0
WordOf rules k w = (r : Rule) × RuleAt rules k r × Word r.regex w

-- "Does every rule match only non-empty words?" No: rule k is the first that has the empty one.
pub record FirstEmptyRule (rules : List Rule) (k : ℕ) : Type 0 where
  pub matches : WordOf rules k []
  pub first : (j : ℕ) → j < k → WordOf rules j [] → ⊥

-- Yes.
abbrev pub NoEmptyRule : List Rule → Type 0
NoEmptyRule rules = (j : ℕ) → WordOf rules j [] → ⊥
