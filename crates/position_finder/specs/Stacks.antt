-- A stack in an array, whatever its members are, and the flags of question 7: which regexes have the empty word. Sets of positions are
-- not spoken of here.
use Rattle.std.specs.Prelude.{◌≡◌, Bool, ◌&&◌, ◌||◌, not, cond, ℕ, suc, ◌+◌, ◌≤◌, eqb, length, take, get_or}
use mathlib.Core.List.{List, [], ◌∷◌, map, flat_map}
use Rattle.std.proofs.Math.Option.{Option, none, some}
use Rattle.sheet.specs.Regex.{Regex}
use Rattle.sheet.specs.laws.RegexItems.{regex_items_of, regex_tag}

-- The tags are those of the regexes in prefix order.
pub record TagsHeld (tags : List ℕ) (items : ℕ) (rs : List Regex) : Type 0 where
  pub nodes : items ≡ length (flat_map regex_items_of rs)
  pub nodes_fit : items ≤ 256
  pub tags_held : take items tags ≡ map regex_tag (flat_map regex_items_of rs)

-- The members from the top down; two entries lie below the last.
abbrev pub Stacked : {A : Type 0} → A → List A → List A → Type 0
Stacked unused stack [] = Unit
Stacked unused stack (a ∷ l) = (get_or stack (2 + length l) unused ≡ a) × Stacked unused stack l

-- By the tag: whether an item's regex has the empty word, where r and s say so of the next two.
unfoldable pub flag_of : ℕ → Bool → Bool → Bool
flag_of tag r s = cond (eqb tag 2) (r && s) (cond (eqb tag 3) (r || s) (not (eqb tag 1)))

-- The number of the first flag that is up; the first one has number k.
unfoldable pub first_up : List Bool → ℕ → Option ℕ
first_up [] k = none
first_up (b ∷ l) k = cond b (some k) (first_up l (suc k))
