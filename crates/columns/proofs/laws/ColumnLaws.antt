-- Entries of a column, one a class or one an item: how many there are, what stands at a place, and how many parts a tag tells. Which sets or
-- which order are made of them is not asked here.
use Rattle.std.specs.Prelude.{◌≡◌, refl, ℕ, ◌+◌, length, drop, get_or}
use Rattle.std.proofs.Common.{sym, ap, ap₂, ◌∙◌, add-zero, length-append, get_or-drop}
use mathlib.Core.List.{List, [], ◌∷◌, ◌++◌, flat_map}
use Rattle.basics.specs.Lists.{sum}
use Rattle.sheet.specs.Items.{RegexItem, empty_item, class_item, concat_item, union_item, star_item, item_classes, regex_parts}
use Rattle.sheet.specs.laws.RegexItems.{regex_tag}
use Rattle.columns.specs.Holds.{low_of, high_of}
use Rattle.columns.specs.Tags.{parts_of}

-- From place p on, the list goes on with what g gives for each item.
abbrev pub Starts : (RegexItem → List ℕ) → List ℕ → ℕ → List RegexItem → Type 0
Starts g l p is = (rest : List ℕ) × (drop p l ≡ flat_map g is ++ rest)

pub low_one : (i : RegexItem) → length (low_of i) ≡ item_classes i
unfolding low_of item_classes
low_one empty_item = refl
low_one (class_item low high) = refl
low_one concat_item = refl
low_one union_item = refl
low_one star_item = refl

pub high_one : (i : RegexItem) → length (high_of i) ≡ item_classes i
unfolding high_of item_classes
high_one empty_item = refl
high_one (class_item low high) = refl
high_one concat_item = refl
high_one union_item = refl
high_one star_item = refl

pub entries : (g : RegexItem → List ℕ) → ((i : RegexItem) → length (g i) ≡ item_classes i) → (is : List RegexItem)
    → length (flat_map g is) ≡ sum item_classes is
unfolding flat_map
entries g one [] = refl
entries g one (i ∷ is) = length-append (g i) (flat_map g is) ∙ ap₂ ◌+◌ (one i) (entries g one is)

-- The entry at a place.
pub entry : (l : List ℕ) (p x : ℕ) (rest : List ℕ) → drop p l ≡ x ∷ rest → get_or l p 0 ≡ x
entry l p x rest e = ap (λ (i : ℕ). get_or l i 0) (sym (add-zero p)) ∙ sym (get_or-drop p l 0 0) ∙ ap (λ (m : List ℕ). get_or m 0 0) e

-- An item has as many parts as its tag says.
pub tag_parts : (i : RegexItem) → parts_of (regex_tag i) ≡ regex_parts i
unfolding parts_of regex_tag regex_parts
tag_parts empty_item = refl
tag_parts (class_item low high) = refl
tag_parts concat_item = refl
tag_parts union_item = refl
tag_parts star_item = refl
