-- The items of a regex in prefix order, and that items make regexes which have just these items. Bytes are not named here.
use Rattle.std.specs.Prelude.{ℕ}
use mathlib.Core.List.{List, [], ◌∷◌, ◌++◌}
use Rattle.sheet.specs.Regex.{Regex, empty, class, concat, union, star}
use Rattle.sheet.specs.Items.{RegexItem, empty_item, class_item, concat_item, union_item, star_item}

-- ---- definitions

-- A regex in prefix order: its own item, then those of its parts.
unfoldable pub regex_items_of : Regex → List RegexItem
regex_items_of empty = empty_item ∷ []
regex_items_of (class low high) = class_item low high ∷ []
regex_items_of (concat r s) = concat_item ∷ (regex_items_of r ++ regex_items_of s)
regex_items_of (union r s) = union_item ∷ (regex_items_of r ++ regex_items_of s)
regex_items_of (star r) = star_item ∷ regex_items_of r

-- The tag of an item.
unfoldable pub regex_tag : RegexItem → ℕ
regex_tag empty_item = 0
regex_tag (class_item low high) = 1
regex_tag concat_item = 2
regex_tag union_item = 3
regex_tag star_item = 4
