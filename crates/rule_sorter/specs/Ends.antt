-- Where the rule ends whose items stand from a place of the columns on, and what an item's tag tells for it. What a word rule is, is the
-- lexer's to say.
use Rattle.std.specs.Prelude.{◌≡◌, Bool, not, ◌&&◌, cond, List, [], ◌∷◌, ℕ, suc, ◌+◌, ◌<◌, eqb, length, get_or}
use Rattle.basics.specs.Lists.{sum}
use Rattle.sheet.specs.Regex.{Regex}
use Rattle.sheet.specs.Items.{RegexItem, empty_item, class_item, concat_item, union_item, star_item, item_classes}
use Rattle.sheet.specs.laws.RegexItems.{regex_items_of, regex_tag}
use Rattle.lexer.specs.RuleOrder.{is_word}
use Rattle.rule_sorter.specs.declared.RuleEnd.{RuleEnd}

-- By the tag: how many classes an item is, and whether it may stand in a word rule, where low and high are its bytes if it is a class.
unfoldable pub classes_of : ℕ → ℕ
classes_of tag = cond (eqb tag 1) 1 0

unfoldable pub word_item : ℕ → ℕ → ℕ → Bool
word_item tag low high = cond (eqb tag 1) (eqb low high) (not (eqb tag 3) && not (eqb tag 4))

-- A class has its bytes at this place.
abbrev pub BytesAt : List ℕ → List ℕ → ℕ → RegexItem → Type 0
BytesAt low high class empty_item = Unit
BytesAt low high class (class_item a b) = (class < 64) × (get_or low class 0 ≡ a) × (get_or high class 0 ≡ b)
BytesAt low high class concat_item = Unit
BytesAt low high class union_item = Unit
BytesAt low high class star_item = Unit

-- These items stand in the columns, from an item and a class on.
abbrev pub ItemsAt : List ℕ → List ℕ → List ℕ → ℕ → ℕ → List RegexItem → Type 0
ItemsAt tag low high item class [] = Unit
ItemsAt tag low high item class (i ∷ is) =
    (item < 256) × (get_or tag item 0 ≡ regex_tag i) × BytesAt low high class i
    × ItemsAt tag low high (suc item) (class + item_classes i) is

-- The end of a rule with this regex, which begins at an item and a class.
unfoldable pub rule_end : Regex → ℕ → ℕ → RuleEnd
rule_end r item class = record {
  word = is_word r;
  item = item + length (regex_items_of r);
  class = class + sum item_classes (regex_items_of r);
}
