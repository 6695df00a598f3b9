-- The rules of a kind, in their order, and a part of a column. What a word rule is, is the lexer's to say.
use Rattle.std.specs.Prelude.{Bool, not, cond, true, List, [], ℕ, ◌-◌, take, drop}
use Rattle.basics.specs.Lists.{filter}
use Rattle.sheet.specs.Sheet.{Rule}
use Rattle.lexer.specs.RuleOrder.{word_rule}

-- A kind is the word rules, or the others.
abbrev pub of_kind : Bool → Rule → Bool
of_kind words r = cond words (word_rule r) (not (word_rule r))

abbrev pub kind_of : Bool → List Rule → List Rule
kind_of words rules = filter (of_kind words) rules

-- The kind that comes before it in the image.
abbrev pub kind_before : Bool → List Rule → List Rule
kind_before words rules = cond words [] (kind_of true rules)

-- The entries from a place up to another, or none where they are not wanted.
unfoldable pub part : Bool → ℕ → ℕ → List ℕ → List ℕ
part wanted begin end l = cond wanted (take (end - begin) (drop begin l)) []
