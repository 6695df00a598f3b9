-- Prefix order: a regex and an expression as the items that stand in a sheet, one a node, from the left; and the trees that
-- a list of items makes. Whether a list has the items of whole trees is the reader's to see, not said here.
use Rattle.std.specs.Prelude.{List, [], ◌∷◌, ℕ, suc}
use Rattle.sheet.specs.Regex.{Regex, empty, class, concat, union, star}
use Rattle.sheet.specs.Expression.{Expression, epsilon, bottom, token, sequence, alternative, fixed_point, variable, repetition}

-- One node of a regex without its parts.
pub data RegexItem : Type 0 where
  empty_item : RegexItem
  class_item : ℕ → ℕ → RegexItem
  concat_item : RegexItem
  union_item : RegexItem
  star_item : RegexItem

-- How many parts come after it.
unfoldable pub regex_parts : RegexItem → ℕ
regex_parts empty_item = 0
regex_parts (class_item low high) = 0
regex_parts concat_item = 2
regex_parts union_item = 2
regex_parts star_item = 1

-- How many byte classes it is.
unfoldable pub item_classes : RegexItem → ℕ
item_classes empty_item = 0
item_classes (class_item low high) = 1
item_classes concat_item = 0
item_classes union_item = 0
item_classes star_item = 0

-- An item before the regexes that follow it takes its parts from them. Where they are too few, nothing is made.
unfoldable pub regex_before : RegexItem → List Regex → List Regex
regex_before empty_item rs = empty ∷ rs
regex_before (class_item low high) rs = class low high ∷ rs
regex_before concat_item [] = []
regex_before concat_item (r ∷ []) = []
regex_before concat_item (r ∷ s ∷ rs) = concat r s ∷ rs
regex_before union_item [] = []
regex_before union_item (r ∷ []) = []
regex_before union_item (r ∷ s ∷ rs) = union r s ∷ rs
regex_before star_item [] = []
regex_before star_item (r ∷ rs) = star r ∷ rs

unfoldable pub regexes : List RegexItem → List Regex
regexes [] = []
regexes (i ∷ is) = regex_before i (regexes is)

-- One node of an expression without its parts.
pub data ExpressionItem : Type 0 where
  epsilon_item : ExpressionItem
  bottom_item : ExpressionItem
  token_item : ℕ → ExpressionItem
  sequence_item : ExpressionItem
  alternative_item : ExpressionItem
  fixed_point_item : ExpressionItem
  variable_item : ℕ → ExpressionItem
  repetition_item : ExpressionItem

-- For each part that comes after it: how many fixed points are open there, if so many are open at the item.
unfoldable pub part_depths : ExpressionItem → ℕ → List ℕ
part_depths epsilon_item opened = []
part_depths bottom_item opened = []
part_depths (token_item k) opened = []
part_depths sequence_item opened = opened ∷ opened ∷ []
part_depths alternative_item opened = opened ∷ opened ∷ []
part_depths fixed_point_item opened = suc opened ∷ []
part_depths (variable_item n) opened = []
part_depths repetition_item opened = opened ∷ []

-- An item before the expressions that follow it, as for regexes.
unfoldable pub expression_before : ExpressionItem → List Expression → List Expression
expression_before epsilon_item gs = epsilon ∷ gs
expression_before bottom_item gs = bottom ∷ gs
expression_before (token_item k) gs = token k ∷ gs
expression_before sequence_item [] = []
expression_before sequence_item (g ∷ []) = []
expression_before sequence_item (g ∷ h ∷ gs) = sequence g h ∷ gs
expression_before alternative_item [] = []
expression_before alternative_item (g ∷ []) = []
expression_before alternative_item (g ∷ h ∷ gs) = alternative g h ∷ gs
expression_before fixed_point_item [] = []
expression_before fixed_point_item (g ∷ gs) = fixed_point g ∷ gs
expression_before (variable_item n) gs = variable n ∷ gs
expression_before repetition_item [] = []
expression_before repetition_item (g ∷ gs) = repetition g ∷ gs

unfoldable pub expressions : List ExpressionItem → List Expression
expressions [] = []
expressions (i ∷ is) = expression_before i (expressions is)
