-- The items of an expression in prefix order, and that items make expressions which have just these items. Bytes are not named here.
use mathlib.Core.List.{List, [], ◌∷◌, ◌++◌}
use Prim.Native.Nat.{ℕ}
use Rattle.sheet.specs.Expression.{Expression, epsilon, bottom, token, sequence, alternative, fixed_point, variable, repetition}
use Rattle.sheet.specs.Items.{ExpressionItem, epsilon_item, bottom_item, token_item, sequence_item, alternative_item}
use Rattle.sheet.specs.Items.{fixed_point_item, variable_item, repetition_item}

-- ---- definitions

-- An expression in prefix order: its own item, then those of its parts.
unfoldable pub expression_items_of : Expression → List ExpressionItem
expression_items_of epsilon = epsilon_item ∷ []
expression_items_of bottom = bottom_item ∷ []
expression_items_of (token k) = token_item k ∷ []
expression_items_of (sequence g h) = sequence_item ∷ (expression_items_of g ++ expression_items_of h)
expression_items_of (alternative g h) = alternative_item ∷ (expression_items_of g ++ expression_items_of h)
expression_items_of (fixed_point g) = fixed_point_item ∷ expression_items_of g
expression_items_of (variable n) = variable_item n ∷ []
expression_items_of (repetition g) = repetition_item ∷ expression_items_of g

-- The tag of an item.
unfoldable pub expression_tag : ExpressionItem → ℕ
expression_tag epsilon_item = 0
expression_tag bottom_item = 1
expression_tag (token_item k) = 2
expression_tag sequence_item = 3
expression_tag alternative_item = 4
expression_tag fixed_point_item = 5
expression_tag (variable_item n) = 6
expression_tag repetition_item = 7
