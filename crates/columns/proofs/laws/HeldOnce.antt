-- Columns hold at most one expression.
use Rattle.std.specs.Prelude.{◌≡◌, refl, cond, List, [], ◌∷◌, ◌++◌, map, ℕ, eqb, length}
use Rattle.std.proofs.Common.{sym, ap, ap₂, ◌∙◌, arith}
use Rattle.sheet.specs.Expression.{Expression}
use Rattle.sheet.specs.Items.{ExpressionItem, epsilon_item, bottom_item, token_item, sequence_item, alternative_item, fixed_point_item, variable_item, repetition_item, expressions}
use Rattle.sheet.specs.laws.ExpressionItems.{expression_items_of, expression_tag}
use Rattle.sheet.proofs.laws.ExpressionItems.{expressions_items}
use Rattle.columns.specs.Holds.{number_after, NodesOf}
use Rattle.columns.specs.declared.NodeColumns.{NodeColumns}

-- The item with this tag and number.
item_of : ℕ → ℕ → ExpressionItem
item_of tag number =
    cond (eqb tag 0) epsilon_item
    (cond (eqb tag 1) bottom_item
    (cond (eqb tag 2) (token_item number)
    (cond (eqb tag 3) sequence_item
    (cond (eqb tag 4) alternative_item
    (cond (eqb tag 5) fixed_point_item
    (cond (eqb tag 6) (variable_item number)
    (cond (eqb tag 7) repetition_item bottom_item)))))))

item_back : (i : ExpressionItem) → item_of (expression_tag i) (number_after i) ≡ i
unfolding item_of expression_tag number_after
item_back epsilon_item = refl
item_back bottom_item = refl
item_back (token_item k) = refl
item_back sequence_item = refl
item_back alternative_item = refl
item_back fixed_point_item = refl
item_back (variable_item n) = refl
item_back repetition_item = refl

items_same : (k l : List ExpressionItem) → map expression_tag k ≡ map expression_tag l → map number_after k ≡ map number_after l → k ≡ l
items_same [] [] e f = refl
items_same [] (j ∷ l) e f = absurd (omega (arith, ap length e))
items_same (i ∷ k) [] e f = absurd (omega (arith, ap length e))
items_same (i ∷ k) (j ∷ l) e f = ap₂ ◌∷◌ head (items_same k l (cc) (cc))
  where
    tags : expression_tag i ≡ expression_tag j
    tags = cc

    numbers : number_after i ≡ number_after j
    numbers = cc

    head : i ≡ j
    head = sym (item_back i) ∙ ap₂ item_of tags numbers ∙ item_back j

same_items : (g h : Expression) → expression_items_of g ≡ expression_items_of h → g ≡ h
same_items g h e =
    let both : g ∷ expressions [] ≡ h ∷ expressions [] =
    sym (expressions_items g []) ∙ ap (λ (l : List ExpressionItem). expressions (l ++ [])) e ∙ expressions_items h [] in
    cc

pub held_once : (c : NodeColumns) (g h : Expression) (places others : List ℕ) → NodesOf c g places → NodesOf c h others → g ≡ h
held_once c g h places others p q = same_items g h (items_same (expression_items_of g) (expression_items_of h)
    (sym p.tags_held ∙ q.tags_held) (sym p.numbers_held ∙ q.numbers_held))
