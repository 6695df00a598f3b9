-- The items of an expression in prefix order, and that items make expressions which have just these items. Bytes are not named here.
use Rattle.std.specs.Prelude.{◌≡◌, refl, length, get_or}
use Rattle.std.proofs.Common.{sym, ◌∙◌, arith, length-append}
use Rattle.std.proofs.Math.Path.{ap}
use mathlib.Core.List.{List, [], ◌∷◌, ◌++◌, append_assoc, append-nil, flat_map}
use Prim.Native.Nat.{ℕ, suc}
use Rattle.sheet.specs.Expression.{Expression, epsilon, bottom, token, sequence, alternative, fixed_point, variable, repetition, size}
use Rattle.sheet.specs.Items.{ExpressionItem, epsilon_item, bottom_item, token_item, sequence_item, alternative_item}
use Rattle.sheet.specs.Items.{fixed_point_item, variable_item, repetition_item, part_depths, expression_before, expressions}
use Rattle.sheet.specs.laws.ExpressionItems.{expression_items_of}

-- ---- what the items of an expression count

pub expression_items_length : (g : Expression) → length (expression_items_of g) ≡ size g
unfolding expression_items_of size
expression_items_length epsilon = refl
expression_items_length bottom = refl
expression_items_length (token k) = refl
expression_items_length (sequence g h) =
    omega (arith, length-append (expression_items_of g) (expression_items_of h), expression_items_length g, expression_items_length h)
expression_items_length (alternative g h) =
    omega (arith, length-append (expression_items_of g) (expression_items_of h), expression_items_length g, expression_items_length h)
expression_items_length (fixed_point g) = omega (arith, expression_items_length g)
expression_items_length (variable n) = refl
expression_items_length (repetition g) = omega (arith, expression_items_length g)

-- ---- items to trees and back

-- The trees of an expression's items, with other items after them: that expression, then the others' trees.
pub expressions_items : (g : Expression) (is : List ExpressionItem) → expressions (expression_items_of g ++ is) ≡ g ∷ expressions is
unfolding expression_items_of expressions expression_before
expressions_items epsilon is = refl
expressions_items bottom is = refl
expressions_items (token k) is = refl
expressions_items (sequence g h) is =
    let a = append_assoc (expression_items_of g) (expression_items_of h) is in
    rw (a, expressions_items g (expression_items_of h ++ is), expressions_items h is)
expressions_items (alternative g h) is =
    let a = append_assoc (expression_items_of g) (expression_items_of h) is in
    rw (a, expressions_items g (expression_items_of h ++ is), expressions_items h is)
expressions_items (fixed_point g) is = rw (expressions_items g is)
expressions_items (variable n) is = refl
expressions_items (repetition g) is = rw (expressions_items g is)

-- The expressions that items make: as many as were due, and with just these items.
pub record MadeExpressions (due : ℕ) (is : List ExpressionItem) (gs : List Expression) : Type 0 where
  pub many : length gs ≡ due
  pub same_items : flat_map expression_items_of gs ≡ is

-- An item before the expressions that follow it.
module _ (due : ℕ) (is : List ExpressionItem) (i : ExpressionItem) where
  leaf_made : (g : Expression) → expression_items_of g ≡ i ∷ [] → (gs : List Expression)
      → MadeExpressions due is gs → MadeExpressions (suc due) (i ∷ is) (g ∷ gs)
  unfolding flat_map
  leaf_made g items gs m = record {
    many = ap suc m.many;
    same_items = ap (λ l. l ++ flat_map expression_items_of gs) items ∙ ap (λ l. i ∷ l) m.same_items;
  }

  one_made : (make : Expression → Expression) → ((g : Expression) → expression_items_of (make g) ≡ i ∷ expression_items_of g)
      → ((g : Expression) (gs : List Expression) → expression_before i (g ∷ gs) ≡ make g ∷ gs)
      → (gs : List Expression) → MadeExpressions (suc due) is gs → MadeExpressions (suc due) (i ∷ is) (expression_before i gs)
  unfolding flat_map
  one_made make items before [] m = absurd (omega (arith, m.many))
  one_made make items before (g ∷ gs) m = rw (before g gs) record {
    many = m.many;
    same_items = ap (λ l. l ++ flat_map expression_items_of gs) (items g) ∙ ap (λ l. i ∷ l) m.same_items;
  }

  two_made : (make : Expression → Expression → Expression)
      → ((g h : Expression) → expression_items_of (make g h) ≡ i ∷ (expression_items_of g ++ expression_items_of h))
      → ((g h : Expression) (gs : List Expression) → expression_before i (g ∷ h ∷ gs) ≡ make g h ∷ gs)
      → (gs : List Expression) → MadeExpressions (suc (suc due)) is gs → MadeExpressions (suc due) (i ∷ is) (expression_before i gs)
  unfolding flat_map
  two_made make items before [] m = absurd (omega (arith, m.many))
  two_made make items before (g ∷ []) m = absurd (omega (arith, m.many))
  two_made make items before (g ∷ h ∷ gs) m = rw (before g h gs) record {
    many = omega (arith, m.many);
    same_items = ap (λ l. l ++ flat_map expression_items_of gs) (items g h)
        ∙ ap (λ l. i ∷ l) (append_assoc (expression_items_of g) (expression_items_of h) (flat_map expression_items_of gs) ∙ m.same_items);
  }

pub expression_item-made : (i : ExpressionItem) (opened : ℕ) (due : List ℕ) (is : List ExpressionItem) (gs : List Expression)
    → MadeExpressions (length (part_depths i opened ++ due)) is gs → MadeExpressions (suc (length due)) (i ∷ is) (expression_before i gs)
unfolding part_depths expression_before expression_items_of
expression_item-made epsilon_item opened due is gs m = leaf_made (length due) is epsilon_item epsilon refl gs m
expression_item-made bottom_item opened due is gs m = leaf_made (length due) is bottom_item bottom refl gs m
expression_item-made (token_item k) opened due is gs m = leaf_made (length due) is (token_item k) (token k) refl gs m
expression_item-made sequence_item opened due is gs m =
    two_made (length due) is sequence_item sequence (λ g h. refl) (λ g h rest. refl) gs m
expression_item-made alternative_item opened due is gs m =
    two_made (length due) is alternative_item alternative (λ g h. refl) (λ g h rest. refl) gs m
expression_item-made fixed_point_item opened due is gs m = one_made (length due) is fixed_point_item fixed_point (λ g. refl) (λ g rest. refl) gs m
expression_item-made (variable_item n) opened due is gs m = leaf_made (length due) is (variable_item n) (variable n) refl gs m
expression_item-made repetition_item opened due is gs m = one_made (length due) is repetition_item repetition (λ g. refl) (λ g rest. refl) gs m

-- Where one was due, they are the items of that one.
pub one_expression : (is : List ExpressionItem) (gs : List Expression) → MadeExpressions 1 is gs → expression_items_of (get_or gs 0 bottom) ≡ is
unfolding flat_map
one_expression is [] m = absurd (omega (arith, m.many))
one_expression is (g ∷ []) m = sym (append-nil (expression_items_of g)) ∙ m.same_items
one_expression is (g ∷ h ∷ gs) m = absurd (omega (arith, m.many))
