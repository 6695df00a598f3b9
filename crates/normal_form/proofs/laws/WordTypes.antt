-- What a node's words begin with is in its type, by any solution of the equations, whether the expression has a type or not: NULL if the
-- empty word is one, and in FIRST the token that begins one. So a node with a word has a type that is not that of ⊥.
use Rattle.std.specs.Prelude.{List, [], ◌∷◌, ◌++◌, ℕ}
use Rattle.std.proofs.Math.Path.{refl, subst}
use Rattle.std.proofs.Common.{sym, inl, inr}
use Rattle.basics.proofs.laws.BitLaws.{∈_self}
use Rattle.sheet.specs.Expression.{Expression}
use Rattle.types.specs.Denotation.{followed_by}
use Rattle.types.specs.NodeLanguages.{language_of}
use Rattle.types.specs.Types.{LanguageType, epsilon_type, token_type, sequence_type, repetition_type_with}
use Rattle.types.specs.LeastSolution.{◌⊑◌}
use Rattle.types.specs.TypeNames.{TypeHas}
use Rattle.types.proofs.laws.BottomTypeLaws.{has_not_bottom}
use Rattle.types.proofs.laws.SequenceTypeLaws.{sequence_null, sequence_first_left, sequence_first_right}
use Rattle.types.proofs.laws.TypeLaws.{above_left, above_right}
use Rattle.types.specs.Nodes.{Node, epsilon_node, bottom_node, token_node, sequence_node, alternative_node, fixed_point_node, variable_node, repetition_node, nodes, node_at}
use Rattle.types.specs.LeastTypes.{type_of, node_type, node_type_with}
use Rattle.types.specs.Solutions.{Solves}
use Rattle.types.proofs.laws.LeastTypeLaws.{solved_at}
use Rattle.normal_form.proofs.laws.NodeLanguages.{node_language, languages_least}

has_rises : {a b : LanguageType} → a ⊑ b → (w : List ℕ) → TypeHas a w → TypeHas b w
has_rises p [] h = p.null_rises h
has_rises p (t ∷ w) h = p.first_rises t h

sequence_has : (a b : LanguageType) (u v : List ℕ) → TypeHas a u → TypeHas b v → TypeHas (sequence_type a b) (u ++ v)
sequence_has a b [] [] x y = sequence_null a b x y
sequence_has a b [] (t ∷ v) x y = sequence_first_right a b t x y
sequence_has a b (t ∷ u) v x y = sequence_first_left a b t (has_not_bottom b v y) x

module _ (types : List LanguageType) where
  abbrev HasAt : ℕ → List ℕ → Type 0
  HasAt n w = TypeHas (type_of types n) w

  followed_has : (l r : ℕ) (w : List ℕ) → followed_by (HasAt l) (HasAt r) w → TypeHas (sequence_type (type_of types l) (type_of types r)) w
  followed_has l r w h = subst (TypeHas (sequence_type (type_of types l) (type_of types r))) (sym h.2)
      (sequence_has (type_of types l) (type_of types r) h.0 h.1 h.3 h.4)

  node_has : (x : Node) (w : List ℕ) → node_language HasAt x w → TypeHas (node_type types x) w
  unfolding node_type_with repetition_type_with epsilon_type token_type
  node_has epsilon_node w h = subst (TypeHas epsilon_type) (sym h) refl
  node_has bottom_node w h = absurd h
  node_has (token_node k) w h = subst (TypeHas (token_type k)) (sym h) (∈_self k)
  node_has (sequence_node l r) w h = followed_has l r w h
  node_has (alternative_node l r) w (inl h) = has_rises (above_left (type_of types l) (type_of types r)) w h
  node_has (alternative_node l r) w (inr h) = has_rises (above_right (type_of types l) (type_of types r)) w h
  node_has (fixed_point_node b) w h = h
  node_has (variable_node f guarded) w h = h
  node_has (repetition_node b self) w (inl h) =
      has_rises (above_left epsilon_type (sequence_type (type_of types b) (type_of types self))) w (subst (TypeHas epsilon_type) (sym h) refl)
  node_has (repetition_node b self) w (inr h) =
      has_rises (above_right epsilon_type (sequence_type (type_of types b) (type_of types self))) w (followed_has b self w h)

pub words_in_types : (e : Expression) (types : List LanguageType) → Solves (nodes e) types → (n : ℕ) (w : List ℕ)
    → language_of e n w → TypeHas (type_of types n) w
words_in_types e types s = languages_least e (HasAt types)
    (λ n w h. subst (λ (a : LanguageType). TypeHas a w) (sym (solved_at (nodes e) types s n)) (node_has types (node_at (nodes e) n) w h))
