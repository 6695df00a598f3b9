-- "Every sheet that passed still passes": an expression that has a type with the flap paper's operation for the sequence has one with the
-- typing paper's. The old derivation's types lie above what the equations give from them, so the least types are below them, and side
-- conditions that held hold of smaller types.
use Rattle.std.specs.Prelude.{◌≡◌, List, [], length}
use Rattle.std.proofs.Common.{sym, ⊎_elim}
use Rattle.std.proofs.Math.Path.{subst}
use Rattle.std.proofs.Math.Option.{none}
use Rattle.std.proofs.Math.ListN.{get_or-eq_default}
use Rattle.basics.proofs.laws.Order.{lt-or-le}
use Rattle.sheet.specs.Expression.{Expression}
use Rattle.sheet.specs.Sheet.{Sheet}
use Rattle.sheet.specs.WellFormed.{WithinLimits}
use Rattle.types.specs.Types.{LanguageType, epsilon_type, bottom_type, token_type, flap_sequence_type, alternative_type, repetition_type_with, Typed, HasType}
use Rattle.types.specs.FlapTyping.{HadType}
use Rattle.types.specs.Nodes.{Node, epsilon_node, bottom_node, token_node, sequence_node, alternative_node, fixed_point_node, variable_node, repetition_node, nodes, node_at}
use Rattle.types.specs.LeastTypes.{type_of, node_type, node_type_with, least_types}
use Rattle.types.specs.Questions.{type_fault}
use Rattle.types.specs.LeastSolution.{◌⊑◌}
use Rattle.types.specs.Solutions.{next_types, AllBelow}
use Rattle.types.proofs.laws.TypeLaws.{⊑_refl, bottom_least, sequence_below, alternative_rises}
use Rattle.types.proofs.laws.LeastTypeLaws.{type_of-next, types_below}
use Rattle.types.proofs.laws.EachFrom.{EachFrom, each_member, each_map}
use Rattle.types.proofs.laws.QuestionLaws.{PassesAt, passes_falls, no_fault_iff}
use Rattle.types.proofs.laws.TypedNodes.{Holds}
use Rattle.types.proofs.laws.Typing.{given, given_holds, sheet_typed_iff}

-- At every node the typing paper's equation gives no more than the flap paper's.
node_type_less : (types : List LanguageType) (x : Node) → node_type types x ⊑ node_type_with flap_sequence_type types x
unfolding node_type_with repetition_type_with
node_type_less types epsilon_node = ⊑_refl epsilon_type
node_type_less types bottom_node = ⊑_refl bottom_type
node_type_less types (token_node t) = ⊑_refl (token_type t)
node_type_less types (sequence_node l r) = sequence_below (type_of types l) (type_of types r)
node_type_less types (alternative_node l r) = ⊑_refl (alternative_type (type_of types l) (type_of types r))
node_type_less types (fixed_point_node b) = ⊑_refl (type_of types b)
node_type_less types (variable_node f guarded) = ⊑_refl (type_of types f)
node_type_less types (repetition_node b self) =
    alternative_rises (⊑_refl epsilon_type) (sequence_below (type_of types b) (type_of types self))

module _ (e : Expression) {a : LanguageType} (d : Typed flap_sequence_type [] e a) where
  abbrev old : List LanguageType
  old = given flap_sequence_type e d

  old_holds : EachFrom (Holds flap_sequence_type old) 0 (nodes e)
  old_holds = given_holds flap_sequence_type e d

  old_above : AllBelow (next_types (nodes e) old) old
  unfolding node_type_with
  old_above n = subst (λ b. b ⊑ type_of old n) (sym (type_of-next (nodes e) old n)) (⊎_elim
      (λ l. subst (λ b. node_type old (node_at (nodes e) n) ⊑ b)
      (sym (each_member (Holds flap_sequence_type old) bottom_node (nodes e) old_holds n l).equation) (node_type_less old (node_at (nodes e) n)))
      (λ l. subst (λ x. node_type old x ⊑ type_of old n) (sym (get_or-eq_default (nodes e) bottom_node {n = n} l)) (bottom_least (type_of old n)))
      (lt-or-le n (length (nodes e))))

  -- The least types are below those that it had,
  least_below_old : AllBelow (least_types e) old
  unfolding least_types
  least_below_old = types_below (nodes e) old old_above

  -- and no question fails at them.
  no_fault_still : type_fault e ≡ none
  unfolding type_fault
  no_fault_still = (no_fault_iff (least_types e) (nodes e) 0).1 (each_map (Holds flap_sequence_type old) (PassesAt (least_types e))
      (λ n x h. passes_falls (least_types e) old least_below_old n x h.passes) 0 (nodes e) old_holds)

pub has_type_still : (s : Sheet) → WithinLimits s → HadType s.expression → HasType s.expression
has_type_still s limits h = (sheet_typed_iff s limits).0 (no_fault_still s.expression h.1)
