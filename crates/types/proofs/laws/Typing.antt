-- "its expression has a type under the published typing rules": questions 8 to 10 find no fault if and only if some annotation
-- passes. What the types say of languages is not asked here.
use Rattle.std.specs.Prelude.{◌≡◌, refl, List, [], ◌∷◌, ◌↔◌, ℕ, suc, ◌≤◌, ◌<◌, length}
use Rattle.std.proofs.Math.Path.{sym}
use Rattle.std.proofs.Common.{subst, ◌∙◌}
use Rattle.std.proofs.Math.Option.{none}
use Rattle.sheet.specs.Limits.{most_tokens}
use Rattle.sheet.specs.Expression.{Expression, size}
use Rattle.sheet.specs.Sheet.{Sheet}
use Rattle.sheet.specs.WellFormed.{Closed, WithinLimits}
use Rattle.types.specs.Types.{LanguageType, bottom_type, Operation, sequence_type, Typed, ◌⊢◌∶◌, HasType}
use Rattle.types.specs.Nodes.{Node, bottom_node, nodes, node_at}
use Rattle.types.specs.LeastTypes.{type_of, least_types}
use Rattle.types.specs.Questions.{type_fault}
use Rattle.types.specs.LeastSolution.{◌⊑◌}
use Rattle.types.specs.Solutions.{Solves}
use Rattle.types.proofs.laws.LeastTypeLaws.{types_long, least_below, least_solves}
use Rattle.types.proofs.laws.EachFrom.{EachFrom, each_member, member_each, each_map}
use Rattle.types.proofs.laws.QuestionLaws.{PassesAt, passes_falls, no_fault_iff}
use Rattle.types.proofs.laws.TypedAt.{TypedAt, typed_derivation, annotated}
use Rattle.types.proofs.laws.LaidOut.{Listed}
use Rattle.types.proofs.laws.NodeLaws.{Solved, nodes-length, solved_each, each_solved}
use Rattle.types.proofs.laws.TypedNodes.{no_more, Holds, nodes_typed, typed_nodes}

pub least_types-length : (e : Expression) → length (least_types e) ≡ size e
unfolding least_types nodes
least_types-length e = types_long (nodes e) ∙ nodes-length e 0 []

-- A derivation's own types, with any operation for the sequence: they solve the equations, and every node passes.
module _ (op : Operation) (e : Expression) {a : LanguageType} (d : Typed op [] e a) where
  pub given : List LanguageType
  given = a ∷ (annotated d).below

  given_listed : EachFrom (Listed given) 0 given
  given_listed = member_each (Listed given) bottom_type given (λ n l. refl)

  given_length : length given ≡ length (nodes e)
  unfolding given nodes
  given_length = (annotated d).long ∙ sym (nodes-length e 0 [])

  pub given_holds : EachFrom (Holds op given) 0 (nodes e)
  unfolding given nodes
  given_holds = typed_nodes op given e 0 no_more ((annotated d).holds given 0 given_listed)

-- So the least types are below them and pass where they pass.
module _ (e : Expression) {a : LanguageType} (d : [] ⊢ e ∶ a) where
  abbrev own : List LanguageType
  own = given sequence_type e d

  own_holds : EachFrom (Holds sequence_type own) 0 (nodes e)
  own_holds = given_holds sequence_type e d

  own_solves : Solves (nodes e) own
  own_solves = each_solved (nodes e) own (given_length sequence_type e d)
      (each_map (Holds sequence_type own) (Solved own) (λ n x h. h.equation) 0 (nodes e) own_holds)

  -- The least type of an expression is below each type that it has.
  pub least_type_below : type_of (least_types e) 0 ⊑ a
  unfolding given
  least_type_below = least_below e own own_solves 0

  -- A derivation's types: a solution at which every node passes.
  pub typed_solution : (types : List LanguageType) × Solves (nodes e) types × EachFrom (PassesAt types) 0 (nodes e)
  typed_solution = (own, own_solves, each_map (Holds sequence_type own) (PassesAt own) (λ n x h. h.passes) 0 (nodes e) own_holds)

  pub least_passes : EachFrom (PassesAt (least_types e)) 0 (nodes e)
  least_passes = each_map (Holds sequence_type own) (PassesAt (least_types e))
      (λ n x h. passes_falls (least_types e) own (least_below e own own_solves) n x h.passes) 0 (nodes e) own_holds

  pub typed_no_fault : type_fault e ≡ none
  unfolding type_fault
  typed_no_fault = (no_fault_iff (least_types e) (nodes e) 0).1 least_passes

each_both : (types : List LanguageType) (p : ℕ) (ns : List Node) → EachFrom (Solved types) p ns
    → EachFrom (PassesAt types) p ns → EachFrom (Holds sequence_type types) p ns
each_both types p [] h k = tt
each_both types p (x ∷ ns) h k = (record { equation = h.0; passes = k.0 }, each_both types (suc p) ns h.1 k.1)

-- No fault: the least types are a derivation, at every node.
module _ (tokens : ℕ) (within : tokens ≤ most_tokens) (e : Expression) (closed : Closed tokens 0 e) where
  no_fault_each : type_fault e ≡ none → EachFrom (Holds sequence_type (least_types e)) 0 (nodes e)
  unfolding type_fault
  no_fault_each none_found =
      each_both (least_types e) 0 (nodes e) (solved_each (nodes e) (least_types e) (least_solves tokens within e closed))
      ((no_fault_iff (least_types e) (nodes e) 0).0 none_found)

  pub no_fault_typed_at : type_fault e ≡ none → TypedAt sequence_type (least_types e) e 0 []
  unfolding nodes
  no_fault_typed_at none_found = nodes_typed sequence_type (least_types e) e 0 no_more (no_fault_each none_found)

  -- The same, by place in the list of nodes.
  pub no_fault_holds : type_fault e ≡ none → (n : ℕ) → n < size e → Holds sequence_type (least_types e) n (node_at (nodes e) n)
  unfolding nodes
  no_fault_holds none_found n l = each_member (Holds sequence_type (least_types e)) bottom_node (nodes e) (no_fault_each none_found) n
      (subst (λ k. n < k) (sym (nodes-length e 0 [])) l)

  pub no_fault_typed : type_fault e ≡ none → [] ⊢ e ∶ type_of (least_types e) 0
  no_fault_typed none_found = typed_derivation sequence_type (least_types e) e 0 [] (no_fault_typed_at none_found)

  pub typed_iff : (type_fault e ≡ none) ↔ HasType e
  typed_iff = (λ none_found. (type_of (least_types e) 0, no_fault_typed none_found), λ d. typed_no_fault e d.1)

-- For a sheet.
pub sheet_typed_iff : (s : Sheet) → WithinLimits s → (type_fault s.expression ≡ none) ↔ HasType s.expression
sheet_typed_iff s limits = typed_iff s.tokens limits.tokens_most s.expression limits.closed
