-- Lists of nodes by place: their length, the nodes of a part, and a solution of the equations taken node by node.
use Rattle.std.specs.Prelude.{◌≡◌, refl, List, ◌++◌, ℕ, suc, ◌+◌, length}
use Rattle.std.proofs.Common.{sym, ap, ap₂, subst, ◌∙◌, arith, length-append, ext_get_or}
use Rattle.std.proofs.lemmas.List.{length-map}
use Rattle.sheet.specs.Expression.{Expression, epsilon, bottom, token, sequence, alternative, fixed_point, variable, repetition, size}
use Rattle.types.specs.Types.{LanguageType, bottom_type, Operation, sequence_type}
use Rattle.types.specs.Nodes.{Node, bottom_node, Binder, nodes_from}
use Rattle.types.specs.LeastTypes.{type_of, node_type, node_type_with}
use Rattle.types.specs.Solutions.{next_types}
use Rattle.types.proofs.laws.LeastTypeLaws.{type_of-next, solved_at}
use Rattle.types.specs.Solutions.{Solves}
use Rattle.types.proofs.laws.EachFrom.{EachFrom, each_right, each_append, each_member, member_each}

-- Solutions, node by node.
abbrev pub SolvedWith : Operation → List LanguageType → ℕ → Node → Type 0
SolvedWith op types p x = type_of types p ≡ node_type_with op types x

abbrev pub Solved : List LanguageType → ℕ → Node → Type 0
Solved = SolvedWith sequence_type

pub solved_each : (ns : List Node) (types : List LanguageType) → Solves ns types → EachFrom (Solved types) 0 ns
solved_each ns types s = member_each (Solved types) bottom_node ns (λ n l. solved_at ns types s n)

pub each_solved : (ns : List Node) (types : List LanguageType) → length types ≡ length ns
    → EachFrom (Solved types) 0 ns → Solves ns types
each_solved ns types long h = ext_get_or bottom_type types (next_types ns types) (long ∙ sym (length-map ns (node_type types)))
    (λ n l. each_member (Solved types) bottom_node ns h n (omega arith) ∙ sym (type_of-next ns types n))

pub nodes-length : (g : Expression) (p : ℕ) (binders : List Binder) → length (nodes_from g p binders) ≡ size g
unfolding nodes_from size
nodes-length epsilon p binders = refl
nodes-length bottom p binders = refl
nodes-length (token k) p binders = refl
nodes-length (sequence g h) p binders =
    ap suc (length-append (nodes_from g (suc p) binders) _ ∙ ap₂ ◌+◌ (nodes-length g (suc p) binders) (nodes-length h (suc p + size g) _))
    ∙ omega arith
nodes-length (alternative g h) p binders =
    ap suc (length-append (nodes_from g (suc p) binders) _ ∙ ap₂ ◌+◌ (nodes-length g (suc p) binders) (nodes-length h (suc p + size g) _))
    ∙ omega arith
nodes-length (fixed_point g) p binders = ap suc (nodes-length g (suc p) _) ∙ omega arith
nodes-length (variable n) p binders = refl
nodes-length (repetition g) p binders = ap suc (nodes-length g (suc p) _) ∙ omega arith

-- The nodes of the right part stand behind those of the left.
module _ (P : ℕ → Node → Type 0) (g : Expression) (p : ℕ) (binders : List Binder) (rest : List Node) where
  pub right_nodes : EachFrom P p (nodes_from g p binders ++ rest) → EachFrom P (p + size g) rest
  right_nodes h = subst (λ n. EachFrom P (p + n) rest) (nodes-length g p binders) (each_right P p (nodes_from g p binders) rest h)

  pub both_nodes : EachFrom P p (nodes_from g p binders) → EachFrom P (p + size g) rest → EachFrom P p (nodes_from g p binders ++ rest)
  both_nodes h k = each_append P p (nodes_from g p binders) rest h (subst (λ n. EachFrom P (p + n) rest) (sym (nodes-length g p binders)) k)
