-- `type_checker::raise` meets its contract: whether the type changed is told of the type that the node had and of the grown one.
use mathlib.Core.Path.{◌≡◌, ap, ap₂, sym, ◌∙◌}
use mathlib.Core.Bool.{not}
use native.Mathlib.Omega.{arith}
use borrow.Author.Rules.{rules}
use Rattle.types.specs.Types.{alternative_type}
use Rattle.types.specs.LeastTypes.{same_type}
use Rattle.type_checker.specs.laws.TypeBy.{type_by}
use Rattle.type_checker.specs.Found.{language_type, type_in, linked_node}
use Rattle.type_checker.proofs.Loops.{Long, raised_stored, stored_here, test_same}
use Rattle.type_checker.proofs.raise.Goals as goal
use Rattle.type_checker.proofs.raise.Goals.{After-ne}

long : (c : After-ne) → Long c.args.types.now
long c = record { first_long = search rules; flast_long = search rules }

grown_is : (c : After-ne) → let z = c.args in language_type c.alternative_type-grown.result
    ≡ alternative_type (type_in z.types.now z.i) (type_by (type_in z.types.now) (linked_node z.links.now z.i))
grown_is c = c.alternative_type-grown.ensures ∙ ap₂ alternative_type c.type_at-own.ensures c.node_type-step.ensures

pub returns-clause-raised : goal.returns-clause-raised
returns-clause-raised c =
    raised_stored c.args.links.now c.args.types.now c.args.i c.alternative_type-grown.result _ c.with-types.ensures
    (omega (arith, c.requires.links_fit.count_fits)) (long c) (grown_is c)

pub returns-clause-changed_value : goal.returns-clause-changed_value
returns-clause-changed_value c =
    c.ne.ensures ∙ ap not (test_same c.type_at-own.result c.alternative_type-grown.result
    ∙ ap₂ same_type c.type_at-own.ensures (sym (stored_here c.args.types.now c.args.i c.alternative_type-grown.result _ c.with-types.ensures _
    (omega (arith, c.requires.links_fit.count_fits)) (long c) (grown_is c))))
