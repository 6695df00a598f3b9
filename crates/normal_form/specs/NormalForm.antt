-- "Then productions go whose tail holds a node that derives no token sequence." What stays is the normal form, still by token.
use Rattle.std.specs.Prelude.{Bool, true, false, ◌&&◌, List, [], ◌∷◌, map, ℕ, get_or}
use Rattle.basics.specs.Lists.{filter}
use Rattle.sheet.specs.Expression.{Expression}
use Rattle.normal_form.specs.Productions.{Production, Row, rows}
use Rattle.normal_form.specs.Derives.{derives}

-- Every node of a tail derives a token sequence.
unfoldable pub all_derive : List Bool → List ℕ → Bool
all_derive flags [] = true
all_derive flags (n ∷ tail) = get_or flags n false && all_derive flags tail

-- All nodes' rows, in sheet order.
unfoldable pub normal_form : Expression → List Row
normal_form e =
    let kept = filter (λ (p : Production). all_derive (derives e) p.tail) in
    map (λ r. record { has_epsilon = r.has_epsilon; productions = kept r.productions }) (rows e)
