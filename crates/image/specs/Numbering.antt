-- "Nodes now reached from the start stay, numbered as first met: start 0, then row by row, productions by rule, tails from the
-- left."
use mathlib.Core.List.{List, [], ◌∷◌, map, flat_map}
use Rattle.std.specs.Prelude.{ℕ, length}
use Rattle.basics.specs.Meeting.{meet_rows, number_of}
use Rattle.normal_form.specs.Productions.{Production, Row, row_of}

-- The nodes reached from the start, in the order of their numbers, which are their places. A node's row leads to the nodes in its tails,
-- production by production, each tail from the left. There are at most as many nodes as rows.
unfoldable pub reached : List Row → List ℕ
reached rows = meet_rows (λ n. flat_map (λ p. p.tail) (row_of rows n).productions) (length rows) 0 (0 ∷ [])

unfoldable pub renumbered : List ℕ → Production → Production
renumbered met p = record { head = p.head; tail = map (number_of met) p.tail }

-- The rows that stay, by their numbers, with tails in those numbers.
unfoldable pub numbered : List Row → List Row
numbered rows =
    let met = reached rows in
    map (λ n. let row = row_of rows n in record { has_epsilon = row.has_epsilon; productions = map (renumbered met) row.productions }) met
