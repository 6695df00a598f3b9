-- Laws of numbering: the nodes reached begin with the start, hold each node once, are closed under tails, are no more than the
-- rows and are numbered as first met. Then the rows by number.
use Rattle.std.specs.Prelude.{ℕ}
use mathlib.Core.List.{List, flat_map}
use Rattle.normal_form.specs.Productions.{Production}

-- The nodes in the tails of a row, production by production, each tail from the left.
abbrev pub tail_members : List Production → List ℕ
tail_members ps = flat_map (λ p. p.tail) ps
