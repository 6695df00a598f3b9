-- Names for parts of rows, flags and takings, and for the rounds by which rows are made, as the proofs speak of them.
use Rattle.std.specs.Prelude.{Bool, false, List, map, ℕ, get_or}
use Rattle.basics.specs.Rounds.{rounds}
use Rattle.types.specs.Nodes.{Node}
use Rattle.normal_form.specs.Productions.{Row, no_productions, node_row, Taking}

-- One round.
abbrev pub next_rows : List Node → List Row → List Row
next_rows ns rows = map (node_row rows) ns

-- So many rounds, from no productions at all.
abbrev pub rows_after : ℕ → List Node → List Row
rows_after k ns = rounds no_productions node_row ns k

abbrev pub taken_by : ℕ → List ℕ → Taking
taken_by taker pending = record { taker = taker; pending = pending }

abbrev pub derives_at : List Bool → ℕ → Bool
derives_at derives n = get_or derives n false
