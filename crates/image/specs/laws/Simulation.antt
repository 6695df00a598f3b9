-- The image's rows do what the rows by token do: a nonterminal stands for a node, and a rule for the token that it returns.
-- Stated for any rows whose tail members are rows' numbers. Nothing here speaks of texts or of what is pending.
use Rattle.std.specs.Prelude.{ℕ}
use mathlib.Core.List.{List}
use Rattle.std.proofs.Math.Option.{Option, none, some}
use Rattle.normal_form.specs.Productions.{Production}

-- ---- what the image's rows do

abbrev pub tail_of : Option Production → Option (List ℕ)
tail_of none = none
tail_of (some p) = some p.tail
