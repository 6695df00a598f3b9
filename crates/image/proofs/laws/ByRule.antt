-- A token's production as that of a rule, before other productions. A definition that the laws of fusion speak of; nothing is proved here.
use mathlib.Core.List.{List, ◌∷◌}
use Rattle.std.proofs.Math.Option.{Option, none, some}
use Prim.Native.Nat.{ℕ}
use Rattle.normal_form.specs.Productions.{Production}

-- A token's production as the production of rule r, before the others.
abbrev pub by_rule : ℕ → Option Production → List Production → List Production
by_rule r o ps = elim o [ none ↦ ps | some p ↦ record { head = r; tail = p.tail } ∷ ps ]
