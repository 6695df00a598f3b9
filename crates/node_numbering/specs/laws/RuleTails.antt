-- A row's fused productions, rule by rule: the tail that a rule has in a row, and that the rules from the first to the last give
-- the fused row.
use mathlib.Core.List.{List, []}
use Rattle.std.proofs.Math.Option.{Option, none, some}
use Prim.Native.Nat.{ℕ, zero, suc}
use Rattle.normal_form.specs.Productions.{Production, production_of}
use Rattle.image.specs.laws.Simulation.{tail_of}

-- The tail of the production for a token, where an action of 0 skips and k + 1 returns token k.
unfoldable pub action_tail : ℕ → List Production → Option (List ℕ)
action_tail zero ps = none
action_tail (suc k) ps = tail_of (production_of k ps)

-- What stands for a rule's production, if it has one.
unfoldable pub rule_part : (Production → List ℕ) → ℕ → Option (List ℕ) → List ℕ
rule_part g r none = []
rule_part g r (some tail) = g (record { head = r; tail = tail })
