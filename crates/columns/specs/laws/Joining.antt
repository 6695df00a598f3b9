-- A set of nodes that is filled in rising order: node i joins a set of lower nodes, or does not.
use Rattle.std.specs.Prelude.{Bool, cond, ℕ, ◌^◌}
use Rattle.std.specs.Int.Bits.{bit_or}

abbrev pub joined : Bool → ℕ → ℕ → ℕ
joined b s i = bit_or s (cond b (2 ^ i) 0)
