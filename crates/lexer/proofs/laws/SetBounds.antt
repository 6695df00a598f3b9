-- A set of small numbers, held as one number, is below 2^n just where its members are below n.
use Rattle.std.proofs.Common.{sym, ◌∙◌, true≢false, ⊎_elim}
use Rattle.std.specs.Prelude.{ℕ, ◌<◌, ◌^◌}
use Rattle.basics.specs.Bits.{◌∈◌}
use Rattle.basics.proofs.laws.BitLaws.{bit-below, bit_high, lt-pow_self}
use Rattle.basics.proofs.laws.Order.{lt-or-le}

pub below_power : (s n : ℕ) → ((i : ℕ) → i ∈ s → i < n) → s < 2 ^ n
below_power s n f = bit-below n s s (lt-pow_self s) f

pub members_below : (s n i : ℕ) → s < 2 ^ n → i ∈ s → i < n
members_below s n i l h = ⊎_elim (λ x. x) (λ x. absurd (true≢false (sym h ∙ bit_high n s i l x))) (lt-or-le i n)
