-- A set of nodes that is filled in rising order: node i joins a set of lower nodes, or does not.
use Rattle.std.specs.Prelude.{◌≡◌, refl, Bool, true, false, ◌||◌, ℕ, suc, ◌^◌, ◌<◌}
use Rattle.std.proofs.Common.{ap, ap₂, ◌∙◌, arith, pow-suc, eq-eqb, ne_eqb}
use Rattle.std.proofs.Math.Bool.{or-false}
use Rattle.std.proofs.lemmas.Nat.{or_lt}
use Rattle.basics.specs.Bits.{bit}
use Rattle.basics.proofs.laws.BitLaws.{bit-or, bit_one, bit-zero, bit_high}
use Rattle.columns.specs.laws.Joining.{joined}

pub joined_here : (b : Bool) (s i : ℕ) → s < 2 ^ i → bit (joined b s i) i ≡ b
joined_here true s i l = bit-or s (2 ^ i) i ∙ ap₂ ◌||◌ (bit_high i s i l (omega arith)) (bit_one i i ∙ eq-eqb i i refl)
joined_here false s i l = bit-or s 0 i ∙ ap₂ ◌||◌ (bit_high i s i l (omega arith)) (bit-zero i)

pub joined-below : (b : Bool) (s i q : ℕ) → q < i → bit (joined b s i) q ≡ bit s q
joined-below true s i q l =
    bit-or s (2 ^ i) q ∙ ap (λ (x : Bool). bit s q || x) (bit_one i q ∙ ne_eqb i q (λ e. omega arith)) ∙ or-false (bit s q)
joined-below false s i q l = bit-or s 0 q ∙ ap (λ (x : Bool). bit s q || x) (bit-zero q) ∙ or-false (bit s q)

pub joined_low : (b : Bool) (s i : ℕ) → s < 2 ^ i → joined b s i < 2 ^ suc i
joined_low true s i l = or_lt (suc i) s (2 ^ i) (omega (arith, pow-suc 2 i)) (omega (arith, pow-suc 2 i, l))
joined_low false s i l = or_lt (suc i) s 0 (omega (arith, pow-suc 2 i)) (omega (arith, pow-suc 2 i, l))
