-- Between a class's edges: a byte is in the class iff the edges up to it are odd in number, a byte a turn. What is toggled there is not asked.
use Rattle.std.specs.Prelude.{◌≡◌, Bool, false, ◌&&◌, ◌⊎◌, ℕ, zero, suc, ◌≤◌, ◌<◌, eqb, leb}
use Rattle.std.proofs.Common.{sym, inl, inr, arith, eq-eqb, ne_eqb, le-leb}
use Rattle.std.proofs.Math.Bool.{xor}
use Rattle.std.proofs.Math.Dec.{eqb-suc-suc}
use Rattle.std.proofs.lemmas.Bool.{lt-leb}
use Rattle.basics.proofs.laws.Order.{compare_cases}
use Rattle.class_table.specs.Filling.{edge}

-- A class has a byte.
abbrev pub between : ℕ → ℕ → ℕ → Bool
between low high b = leb low b && leb b high

-- Between the edges: at the first byte, and at the next one.
pub between-first : (low high : ℕ) → edge low high 0 ≡ between low high 0
unfolding edge xor
between-first zero high = rw (ne_eqb (suc high) 0 (λ e. omega arith), le-leb 0 high (omega arith))
between-first (suc low) high =
    rw (ne_eqb (suc high) 0 (λ e. omega arith), ne_eqb (suc low) 0 (λ e. omega arith), lt-leb (suc low) 0 (omega arith))

pub between-next : (low high b : ℕ) → low ≤ high → xor (between low high b) (edge low high (suc b)) ≡ between low high (suc b)
unfolding edge xor
between-next low high b h = rw (eqb-suc-suc high b) (go (compare_cases low (suc b)))
  where
    at_end : (b < high) ⊎ ((b ≡ high) ⊎ (high < b)) → xor (leb b high) (xor false (eqb high b)) ≡ leb (suc b) high
    at_end (inl m) = rw (le-leb b high (omega arith), ne_eqb high b (λ e. omega arith), le-leb (suc b) high m)
    at_end (inr (inl q)) = rw (le-leb b high (omega arith), eq-eqb high b (sym q), lt-leb (suc b) high (omega arith))
    at_end (inr (inr m)) = rw (lt-leb b high m, ne_eqb high b (λ e. omega arith), lt-leb (suc b) high (omega arith))

    go : (low < suc b) ⊎ ((low ≡ suc b) ⊎ (suc b < low))
        → xor (between low high b) (xor (eqb low (suc b)) (eqb high b)) ≡ between low high (suc b)
    go (inl l) =
        rw (le-leb low b (omega arith), ne_eqb low (suc b) (λ e. omega arith), le-leb low (suc b) (omega arith))
        (at_end (compare_cases b high))
    go (inr (inl q)) =
        rw (
          lt-leb low b (omega arith),
          eq-eqb low (suc b) q,
          ne_eqb high b (λ e. omega arith),
          le-leb low (suc b) (omega arith),
          le-leb (suc b) high (omega arith),
        )
    go (inr (inr l)) =
        rw (lt-leb low b (omega arith), ne_eqb low (suc b) (λ e. omega arith), ne_eqb high b (λ e. omega arith), lt-leb low (suc b) l)
