-- A list that a loop fills from its front: the first entries are right, and one more that is written makes one more right.
use mathlib.Core.Path.{◌≡◌, ◌∙◌}
use mathlib.Core.List.{List}
use mathlib.Core.Logic.{⊎_elim}
use Prim.Native.Nat.{ℕ, ◌+◌, ◌<◌}
use native.Mathlib.Omega.{arith}
use lib.ListN.{length, get_or, set, length-set}
use lib.Seq.{get_or-set_same, get_or-set_other}
use Rattle.basics.proofs.laws.Order.{lt-or-le}

-- Entry z is right if it is f z; the first y of them are.
pub record FirstEntries (f : ℕ → ℕ) (size y : ℕ) (entries : List ℕ) : Type 0 where
  pub whole : length entries ≡ size
  pub done : (z : ℕ) → z < y → get_or entries z 0 ≡ f z

pub entry_more : (f : ℕ → ℕ) (size y x : ℕ) (entries : List ℕ) → y < size → x ≡ f y → FirstEntries f size y entries
    → FirstEntries f size (y + 1) (set entries y x)
entry_more f size y x entries h e s = record {
  whole = simp length-set s.whole;
  done = λ z l.
      ⊎_elim
      (λ k. get_or-set_other entries y z x 0 (λ q. omega arith) ∙ s.done z k)
      (λ k. let q : z ≡ y = omega arith in rw q (get_or-set_same entries y x 0 (omega (arith, s.whole)) ∙ e))
      (lt-or-le z y);
}
