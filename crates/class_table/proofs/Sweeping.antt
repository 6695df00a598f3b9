-- The sweep, a byte a turn: before the first turn, and one turn more.
-- What the sets that it leaves mean is not asked here.
use mathlib.Core.Path.{◌≡◌, refl, ap₂, ◌∙◌}
use mathlib.Core.List.{List}
use mathlib.Core.Logic.{⊎_elim}
use Prim.Native.Nat.{ℕ, zero, suc, ◌+◌, ◌≤◌, ◌<◌}
use native.Mathlib.Omega.{arith}
use native.Mathlib.Numerals.{add-one}
use lib.Bits.{bit_xor, xor_zero_l}
use lib.ListN.{length, get_or, set, length-set}
use lib.Seq.{get_or-set_same, get_or-set_other}
use Rattle.basics.proofs.laws.Order.{lt-or-le}
use Rattle.class_table.specs.Filling.{swept}

-- The set that is carried to a byte.
unfoldable pub carried : List ℕ → ℕ → ℕ
carried t zero = 0
carried t (suc b) = swept t b

carried_on : (t : List ℕ) (b : ℕ) → bit_xor (carried t b) (get_or t b 0) ≡ swept t b
unfolding carried swept
carried_on t zero = xor_zero_l (get_or t 0 0)
carried_on t (suc b) = refl

-- The sweep over table t has come to a byte, with a set carried; the table is now t'.
pub record SweptTo (t : List ℕ) (byte carry : ℕ) (t' : List ℕ) : Type 0 where
  pub size : length t' ≡ 448
  pub done : (b : ℕ) → b < byte → get_or t' b 0 ≡ swept t b
  pub left : (b : ℕ) → byte ≤ b → get_or t' b 0 ≡ get_or t b 0
  pub carry_is : carry ≡ carried t byte

pub swept-start : (t : List ℕ) → length t ≡ 448 → SweptTo t 0 0 t
unfolding carried
swept-start t h = record { size = h; done = λ b l. absurd (omega arith); left = λ b l. refl; carry_is = refl }

pub swept_more : (t : List ℕ) (byte carry next : ℕ) (t' : List ℕ) → byte < 256 → next ≡ bit_xor carry (get_or t' byte 0)
    → SweptTo t byte carry t'
    → SweptTo t (byte + 1) next (set t' byte next)
unfolding carried
swept_more t byte carry next t' h n s =
    let e : next ≡ swept t byte = n ∙ ap₂ bit_xor s.carry_is (s.left byte (omega arith)) ∙ carried_on t byte in
    record {
      size = simp length-set s.size;
      done = λ b l.
          ⊎_elim
          (λ k. get_or-set_other t' byte b next 0 (λ q. omega arith) ∙ s.done b k)
          (λ k. let q : b ≡ byte = omega arith in rw q (get_or-set_same t' byte next 0 (omega (arith, s.size)) ∙ e))
          (lt-or-le b byte);
      left = λ b l. get_or-set_other t' byte b next 0 (λ q. omega arith) ∙ s.left b (omega arith);
      carry_is = rw (add-one byte) e;
    }
