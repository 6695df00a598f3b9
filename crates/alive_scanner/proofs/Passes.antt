-- The passes from the right as the code goes: the alive positions place by place, and the marks block by block.
use mathlib.Core.Path.{◌≡◌, sym, ap, ◌∙◌}
use mathlib.Core.List.{List}
use mathlib.Core.Logic.{⊎_elim}
use Prim.Native.Nat.{ℕ, ◌+◌, ◌*◌, ◌%◌, ◌≤◌, ◌<◌, min}
use native.Mathlib.Omega.{arith}
use native.Mathlib.Numerals.{add-one}
use lib.Bits.{bit_or, bit_and}
use lib.ListN.{length, get_or, set, drop, drop_of_length-le}
use lib.Seq.{drop-cons, get_or-set_same, get_or-set_other}
use Rattle.basics.proofs.laws.Order.{lt-or-le}
use Rattle.lexer.specs.Positions.{Position}
use Rattle.lexer.specs.Alive.{alive_before, alive}
use Rattle.leading_sets.specs.Leading.{leading}
use Rattle.alive_scanner.specs.Blocks.{AliveReady, BlockHolds, MarksHold}
use Rattle.alive_scanner.proofs.Backward.{backward}

-- One place to the left.
pub alive-at : (ps : List Position) (text : List ℕ) (q : ℕ) → q < length text
    → alive ps (drop q text) ≡ alive_before ps (get_or text q 0) (alive ps (drop (q + 1) text))
unfolding alive
alive-at ps text q h = rw (drop-cons text q 0, add-one q)

alive_past : (ps : List Position) (text : List ℕ) (q : ℕ) → length text ≤ q → alive ps (drop q text) ≡ 0
unfolding alive
alive_past ps text q h = rw (drop_of_length-le text {i = q} h)

-- Past the text's end it is as at its end.
pub alive-min : (ps : List Position) (text : List ℕ) (q : ℕ) → alive ps (drop (min q (length text)) text) ≡ alive ps (drop q text)
alive-min ps text q =
    ⊎_elim
    (λ l. let e : min q (length text) ≡ q = omega arith in ap (λ (k : ℕ). alive ps (drop k text)) e)
    (λ l. alive_past ps text (min q (length text)) (omega arith) ∙ sym (alive_past ps text q l))
    (lt-or-le q (length text))

-- The pass has come to place q, from place `to`: `now` is alive there, and `held` is held before it.
pub record PassedTo (ps : List Position) (text : List ℕ) (to last : ℕ) (tables block : List ℕ) (q now held : ℕ) : Type 0 where
  pub alive_now : now ≡ alive ps (drop q text)
  pub held_now : held ≡ bit_or last (leading (drop 256 tables) now)
  pub filled : BlockHolds ps text q to block

pub passed_start : (ps : List Position) (text : List ℕ) (to last : ℕ) (tables block : List ℕ) (after held : ℕ)
    → after ≡ alive ps (drop to text) → held ≡ bit_or last (leading (drop 256 tables) after)
    → PassedTo ps text to last tables block to after held
passed_start ps text to last tables block after held e f = record { alive_now = e; held_now = f; filled = λ q l m. absurd (omega arith) }

-- One byte to the left, p: it leaves `next` alive, which stands in its word of the block.
pub passed_step : (ps : List Position) (text : List ℕ) (to last : ℕ) (tables unions block : List ℕ) → AliveReady ps last tables unions
    → (q p now held next held' : ℕ) → p + 1 ≡ q → p < length text → to ≤ p + 1024 → length block ≡ 1024 → get_or text p 0 < 256
    → next ≡ bit_and held (get_or tables (get_or text p 0) 0) → held' ≡ bit_or last (leading (drop 256 tables) next)
    → PassedTo ps text to last tables block q now held → PassedTo ps text to last tables (set block (p % 1024) next) p next held'
passed_step ps text to last tables unions block ready q p now held next held' e inside near room byte n h old =
    record {
      alive_now = here;
      held_now = h;
      filled = λ r l m.
          ⊎_elim
          (λ k.
          let z : r ≡ p = omega arith in
          rw z (get_or-set_same block (p % 1024) next 0 (omega arith) ∙ here))
          (λ k. get_or-set_other block (p % 1024) (r % 1024) next 0 (λ z. omega arith) ∙ old.filled r (omega arith) m)
          (lt-or-le r (p + 1));
    }
  where
    here : next ≡ alive ps (drop p text)
    here =
        n ∙ ap (λ (x : ℕ). bit_and x (get_or tables (get_or text p 0) 0)) old.held_now
        ∙ backward ps last tables unions ready (get_or text p 0) now byte
        ∙ ap (alive_before ps (get_or text p 0)) (old.alive_now ∙ ap (λ (k : ℕ). alive ps (drop k text)) (sym e))
        ∙ sym (alive-at ps text p inside)

-- The marks from block k on, the pass being at the start of block k.
pub record MarkedTo (ps : List Position) (text marks : List ℕ) (k end now : ℕ) : Type 0 where
  pub at_block : now ≡ alive ps (drop (k * 1024) text)
  pub at_end : now ≡ alive ps (drop end text)
  pub marked : MarksHold ps text k marks

pub marked_start : (ps : List Position) (text marks : List ℕ) (k : ℕ) → length text ≤ k * 1024 → MarkedTo ps text marks k (length text) 0
marked_start ps text marks k h = record {
  at_block = sym (alive_past ps text (k * 1024) h);
  at_end = sym (alive_past ps text (length text) (omega arith));
  marked = λ j l m. absurd (omega arith);
}

pub marked_step : (ps : List Position) (text marks : List ℕ) (k p end now next : ℕ) → p + 1 ≡ k → p < length marks
    → next ≡ alive ps (drop (p * 1024) text) → MarkedTo ps text marks k end now → MarkedTo ps text (set marks p now) p (p * 1024) next
marked_step ps text marks k p end now next e room here old = record {
  at_block = here;
  at_end = here;
  marked = λ j l m.
      ⊎_elim
      (λ g.
      let z : j ≡ p = omega arith in
      let y : k * 1024 ≡ p * 1024 + 1024 = omega arith in
      rw z (get_or-set_same marks p now 0 room ∙ old.at_block ∙ ap (λ (x : ℕ). alive ps (drop x text)) y))
      (λ g. get_or-set_other marks p j now 0 (λ z. omega arith) ∙ old.marked j (omega arith) m)
      (lt-or-le j (p + 1));
}
