-- Laws of a stack in an array, whatever its members are: its two topmost members, and one that takes the place of some of them.
-- Both sweeps rest on them.
use mathlib.Core.Path.{◌≡◌, refl, ap, ◌∙◌}
use mathlib.Core.List.{List, [], ◌∷◌}
use Prim.Native.Nat.{ℕ, zero, suc, ◌+◌, ◌-◌, ◌≤◌, ◌<◌}
use native.Mathlib.Omega.{arith}
use lib.ListN.{length, get_or, set, replicate, length-set, length-replicate}
use lib.Seq.{get_or-set_same, get_or-set_other}
use Rattle.position_finder.specs.Stacks.{Stacked}

-- The stack holds the members, and its topmost entry is at `top`.
pub record Piled {A : Type 0} (unused : A) (stack l : List A) (top : ℕ) : Type 0 where
  pub size : length stack ≡ 258
  pub height : top ≡ 1 + length l
  pub stacked : Stacked unused stack l

pub piled_none : {A : Type 0} (unused : A) → Piled unused (replicate 258 unused) [] 1
piled_none {A} unused = record { size = length-replicate {A = A} 258 unused; height = refl; stacked = tt }

-- A store above the members leaves them.
stacked-below : {A : Type 0} (unused : A) (stack l : List A) (i : ℕ) (v : A) → 2 + length l ≤ i → Stacked unused stack l
    → Stacked unused (set stack i v) l
stacked-below unused stack [] i v h s = tt
stacked-below unused stack (a ∷ l) i v h s =
    (get_or-set_other stack i (2 + length l) v unused (λ z. omega arith) ∙ s.0, stacked-below unused stack l i v (omega arith) s.1)

-- The member with number k, from the top down.
pub stacked-at : {A : Type 0} (unused : A) (stack l : List A) (k : ℕ) → Stacked unused stack l → k < length l
    → get_or stack (length l - k + 1) unused ≡ get_or l k unused
stacked-at unused stack [] k s h = absurd (omega arith)
stacked-at unused stack (a ∷ l) zero s h = ap (λ (i : ℕ). get_or stack i unused) (omega arith) ∙ s.0
stacked-at unused stack (a ∷ l) (suc k) s h =
    ap (λ (i : ℕ). get_or stack i unused) (omega arith) ∙ stacked-at unused stack l k s.1 (omega arith)

module _ {A : Type 0} (unused : A) (stack : List A) (top : ℕ) where
  pub top_member : (a : A) (l : List A) → Piled unused stack (a ∷ l) top → get_or stack top unused ≡ a
  top_member a l w = ap (λ (i : ℕ). get_or stack i unused) (omega (arith, w.height)) ∙ w.stacked.0

  pub next_member : (a b : A) (l : List A) → Piled unused stack (a ∷ b ∷ l) top → get_or stack (top - 1) unused ≡ b
  next_member a b l w = ap (λ (i : ℕ). get_or stack i unused) (omega (arith, w.height)) ∙ w.stacked.1.0

  -- A member is put on top of those that stay, in the place of others.
  pub piled_more : (v a : A) (i : ℕ) (l : List A) → length stack ≡ 258 → i ≡ 2 + length l → i ≤ 257 → Stacked unused stack l → v ≡ a
      → Piled unused (set stack i v) (a ∷ l) i
  piled_more v a i l n e h s g = record {
    size = length-set stack i v ∙ n;
    height = omega arith;
    stacked = (
      ap (λ (j : ℕ). get_or (set stack i v) j unused) (omega arith) ∙ get_or-set_same stack i v unused (omega arith) ∙ g,
      stacked-below unused stack l i v (omega arith) s,
    );
  }
