-- Laws of a list changed in place: what stands at a place, and that a part that is filled is such a change.
use mathlib.Core.Path.{◌≡◌, refl, sym, ap, subst, ◌∙◌}
use mathlib.Core.Bool.{Bool, true, false, not, ◌&&◌, cond}
use mathlib.Core.List.{List, [], ◌∷◌}
use mathlib.Core.Logic.{◌⊎◌, inl, inr}
use Prim.Native.Nat.{ℕ, zero, suc, ◌+◌, ◌-◌, ◌^◌, ◌≤◌, ◌<◌}
use native.Mathlib.Decide.{ℕ_discrete}
use native.Mathlib.Omega.{arith}
use lib.Bits.{bit_and, bit_or, or_zero_r}
use lib.Count.{count_trailing_zeros}
use lib.Dec.{eqb, leb, ltb}
use lib.ListN.{length, get_or, set, length-set, replicate}
use lib.Seq.{ext_get_or, get_or-set_same, get_or-set_other}
use borrow.Author.Tests.{lt-ltb, le-ltb, le-leb, lt-leb, eq-eqb, ne_eqb}
use Rattle.basics.specs.Bits.{bit, ◌∈◌}
use Rattle.basics.proofs.laws.BitLaws.{bit-zero}
use Rattle.basics.proofs.laws.LowestMember.{Lowest, lowest, lowest_in, bit-cleared}
use Rattle.basics.proofs.laws.Order.{lt-or-le}
use Rattle.position_finder.specs.Forests.{changed, joined, filled}
use borrow.Author.Rules.{rules}
use borrow.Rule.Slice.PartMut.{mid_of, put_mid}
use Rattle.std.proofs.lemmas.List.{places}

pub changed-length : (a e : ℕ) (f : ℕ → ℕ → ℕ) (i : ℕ) (l : List ℕ) → length (changed a e f i l) ≡ length l
unfolding changed
changed-length a e f i [] = refl
changed-length a e f i (x ∷ l) = ap suc (changed-length a e f (suc i) l)

changed-at : (a e : ℕ) (f : ℕ → ℕ → ℕ) (i : ℕ) (l : List ℕ) (p q : ℕ) → q ≡ i + p → p < length l
    → get_or (changed a e f i l) p 0 ≡ cond (leb a q && ltb q e) (f q (get_or l p 0)) (get_or l p 0)
unfolding changed
changed-at a e f i [] p q n h = absurd (omega arith)
changed-at a e f i (x ∷ l) zero q n h = ap (λ (j : ℕ). cond (leb a j && ltb j e) (f j x) x) (omega arith)
changed-at a e f i (x ∷ l) (suc p) q n h = changed-at a e f (suc i) l p q (omega arith) (omega arith)

module _ (a e : ℕ) (f : ℕ → ℕ → ℕ) (l : List ℕ) (p : ℕ) where
  pub changed-inside : p < length l → a ≤ p → p < e → get_or (changed a e f 0 l) p 0 ≡ f p (get_or l p 0)
  changed-inside h g k = changed-at a e f 0 l p p (omega arith) h ∙ rw (le-leb a p g, lt-ltb p e k)

  pub changed-below : p < length l → p < a → get_or (changed a e f 0 l) p 0 ≡ get_or l p 0
  changed-below h g = changed-at a e f 0 l p p (omega arith) h ∙ rw (lt-leb a p g)

  pub changed_above : p < length l → a ≤ p → e ≤ p → get_or (changed a e f 0 l) p 0 ≡ get_or l p 0
  changed_above h g k = changed-at a e f 0 l p p (omega arith) h ∙ rw (le-leb a p g, le-ltb p e k)

-- The follow set of a position after a join.
pub joined-at : (from next : ℕ) (l : List ℕ) → length l ≡ 64 → (p : ℕ) → p < 64
    → get_or (joined from next l) p 0 ≡ bit_or (get_or l p 0) (cond (bit from p) next 0)
joined-at from next l n p h = changed-inside 0 64 (λ i x. bit_or x (cond (bit from i) next 0)) l p (omega arith) (omega arith) h

-- Some of the positions are left: `next` follows each of the others already.
pub record PartlyJoined (from next left : ℕ) (l r : List ℕ) : Type 0 where
  pub same_length : length r ≡ length l
  pub within : (p : ℕ) → p ∈ left → p ∈ from
  pub joined_others : (p : ℕ) → p < 64 → get_or r p 0 ≡ bit_or (get_or l p 0) (cond (bit from p && not (bit left p)) next 0)

module _ (from next : ℕ) (l : List ℕ) (sixty_four : length l ≡ 64) where
  pub joined_start : PartlyJoined from next from l l
  joined_start = record {
    same_length = refl;
    within = λ p h. h;
    joined_others = λ p h. sym (ap (λ (b : Bool). bit_or (get_or l p 0) (cond b next 0)) (apart (bit from p)) ∙ or_zero_r (get_or l p 0));
  }
    where
      apart : (b : Bool) → (b && not b) ≡ false
      apart true = refl
      apart false = refl

  -- The lowest position is joined to and leaves the set.
  pub joined_step : (left : ℕ) (r : List ℕ) → (left ≡ 0 → ⊥) → left < 2 ^ 64 → PartlyJoined from next left l r
      → PartlyJoined from next (bit_and left (left - 1)) l (set r (count_trailing_zeros 64 left) (bit_or (get_or r (count_trailing_zeros 64 left) 0) next))
  joined_step left r some small so_far = record {
    same_length = length-set r t v ∙ so_far.same_length;
    within = λ p h. so_far.within p (and_left (bit left p) (not (eqb t p)) (sym (cleared p) ∙ h));
    joined_others = λ p h. elim (ℕ_discrete p t) [
      | yes e ↦ subst At (sym e) here
      | no e ↦ get_or-set_other r t p v 0 e ∙ so_far.joined_others p h
          ∙ ap (λ (b : Bool). bit_or (get_or l p 0) (cond (bit from p && not b) next 0)) (sym (other p (λ z. e (sym z))))
    ];
  }
    where
      t : ℕ
      t = count_trailing_zeros 64 left

      v : ℕ
      v = bit_or (get_or r (count_trailing_zeros 64 left) 0) next

      At : ℕ → Type 0
      At p = get_or (set r (count_trailing_zeros 64 left) v) p 0
          ≡ bit_or (get_or l p 0) (cond (bit from p && not (bit (bit_and left (left - 1)) p)) next 0)

      w : Lowest 64 left (count_trailing_zeros 64 left)
      w = lowest 64 left some small

      cleared : (p : ℕ) → bit (bit_and left (left - 1)) p ≡ (bit left p && not (eqb (count_trailing_zeros 64 left) p))
      cleared p = bit-cleared 64 left (count_trailing_zeros 64 left) w p

      and_left : (a b : Bool) → (a && b) ≡ true → a ≡ true
      and_left true b e = refl
      and_left false b e = e

      and_true : (a : Bool) → (a && true) ≡ a
      and_true true = refl
      and_true false = refl

      other : (p : ℕ) → (count_trailing_zeros 64 left ≡ p → ⊥) → bit (bit_and left (left - 1)) p ≡ bit left p
      other p e = cleared p ∙ rw (ne_eqb (count_trailing_zeros 64 left) p e) (and_true (bit left p))

      gone : bit (bit_and left (left - 1)) (count_trailing_zeros 64 left) ≡ false
      gone =
          cleared (count_trailing_zeros 64 left)
          ∙ rw (lowest_in 64 left (count_trailing_zeros 64 left) w, eq-eqb (count_trailing_zeros 64 left) (count_trailing_zeros 64 left) refl) refl

      there : bit from (count_trailing_zeros 64 left) ≡ true
      there = so_far.within (count_trailing_zeros 64 left) (lowest_in 64 left (count_trailing_zeros 64 left) w)

      as_before : get_or r (count_trailing_zeros 64 left) 0 ≡ get_or l (count_trailing_zeros 64 left) 0
      as_before =
          so_far.joined_others (count_trailing_zeros 64 left) w.small
          ∙ rw (there, lowest_in 64 left (count_trailing_zeros 64 left) w) (or_zero_r (get_or l (count_trailing_zeros 64 left) 0))

      here : At (count_trailing_zeros 64 left)
      here =
          get_or-set_same r (count_trailing_zeros 64 left) v 0 (omega (arith, w.small, so_far.same_length))
          ∙ ap (λ (x : ℕ). bit_or x next) as_before
          ∙ rw (there, gone) refl

  pub joined_end : (left : ℕ) (r : List ℕ) → left ≡ 0 → PartlyJoined from next left l r → r ≡ joined from next l
  joined_end left r none so_far =
      ext_get_or 0 r (joined from next l)
      (so_far.same_length ∙ sym (changed-length 0 64 (λ i x. bit_or x (cond (bit from i) next 0)) 0 l))
      (λ p h. let small : p < 64 = omega (arith, so_far.same_length) in
      so_far.joined_others p small
      ∙ ap (λ (b : Bool). bit_or (get_or l p 0) (cond b next 0))
      (ap (λ (b : Bool). bit from p && not b) (ap (λ (s : ℕ). bit s p) none ∙ bit-zero p) ∙ and_true (bit from p))
      ∙ sym (joined-at from next l sixty_four p small))
    where
      and_true : (a : Bool) → (a && true) ≡ a
      and_true true = refl
      and_true false = refl

-- A part filled with one number.
pub filled_part : (a e k : ℕ) (l part : List ℕ) → a ≤ e → e ≤ length l → part ≡ replicate (length (mid_of a (e - a) l)) k → put_mid a (e - a) l part ≡ filled a e k l
filled_part a e k l part h g p =
    rw (p, long) (ext_get_or 0 _ _ (size ∙ sym (changed-length a e (λ i x. k) 0 l)) (λ q b. at q (omega (arith, size)) (lt-or-le q a) (lt-or-le q e)))
  where
    long : length (mid_of a (e - a) l) ≡ e - a
    long = search (rules, places)

    size : length (put_mid a (e - a) l (replicate (e - a) k)) ≡ length l
    size = search (rules, places)

    at : (q : ℕ) → q < length l → (q < a) ⊎ (a ≤ q) → (q < e) ⊎ (e ≤ q)
        → get_or (put_mid a (e - a) l (replicate (e - a) k)) q 0 ≡ get_or (filled a e k l) q 0
    at q b (inl m) n = search (rules, places) ∙ sym (changed-below a e (λ i x. k) l q b m)
    at q b (inr m) (inl n) = search (rules, places) ∙ sym (changed-inside a e (λ i x. k) l q b m n)
    at q b (inr m) (inr n) = search (rules, places) ∙ sym (changed_above a e (λ i x. k) l q b m n)
