-- Laws of entries: what stands for a tail of no member, of one, of two and of more.
use mathlib.Core.Path.{◌≡◌, refl, sym, ap, ap₂, ◌∙◌}
use mathlib.Core.List.{List, [], ◌∷◌}
use Prim.Native.Nat.{ℕ, ◌+◌, ◌-◌, ◌*◌, ◌/◌, ◌%◌, ◌≤◌, ◌<◌}
use native.Mathlib.Omega.{arith}
use lib.ListN.{length, get_or, drop}
use lib.Seq.{get_or-take, get_or-drop}
use Rattle.image_reader.specs.Tables.{part, TailAt, tail_by, EntryTail}

module _ (bytes : List ℕ) (start place n : ℕ) where
  -- A member is the byte of the image so far behind the tail's length.
  member_at : (tail : List ℕ) → TailAt bytes n place tail → (k : ℕ) → k < length tail → get_or bytes (place + 1 + k) 0 ≡ get_or tail k 0
  member_at tail t k h =
      sym (get_or-drop (place + 1) bytes k 0)
      ∙ sym (get_or-take (length tail) (drop (place + 1) bytes) k 0 h)
      ∙ ap (λ (l : List ℕ). get_or l k 0) t.members.there

  pub first_at : {k : ℕ} (tail : List ℕ) → TailAt bytes n place tail → n ≤ 64 → get_or bytes place 0 ≡ k → 1 ≤ k
      → (get_or bytes (place + 1) 0 < 64) × (place + 1 < length bytes)
  first_at {k} [] t few e h = absurd (omega (arith, t.size))
  first_at {k} (a ∷ tail) t few e h =
      let f : get_or bytes (place + 1) 0 ≡ a = ap (λ (i : ℕ). get_or bytes i 0) (omega arith) ∙ member_at (a ∷ tail) t 0 (omega arith) in
      (omega (arith, f, t.members.below.0), omega (arith, t.members.inside))

  pub second-at : {k : ℕ} (tail : List ℕ) → TailAt bytes n place tail → n ≤ 64 → get_or bytes place 0 ≡ k → 2 ≤ k
      → (get_or bytes (place + 2) 0 < 64) × (place + 2 < length bytes)
  second-at {k} [] t few e h = absurd (omega (arith, t.size))
  second-at {k} (a ∷ []) t few e h = absurd (omega (arith, t.size))
  second-at {k} (a ∷ b ∷ tail) t few e h =
      let f : get_or bytes (place + 2) 0 ≡ b = ap (λ (i : ℕ). get_or bytes i 0) (omega arith) ∙ member_at (a ∷ b ∷ tail) t 1 (omega arith) in
      (omega (arith, f, t.members.below.1.0), omega (arith, t.members.inside))

  pub entry_empty : (tail : List ℕ) → TailAt bytes n place tail → get_or bytes place 0 ≡ 0 → EntryTail bytes start n 1 tail
  unfolding tail_by
  entry_empty [] t e = record { some_entry = omega arith; tail_is = refl; below = tt; inside = λ h. absurd (omega arith) }
  entry_empty (a ∷ tail) t e = absurd (omega (arith, t.size))

  pub entry_one : (tail : List ℕ) → TailAt bytes n place tail → n ≤ 64 → get_or bytes place 0 ≡ 1 → (first : ℕ)
      → first ≡ get_or bytes (place + 1) 0 → EntryTail bytes start n (16384 + first) tail
  unfolding tail_by
  entry_one [] t few e first f = absurd (omega (arith, t.size))
  entry_one (a ∷ b ∷ tail) t few e first f = absurd (omega (arith, t.size))
  entry_one (a ∷ []) t few e first f =
      let g : first ≡ a = f ∙ ap (λ (i : ℕ). get_or bytes i 0) (omega arith) ∙ member_at (a ∷ []) t 0 (omega arith) in
      let small : a < 64 = omega (arith, t.members.below.0) in
      let one : (16384 + first) / 16384 ≡ 1 = omega (arith, g, small) in
      let same : (16384 + first) % 64 ≡ a = omega (arith, g, small) in
      record {
        some_entry = omega arith;
        tail_is = ap (λ (k : ℕ). tail_by k bytes start (16384 + first)) one ∙ ap (λ (k : ℕ). k ∷ []) same;
        below = t.members.below;
        inside = λ h. absurd (omega (arith, one, h));
      }

  pub entry_two : (tail : List ℕ) → TailAt bytes n place tail → n ≤ 64 → get_or bytes place 0 ≡ 2 → (first second : ℕ)
      → first ≡ get_or bytes (place + 1) 0 → second ≡ get_or bytes (place + 2) 0 → EntryTail bytes start n (32768 + second * 64 + first) tail
  unfolding tail_by
  entry_two [] t few e first second f g = absurd (omega (arith, t.size))
  entry_two (a ∷ []) t few e first second f g = absurd (omega (arith, t.size))
  entry_two (a ∷ b ∷ c ∷ tail) t few e first second f g = absurd (omega (arith, t.size))
  entry_two (a ∷ b ∷ []) t few e first second f g =
      let fa : first ≡ a = f ∙ ap (λ (i : ℕ). get_or bytes i 0) (omega arith) ∙ member_at (a ∷ b ∷ []) t 0 (omega arith) in
      let gb : second ≡ b = g ∙ ap (λ (i : ℕ). get_or bytes i 0) (omega arith) ∙ member_at (a ∷ b ∷ []) t 1 (omega arith) in
      let small : a < 64 = omega (arith, t.members.below.0) in
      let low : b < 64 = omega (arith, t.members.below.1.0) in
      let entry = 32768 + second * 64 + first in
      let two : entry / 16384 ≡ 2 = omega (arith, fa, gb, small, low) in
      let same : entry % 64 ≡ a = omega (arith, fa, gb, small, low) in
      let high : entry / 64 ≡ 512 + b = omega (arith, fa, gb, small, low) in
      let other : entry / 64 % 64 ≡ b = omega (arith, high, low) in
      record {
        some_entry = omega arith;
        tail_is = ap (λ (k : ℕ). tail_by k bytes start entry) two ∙ ap₂ (λ (x y : ℕ). x ∷ y ∷ []) same other;
        below = t.members.below;
        inside = λ h. absurd (omega (arith, two, h));
      }

  pub entry_more : (tail : List ℕ) → TailAt bytes n place tail → 2 < get_or bytes place 0 → start ≤ place → place < start + 16384
      → EntryTail bytes start n (49152 + (place - start)) tail
  unfolding tail_by
  entry_more tail t more low near =
      let entry = 49152 + (place - start) in
      let three : entry / 16384 ≡ 3 = omega (arith, low, near) in
      let far : start + entry % 16384 ≡ place = omega (arith, low, near) in
      let size : get_or bytes (start + entry % 16384) 0 ≡ get_or bytes place 0 = ap (λ (i : ℕ). get_or bytes i 0) far in
      record {
        some_entry = omega arith;
        tail_is =
            ap (λ (k : ℕ). tail_by k bytes start entry) three
            ∙ ap₂ (λ (i j : ℕ). part bytes (i + 1) j) far (size ∙ t.size)
            ∙ t.members.there;
        below = t.members.below;
        inside = λ h. (omega (arith, size, more), omega (arith, size, far, t.size, t.members.inside));
      }
