-- Laws of a tail: its members are read one byte each, and stand where they were read.
use mathlib.Core.Path.{◌≡◌, refl, sym, ap, ◌∙◌}
use mathlib.Core.List.{List, [], ◌∷◌, ◌++◌}
use Prim.Native.Nat.{ℕ, ◌+◌, ◌-◌, ◌≤◌, ◌<◌}
use native.Mathlib.Omega.{arith}
use native.Mathlib.Numerals.{add-one}
use lib.ListN.{length, get_or, take, drop, length-append, length-drop}
use lib.Seq.{take-suc, get_or-drop}
use Rattle.basics.proofs.laws.Members.{all-append}
use Rattle.sheet.specs.Field.{got, between}
use Rattle.image.specs.ImageReading.{image_field}
use Rattle.image_reader.proofs.Fields.{field_range, field_one_byte}
use Rattle.image_reader.specs.Tables.{Members, MembersHeld}

members-none : (bytes : List ℕ) (at n : ℕ) → at ≤ length bytes → Members bytes at n []
members-none bytes at n h = record { inside = omega arith; there = refl; below = tt }

members-more : (bytes : List ℕ) (at n next v : ℕ) (l : List ℕ) → Members bytes at n l → next ≡ at + length l → next < length bytes
    → get_or bytes next 0 ≡ v → v < n → Members bytes at n (l ++ (v ∷ []))
members-more bytes at n next v l m e h b k =
    let g : get_or (drop at bytes) (length l) 0 ≡ v = get_or-drop at bytes (length l) 0 ∙ ap (λ (x : ℕ). get_or bytes x 0) (sym e) ∙ b in
    record {
      inside = omega (arith, length-append l (v ∷ []));
      there =
          ap (λ (x : ℕ). take x (drop at bytes)) (length-append l (v ∷ []) ∙ add-one (length l))
          ∙ take-suc (drop at bytes) (length l) 0 (omega (arith, length-drop at bytes))
          ∙ ap (λ (x : List ℕ). x ++ (get_or (drop at bytes) (length l) 0 ∷ [])) m.there
          ∙ ap (λ (x : ℕ). l ++ (x ∷ [])) g;
      below = all-append (λ x. x < n) l (v ∷ []) m.below (k, tt);
    }

-- A turn of the loop over a tail.
pub held-more : (bytes : List ℕ) (at n size next v after : ℕ) (l : List ℕ) → ((i : ℕ) → get_or bytes i 0 < 256) → 1 ≤ n → n ≤ 64
    → image_field (between 0 (n - 1)) bytes next ≡ got v after → MembersHeld bytes at n size next l
    → MembersHeld bytes at n (size + 1) after (l ++ (v ∷ []))
held-more bytes at n size next v after l hb h k e m =
    let r = field_range 0 (n - 1) bytes next e in
    let o = field_one_byte (between 0 (n - 1)) bytes next hb e (omega arith) in
    record {
      count = length-append l (v ∷ []) ∙ ap (λ (x : ℕ). x + 1) m.count;
      place = omega (arith, o.after, m.place);
      members = members-more bytes at n next v l m.members (omega (arith, m.place, m.count)) o.inside o.byte (omega arith);
    }

pub held-none : (bytes : List ℕ) (at n : ℕ) → at ≤ length bytes → MembersHeld bytes at n 0 at []
held-none bytes at n h = record { count = refl; place = omega arith; members = members-none bytes at n h }
