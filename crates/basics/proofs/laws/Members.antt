-- What holds of every member of a list: by membership, of joined lists and of mapped ones; and the sum over joined lists. Laws of lists in
-- general.
use Rattle.std.specs.Prelude.{◌≡◌, refl, ℕ, zero, suc, ◌+◌, ◌<◌, get_or, length}
use Rattle.std.proofs.Common.{sym, subst, ⊎_elim, arith, not-suc-le-zero}
use mathlib.Core.List.Memᴰ
use mathlib.Core.List.{List, [], ◌∷◌, ◌++◌, map, flat_map, Memᴰ}
use Rattle.basics.specs.Lists.{All, sum}

-- The first member's fact, and those of the members after it.
infixr 20 ◌&◌
abbrev pub ◌&◌ : {X Y : Type 0} → X → Y → X × Y
◌&◌ x y = (x, y)

pub all-append : {A : Type 0} (P : A → Type 0) (k l : List A) → All P k → All P l → All P (k ++ l)
all-append P [] l a b = b
all-append P (x ∷ k) l a b = (a.0, all-append P k l a.1 b)

pub sum-append : {A : Type 0} (f : A → ℕ) (k l : List A) → sum f (k ++ l) ≡ sum f k + sum f l
sum-append f [] l = omega arith
sum-append f (a ∷ k) l = omega (arith, sum-append f k l)

-- By membership, both ways.
pub all_of : {A : Type 0} (P : A → Type 0) (l : List A) → ((a : A) → Memᴰ a l → P a) → All P l
all_of P [] f = tt
all_of P (a ∷ l) f = (f a (Memᴰ.head refl), all_of P l (λ b m. f b (Memᴰ.tail m)))

pub all_member : {A : Type 0} (P : A → Type 0) (l : List A) → All P l → (a : A) → Memᴰ a l → P a
all_member P [] h a m = absurd (Memᴰ.not-nil m)
all_member P (b ∷ l) h a m = ⊎_elim (λ e. subst P (sym e) h.0) (λ k. all_member P l h.1 a k) (Memᴰ.cases_cons m)

pub all-at : {A : Type 0} (P : A → Type 0) (l : List A) → All P l → (i : ℕ) (d : A) → i < length l → P (get_or l i d)
all-at P [] h i d k = absurd (not-suc-le-zero k)
all-at P (b ∷ l) h zero d k = h.0
all-at P (b ∷ l) h (suc i) d k = all-at P l h.1 i d (omega arith)

-- Of a mapped list.
pub all-map : {A B : Type 0} (P : B → Type 0) (f : A → B) (l : List A) → All (λ a. P (f a)) l → All P (map f l)
all-map P f [] h = tt
all-map P f (a ∷ l) h = (h.0, all-map P f l h.1)

-- The member at a place is a member.
pub member_at : {A : Type 0} (l : List A) (i : ℕ) (d : A) → i < length l → Memᴰ (get_or l i d) l
member_at [] i d h = absurd (not-suc-le-zero h)
member_at (a ∷ l) zero d h = Memᴰ.head refl
member_at (a ∷ l) (suc i) d h = Memᴰ.tail (member_at l i d (omega arith))

-- A member of joined lists is a member of one of them.
pub of_flat_map : {A B : Type 0} (f : A → List B) (l : List A) (b : B) → Memᴰ b (flat_map f l)
    → (a : A) × Memᴰ a l × Memᴰ b (f a)
unfolding flat_map
of_flat_map f [] b m = absurd (Memᴰ.not-nil m)
of_flat_map f (a ∷ l) b m =
    ⊎_elim (λ k. (a, Memᴰ.head refl, k)) (λ k. let r = of_flat_map f l b k in (r.0, Memᴰ.tail r.1, r.2))
    (Memᴰ.append_cases (f a) m)

-- The entry of a mapped list at a place within it.
pub get_or-map-inside : {A B : Type 0} (f : A → B) (l : List A) (i : ℕ) (a : A) (b : B) → i < length l → get_or (map f l) i b ≡ f (get_or l i a)
get_or-map-inside f [] i a b h = absurd (not-suc-le-zero h)
get_or-map-inside f (x ∷ l) zero a b h = refl
get_or-map-inside f (x ∷ l) (suc i) a b h = get_or-map-inside f l i a b (omega arith)
