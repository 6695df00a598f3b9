-- The walk over a set as a word meets the rising list of its members: each position once, rising, and no other.
use Rattle.std.specs.Prelude.{◌≡◌, refl, Bool, true, false, not, ◌&&◌, cond, ◌⊎◌, ℕ, zero, suc, ◌+◌, ◌-◌, ◌^◌, ◌≤◌, ◌<◌, eqb, length}
use Rattle.std.proofs.Common.{sym, ap, ◌∙◌, subst, true≢false, inl, inr, ⊎_elim, arith, eq-eqb, ne_eqb, eqb-true}
use Rattle.std.proofs.Math.Bool as B
use mathlib.Core.List.Memᴰ
use mathlib.Core.List.{List, [], ◌∷◌, Memᴰ}
use Rattle.std.specs.Int.Bits.{bit_and}
use Rattle.std.proofs.lemmas.Nat.{and_le_l}
use Rattle.std.specs.Int.Count.{ones, count_trailing_zeros}
use Rattle.std.proofs.lemmas.Bool.{eqb-false}
use Rattle.basics.specs.Bits.{bit, ◌∈◌}
use Rattle.basics.proofs.laws.BitLaws.{bit-zero, bit_high}
use Rattle.basics.proofs.laws.LowestMember.{lowest, lowest_in, lowest_least, bit-cleared, ones_cleared}
use Rattle.basics.proofs.laws.Order.{compare_cases, lt-or-le}
use Rattle.lexer.specs.SetWalk.{steps, set_walk, members_from, members, Rises, MeetsEach}

-- ---- the rising list

-- One place more, by whether it is a member.
members_in : (s i n : ℕ) → i ∈ s → members_from s i (suc n) ≡ i ∷ members_from s (suc i) n
unfolding members_from
members_in s i n e = rw e

members_out : (s i n : ℕ) → bit s i ≡ false → members_from s i (suc n) ≡ members_from s (suc i) n
unfolding members_from
members_out s i n e = rw e

-- Sets with the same members from i on.
members_same : (s u i n : ℕ) → ((j : ℕ) → i ≤ j → bit s j ≡ bit u j) → members_from s i n ≡ members_from u i n
unfolding members_from
members_same s u i zero f = refl
members_same s u i (suc n) f = rw (f i (omega arith), members_same s u (suc i) n (λ j l. f j (omega arith)))

-- Where no member lies from i on.
members-none : (s i n : ℕ) → ((j : ℕ) → i ≤ j → bit s j ≡ false) → members_from s i n ≡ []
unfolding members_from
members-none s i zero f = refl
members-none s i (suc n) f = rw (f i (omega arith), members-none s (suc i) n (λ j l. f j (omega arith)))

pub members-zero : members 0 ≡ []
unfolding members
members-zero = members-none 0 0 _ (λ j l. bit-zero j)

-- Places without a member may be left out at the end.
pub members_shorter : (s i n m : ℕ) → n ≤ m → ((j : ℕ) → i + n ≤ j → bit s j ≡ false) → members_from s i m ≡ members_from s i n
unfolding members_from
members_shorter s i zero m h f = members-none s i m (λ j l. f j (omega arith))
members_shorter s i (suc n) zero h f = absurd (omega arith)
members_shorter s i (suc n) (suc m) h f = rw (members_shorter s (suc i) n m (omega arith) (λ j l. f j (omega arith)))

members_rise : (s i n : ℕ) → Rises i (members_from s i n)
unfolding members_from
members_rise s i zero = tt
members_rise s i (suc n) = go (bit s i) (members_rise s (suc i) n)
  where
    weaker : (k : ℕ) (l : List ℕ) → Rises (suc k) l → Rises k l
    weaker k [] h = tt
    weaker k (j ∷ l) h = (omega (arith, h.0), h.1)

    go : (b : Bool) → Rises (suc i) (members_from s (suc i) n)
        → Rises i (cond b (i ∷ members_from s (suc i) n) (members_from s (suc i) n))
    go true h = (omega arith, h)
    go false h = weaker i (members_from s (suc i) n) h

members_each : (s i n j : ℕ) → i ≤ j → j < i + n → j ∈ s → Memᴰ j (members_from s i n)
members_each s i zero j l h e = absurd (omega arith)
members_each s i (suc n) j l h e = go (bit s i) refl (compare_cases i j) (λ g. members_each s (suc i) n j g (omega arith) e)
  where
    go : (b : Bool) → bit s i ≡ b → (i < j) ⊎ ((i ≡ j) ⊎ (j < i)) → (suc i ≤ j → Memᴰ j (members_from s (suc i) n))
        → Memᴰ j (members_from s i (suc n))
    go true f (inl g) ih = subst (Memᴰ j) (sym (members_in s i n f)) (Memᴰ.tail (ih (omega arith)))
    go false f (inl g) ih = subst (Memᴰ j) (sym (members_out s i n f)) (ih (omega arith))
    go true f (inr (inl g)) ih = subst (Memᴰ j) (sym (members_in s i n f)) (Memᴰ.head (sym g))
    go false f (inr (inl g)) ih = absurd (true≢false (sym e ∙ ap (bit s) (sym g) ∙ f))
    go b f (inr (inr g)) ih = absurd (omega arith)

members_only : (s i n j : ℕ) → Memᴰ j (members_from s i n) → (j ∈ s) × (j < i + n)
unfolding members_from
members_only s i zero j m = absurd (Memᴰ.not-nil m)
members_only s i (suc n) j m = go (bit s i) refl m (λ k. members_only s (suc i) n j k)
  where
    go : (b : Bool) → bit s i ≡ b → Memᴰ j (cond b (i ∷ members_from s (suc i) n) (members_from s (suc i) n))
        → (Memᴰ j (members_from s (suc i) n) → (j ∈ s) × (j < suc i + n)) → (j ∈ s) × (j < i + suc n)
    go true f m ih =
        ⊎_elim (λ e. (ap (bit s) e ∙ f, omega arith)) (λ k. let x = ih k in (x.0, omega (arith, x.1))) (Memᴰ.cases_cons m)
    go false f m ih = let x = ih m in (x.0, omega (arith, x.1))

-- ---- the lowest position first

-- The list without its first member t.
members_first : (s u t i n : ℕ) → i ≤ t → t < i + n → t ∈ s → ((j : ℕ) → j ∈ s → t ≤ j) → ((j : ℕ) → bit u j ≡ (bit s j && not (eqb t j)))
    → members_from s i n ≡ t ∷ members_from u i n
members_first s u t i zero l h e least f = absurd (omega arith)
members_first s u t i (suc n) l h e least f = go (compare_cases i t) (λ g. members_first s u t (suc i) n g (omega arith) e least f)
  where
    below : (b : Bool) → bit s i ≡ b → i < t → bit s i ≡ false
    below true q g = let le = least i q in absurd (omega arith)
    below false q g = q

    here : bit u t ≡ false
    here = f t ∙ rw (eq-eqb t t refl) (B.and-false (bit s t))

    above : (j : ℕ) → suc t ≤ j → bit s j ≡ bit u j
    above j g = sym (f j ∙ rw (ne_eqb t j (λ q. omega arith)) (B.and-true (bit s j)))

    go : (i < t) ⊎ ((i ≡ t) ⊎ (t < i)) → (suc i ≤ t → members_from s (suc i) n ≡ t ∷ members_from u (suc i) n)
        → members_from s i (suc n) ≡ t ∷ members_from u i (suc n)
    go (inl g) ih =
        let out = below (bit s i) refl g in
        members_out s i n out ∙ ih (omega arith) ∙ ap (λ (l : List ℕ). t ∷ l) (sym (members_out u i n (f i ∙ rw out)))
    go (inr (inl g)) ih =
        rw g
        (members_in s t n e ∙ ap (λ (l : List ℕ). t ∷ l) (members_same s u (suc t) n above ∙ sym (members_out u t n here)))
    go (inr (inr g)) ih = absurd (omega arith)

-- "from its lowest position to the next": trailing zeros give the first member, and clearing it leaves the others.
pub members-step : (s : ℕ) → (s ≡ 0 → ⊥) → s < 2 ^ 64 → members s ≡ count_trailing_zeros 64 s ∷ members (bit_and s (s - 1))
unfolding members
members-step s h l =
    let t = count_trailing_zeros 64 s in
    let w = lowest 64 s h l in
    members_first s (bit_and s (s - 1)) t 0 64 (omega arith) (omega (arith, w.small)) (lowest_in 64 s t w) (lowest_least 64 s t w)
    (bit-cleared 64 s t w)

ones_lowest : (s : ℕ) → (s ≡ 0 → ⊥) → s < 2 ^ 64 → ones s ≡ suc (ones (bit_and s (s - 1)))
ones_lowest s h l = omega (arith, ones_cleared 64 s (count_trailing_zeros 64 s) (lowest 64 s h l))

-- ---- the walk

-- What holds of the empty set, and of a set if it holds of the set without its lowest position, holds of every set.
walk_induction : (Q : ℕ → Type 0) → Q 0 → ((s : ℕ) → (s ≡ 0 → ⊥) → s < 2 ^ 64 → Q (bit_and s (s - 1)) → Q s) → (k s : ℕ) → s < 2 ^ 64
    → ones s ≤ k → Q s
walk_induction Q z f zero s l h = go (eqb s 0) refl
  where
    go : (b : Bool) → eqb s 0 ≡ b → Q s
    go true e = subst Q (sym (eqb-true s 0 e)) z
    go false e = let o = ones_lowest s (eqb-false s 0 e) l in absurd (omega arith)
walk_induction Q z f (suc k) s l h =
    go (eqb s 0) refl
    (λ n. f s n l (walk_induction Q z f k (bit_and s (s - 1)) (omega (arith, and_le_l s (s - 1))) (omega (arith, ones_lowest s n l))))
  where
    go : (b : Bool) → eqb s 0 ≡ b → ((s ≡ 0 → ⊥) → Q s) → Q s
    go true e g = subst Q (sym (eqb-true s 0 e)) z
    go false e g = g (eqb-false s 0 e)

steps-zero : (k : ℕ) → steps k 0 ≡ []
unfolding steps
steps-zero zero = refl
steps-zero (suc k) = refl

steps-more : (k s : ℕ) → (s ≡ 0 → ⊥) → steps (suc k) s ≡ count_trailing_zeros 64 s ∷ steps k (bit_and s (s - 1))
unfolding steps
steps-more k s n = rw (ne_eqb s 0 n)

-- The list of those met is the rising list of the members.
pub walk-meets-members : (s : ℕ) → s < 2 ^ 64 → set_walk s ≡ members s
unfolding set_walk
walk-meets-members s l =
    walk_induction (λ s. steps (ones s) s ≡ members s) (steps-zero (ones 0) ∙ sym members-zero)
    (λ s n l h. ap (λ (k : ℕ). steps k s) (ones_lowest s n l) ∙ steps-more (ones (bit_and s (s - 1))) s n
    ∙ ap (λ (x : List ℕ). count_trailing_zeros 64 s ∷ x) h ∙ sym (members-step s n l))
    (ones s) s l (omega arith)

-- There are as many members as ones.
pub ones_members : (s : ℕ) → s < 2 ^ 64 → ones s ≡ length (members s)
unfolding ones
ones_members s l =
    walk_induction (λ s. ones s ≡ length (members s)) (rw members-zero)
    (λ s n l h. ones_lowest s n l ∙ ap suc h ∙ ap (λ (x : List ℕ). length x) (sym (members-step s n l)))
    (ones s) s l (omega arith)

-- The first of them lies within the word.
pub first_member-below : (s i : ℕ) (l : List ℕ) → members s ≡ i ∷ l → i < 64
unfolding members
first_member-below s i l e = (members_only s 0 64 i (subst (Memᴰ i) (sym e) (Memᴰ.head refl))).1

-- "Show that the walk meets each position of the set once, rising, and no other."
pub walk-meets_each : (s : ℕ) → s < 2 ^ 64 → MeetsEach s (set_walk s)
unfolding members
walk-meets_each s l = rw (walk-meets-members s l) (record {
  rising = members_rise s 0 64;
  each = λ i e. members_each s 0 64 i (omega arith) (within i e) e;
  no_other = λ i m. (members_only s 0 64 i m).0;
})
  where
    within : (i : ℕ) → i ∈ s → i < 64
    within i e = ⊎_elim (λ h. h) (λ h. absurd (true≢false (sym e ∙ bit_high 64 s i l h))) (lt-or-le i 64)
