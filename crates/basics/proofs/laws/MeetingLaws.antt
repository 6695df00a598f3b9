-- The numbers met so far: which they are, in which order they joined, and the place of each.
use Rattle.std.specs.Prelude.{◌≡◌, refl, Bool, true, false, ◌||◌, cond, ℕ, zero, suc, ◌<◌, T, eqb, get_or, length}
use Rattle.std.proofs.Common.{sym, ap, subst, ◌∙◌, ⊎_elim, arith, not-suc-le-zero, eqb→eq, length-append, eq-eqb}
use mathlib.Core.List.Memᴰ
use mathlib.Core.List.{List, [], ◌∷◌, ◌++◌, append_assoc, append-nil, Memᴰ}
use Rattle.std.proofs.Math.Decide.{ℕ_discrete}
use Rattle.std.proofs.Math.Dec.{eqb_refl}
use Rattle.std.proofs.Math.ListN.{get_or-append}
use Rattle.std.proofs.Math.Seq.{get_or-append_seam}
use Rattle.basics.proofs.laws.Truth.{or_left, or_right, or-cases, true_holds}
use Rattle.basics.specs.Meeting.{is_met, meet, meet_all, number_of}
use Rattle.basics.specs.laws.MeetingLaws.{Met}

met_left : (n : ℕ) (met more : List ℕ) → Met n met → Met n (met ++ more)
unfolding is_met
met_left n (m ∷ met) more t =
    ⊎_elim (λ x. or_left (eqb m n) (is_met n (met ++ more)) x) (λ x. or_right (eqb m n) (is_met n (met ++ more)) (met_left n met more x))
    (or-cases (eqb m n) (is_met n met) t)
met_left n [] more t = elim t [ ]

met_right : (n : ℕ) (met more : List ℕ) → Met n more → Met n (met ++ more)
unfolding is_met
met_right n [] more t = t
met_right n (m ∷ met) more t = or_right (eqb m n) (is_met n (met ++ more)) (met_right n met more t)

pub met-last : (n m : ℕ) (met : List ℕ) → is_met n (met ++ (m ∷ [])) ≡ (is_met n met || eqb m n)
unfolding is_met
met-last n m [] = go (eqb m n)
  where
    go : (b : Bool) → (b || false) ≡ b
    go true = refl
    go false = refl
met-last n m (k ∷ met) = go (eqb k n) (met-last n m met)
  where
    go : (b : Bool) → is_met n (met ++ (m ∷ [])) ≡ (is_met n met || eqb m n)
        → (b || is_met n (met ++ (m ∷ []))) ≡ ((b || is_met n met) || eqb m n)
    go true e = refl
    go false e = e

-- ---- in which order they join

-- The members of a list that have not been met, each where it is met first.
abbrev pub first_met : List ℕ → List ℕ → List ℕ
first_met met [] = []
first_met met (n ∷ l) = elim (is_met n met) [ true ↦ first_met met l | false ↦ n ∷ first_met (n ∷ met) l ]

first_met_same : (a b l : List ℕ) → ((n : ℕ) → is_met n a ≡ is_met n b) → first_met a l ≡ first_met b l
unfolding is_met
first_met_same a b [] e = refl
first_met_same a b (n ∷ l) e =
    go (is_met n a) (is_met n b) (e n) (first_met_same a b l e)
    (first_met_same (n ∷ a) (n ∷ b) l (λ k. ap (λ (c : Bool). eqb n k || c) (e k)))
  where
    go : (c d : Bool) → c ≡ d → first_met a l ≡ first_met b l → first_met (n ∷ a) l ≡ first_met (n ∷ b) l
        → ◌≡◌ {A = List ℕ} (elim c [ true ↦ first_met a l | false ↦ n ∷ first_met (n ∷ a) l ])
        (elim d [ true ↦ first_met b l | false ↦ n ∷ first_met (n ∷ b) l ])
    go true true p x y = x
    go true false p x y = let z : ◌≡◌ {A = ℕ} 0 1 = cc in absurd (omega arith)
    go false true p x y = let z : ◌≡◌ {A = ℕ} 0 1 = cc in absurd (omega arith)
    go false false p x y = ap (λ (k : List ℕ). n ∷ k) y

met_anywhere : (n m : ℕ) (met : List ℕ) → is_met n (met ++ (m ∷ [])) ≡ is_met n (m ∷ met)
unfolding is_met
met_anywhere n m met = met-last n m met ∙ go (is_met n met) (eqb m n)
  where
    go : (a b : Bool) → (a || b) ≡ (b || a)
    go true true = refl
    go true false = refl
    go false true = refl
    go false false = refl

-- What joins are the members not met, in the order in which they are met first.
pub meet_all_order : (met l : List ℕ) → meet_all met l ≡ met ++ first_met met l
unfolding meet_all meet
meet_all_order met [] = sym (append-nil met)
meet_all_order met (n ∷ l) = go (is_met n met) (meet_all_order met l) (meet_all_order (met ++ (n ∷ [])) l)
  where
    go : (b : Bool) → meet_all met l ≡ met ++ first_met met l
        → meet_all (met ++ (n ∷ [])) l ≡ (met ++ (n ∷ [])) ++ first_met (met ++ (n ∷ [])) l
        → meet_all (cond b met (met ++ (n ∷ []))) l ≡ met ++ elim b [ true ↦ first_met met l | false ↦ n ∷ first_met (n ∷ met) l ]
    go true x y = x
    go false x y =
        y ∙ append_assoc met (n ∷ []) (first_met (met ++ (n ∷ [])) l)
        ∙ ap (λ (k : List ℕ). met ++ (n ∷ k)) (first_met_same (met ++ (n ∷ [])) (n ∷ met) l (λ k. met_anywhere k n met))

-- What is first met in a list is a member of it.
pub first_met_member : (met l : List ℕ) (n : ℕ) → Memᴰ n (first_met met l) → Memᴰ n l
first_met_member met [] n m = m
first_met_member met (k ∷ l) n m = go (is_met k met) (λ x. first_met_member met l n x) (λ x. first_met_member (k ∷ met) l n x) m
  where
    go : (b : Bool) → (Memᴰ n (first_met met l) → Memᴰ n l) → (Memᴰ n (first_met (k ∷ met) l) → Memᴰ n l)
        → Memᴰ n (elim b [ true ↦ first_met met l | false ↦ k ∷ first_met (k ∷ met) l ]) → Memᴰ n (k ∷ l)
    go true f g x = Memᴰ.tail (f x)
    go false f g x = ⊎_elim (λ e. Memᴰ.head e) (λ y. Memᴰ.tail (g y)) (Memᴰ.cases_cons x)

-- ---- what joins has been met

meet_has : (met : List ℕ) (n : ℕ) → Met n (meet met n)
unfolding meet is_met
meet_has met n = go (is_met n met) refl
  where
    go : (b : Bool) → is_met n met ≡ b → T (is_met n (cond b met (met ++ (n ∷ []))))
    go true e = subst T (sym e) tt
    go false e = met_right n met (n ∷ []) (or_left (eqb n n) false (eqb_refl n))

pub meet_all_keeps : (n : ℕ) (met tail : List ℕ) → Met n met → Met n (meet_all met tail)
meet_all_keeps n met tail t = rw (meet_all_order met tail) (met_left n met (first_met met tail) t)

pub meet_all_has : (n : ℕ) (met tail : List ℕ) → Memᴰ n tail → Met n (meet_all met tail)
unfolding meet_all
meet_all_has n met [] m = absurd (Memᴰ.not-nil m)
meet_all_has n met (k ∷ tail) m =
    ⊎_elim (λ e. meet_all_keeps n (meet met k) tail (subst (λ (z : ℕ). Met z (meet met k)) (sym e) (meet_has met k)))
    (λ h. meet_all_has n (meet met k) tail h) (Memᴰ.cases_cons m)

-- ---- a number's place

-- Each number stands once: the one at a place has that place.
abbrev pub Once : List ℕ → Type 0
Once met = (i : ℕ) → i < length met → number_of met (get_or met i 0) ≡ i

pub number_below : (n : ℕ) (met : List ℕ) → Met n met → (number_of met n < length met) × (get_or met (number_of met n) 0 ≡ n)
unfolding is_met number_of
number_below n (m ∷ met) t = go (eqb m n) refl (λ x. number_below n met x) t
  where
    go : (b : Bool) → eqb m n ≡ b → (Met n met → (number_of met n < length met) × (get_or met (number_of met n) 0 ≡ n))
        → T (b || is_met n met)
        → (cond b 0 (suc (number_of met n)) < suc (length met))
        × (get_or (m ∷ met) (cond b 0 (suc (number_of met n))) 0 ≡ n)
    go true e ih x = (omega arith, eqb→eq m n (subst T (sym e) tt))
    go false e ih x = let r = ih x in ((let a = r.0 in omega arith), r.1)
number_below n [] t = elim t [ ]

pub number_left : (n : ℕ) (met more : List ℕ) → Met n met → number_of (met ++ more) n ≡ number_of met n
unfolding is_met number_of
number_left n (m ∷ met) more t = go (eqb m n) (λ x. number_left n met more x) t
  where
    go : (b : Bool) → (Met n met → number_of (met ++ more) n ≡ number_of met n) → T (b || is_met n met)
        → ◌≡◌ {A = ℕ} (cond b 0 (suc (number_of (met ++ more) n))) (cond b 0 (suc (number_of met n)))
    go true ih x = refl
    go false ih x = ap suc (ih x)
number_left n [] more t = elim t [ ]

pub number-last : (n : ℕ) (met : List ℕ) → is_met n met ≡ false → number_of (met ++ (n ∷ [])) n ≡ length met
unfolding is_met number_of
number-last n [] e = rw (eq-eqb n n refl, number_of)
number-last n (m ∷ met) e = go (eqb m n) (λ x. number-last n met x) e
  where
    go : (b : Bool) → (is_met n met ≡ false → number_of (met ++ (n ∷ [])) n ≡ length met) → (b || is_met n met) ≡ false
        → ◌≡◌ {A = ℕ} (cond b 0 (suc (number_of (met ++ (n ∷ [])) n))) (suc (length met))
    go true ih x = let z : ◌≡◌ {A = ℕ} 0 1 = cc in absurd (omega arith)
    go false ih x = ap suc (ih x)

-- The number at a place has been met.
pub met-at : (met : List ℕ) (i : ℕ) → i < length met → Met (get_or met i 0) met
unfolding is_met
met-at [] i h = absurd (not-suc-le-zero h)
met-at (m ∷ met) zero h = or_left (eqb m m) (is_met m met) (eqb_refl m)
met-at (m ∷ met) (suc i) h = or_right (eqb m (get_or met i 0)) (is_met (get_or met i 0) met) (met-at met i (omega arith))

pub met_member : (n : ℕ) (met : List ℕ) → Memᴰ n met → Met n met
unfolding is_met
met_member n [] m = absurd (Memᴰ.not-nil m)
met_member n (k ∷ met) m =
    ⊎_elim (λ e. or_left (eqb k n) (is_met n met) (true_holds (eqb k n) (eq-eqb k n (sym e))))
    (λ h. or_right (eqb k n) (is_met n met) (met_member n met h))
    (Memᴰ.cases_cons m)

once_meet : (met : List ℕ) (n : ℕ) → Once met → Once (meet met n)
unfolding meet
once_meet met n once = go (is_met n met) refl
  where
    go : (b : Bool) → is_met n met ≡ b → Once (cond b met (met ++ (n ∷ [])))
    go true e i h = once i h
    go false e i h =
        elim (ℕ_discrete i (length met)) [
          | yes p ↦
              subst (λ (z : ℕ). number_of (met ++ (n ∷ [])) (get_or (met ++ (n ∷ [])) z 0) ≡ z) (sym p)
              (ap (number_of (met ++ (n ∷ []))) (get_or-append_seam met n [] 0) ∙ number-last n met e)
          | no q ↦ let l : i < length met = omega (arith, length-append met (n ∷ [])) in
              ap (number_of (met ++ (n ∷ []))) (get_or-append met (n ∷ []) 0 i l) ∙ number_left (get_or met i 0) met (n ∷ [])
              (met-at met i l) ∙ once i l
        ]

pub once_meet_all : (met tail : List ℕ) → Once met → Once (meet_all met tail)
unfolding meet_all
once_meet_all met [] once = once
once_meet_all met (n ∷ tail) once = once_meet_all (meet met n) tail (once_meet met n once)
