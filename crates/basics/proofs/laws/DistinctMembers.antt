-- Numbers that stand once each and are all among the members of a list are no more than that list is long.
use Rattle.std.specs.Prelude.{◌≡◌, refl, Bool, true, false, ◌||◌, ℕ, zero, suc, ◌+◌, ◌≤◌, ◌<◌, eqb, get_or, length, take, drop}
use Rattle.std.proofs.Common.{sym, ap, subst, ◌∙◌, ⊎_elim, arith, not-suc-le-zero, take-append-drop, take-suc, length-take-le, eq-eqb}
use mathlib.Core.List.Memᴰ
use mathlib.Core.List.{List, [], ◌∷◌, ◌++◌, Memᴰ}
use Rattle.std.proofs.Math.Decide.{ℕ_discrete}
use Rattle.basics.proofs.laws.Truth.{true_holds}
use Rattle.basics.proofs.laws.Members.{member_at}
use Rattle.basics.specs.Meeting.{is_met, number_of}
use Rattle.basics.specs.laws.MeetingLaws.{Met}
use Rattle.basics.proofs.laws.MeetingLaws.{Once, met-last, number_left, number_below}

-- ---- members of a list that have not been met

abbrev one_unless : Bool → ℕ
one_unless true = 0
one_unless false = 1

-- How many entries of a list have not been met.
abbrev unmet_in : List ℕ → List ℕ → ℕ
unmet_in [] met = 0
unmet_in (n ∷ l) met = one_unless (is_met n met) + unmet_in l met

fewer : (a b : Bool) → one_unless (a || b) ≤ one_unless a
fewer true b = omega arith
fewer false true = omega arith
fewer false false = omega arith

unmet_falls : (l met : List ℕ) (m : ℕ) → unmet_in l (met ++ (m ∷ [])) ≤ unmet_in l met
unmet_falls [] met m = omega arith
unmet_falls (n ∷ l) met m = rw (met-last n m met) (let a = fewer (is_met n met) (eqb m n) in let b = unmet_falls l met m in omega arith)

unmet_less : (l met : List ℕ) (m : ℕ) → Memᴰ m l → is_met m met ≡ false → suc (unmet_in l (met ++ (m ∷ []))) ≤ unmet_in l met
unmet_less [] met m k e = absurd (Memᴰ.not-nil k)
unmet_less (n ∷ l) met m k e =
    ⊎_elim
    (λ p.
    let same : eqb m n ≡ true = eq-eqb m n p in
    let new : is_met n met ≡ false = subst (λ (z : ℕ). is_met z met ≡ false) p e in
    let b = unmet_falls l met m in
    rw (met-last n m met, same, new) (omega arith))
    (λ h. let a = fewer (is_met n met) (eqb m n) in let b = unmet_less l met m h e in rw (met-last n m met) (omega arith))
    (Memᴰ.cases_cons k)

-- ---- distinct members

-- A number that stands once has not been met before its place.
new_at_place : (met : List ℕ) → Once met → (i : ℕ) → i < length met → is_met (get_or met i 0) (take i met) ≡ false
new_at_place met once i h = go (is_met (get_or met i 0) (take i met)) refl
  where
    go : (b : Bool) → is_met (get_or met i 0) (take i met) ≡ b → b ≡ false
    go false e = refl
    go true e =
        let t : Met (get_or met i 0) (take i met) = true_holds (is_met (get_or met i 0) (take i met)) e in
        let below = (number_below (get_or met i 0) (take i met) t).0 in
        let size = length-take-le i met (omega arith) in
        let same : number_of met (get_or met i 0) ≡ number_of (take i met) (get_or met i 0) =
        ap (λ (l : List ℕ). number_of l (get_or met i 0)) (sym (take-append-drop i met)) ∙ number_left (get_or met i 0) (take i met)
        (drop i met) t in
        absurd (omega (arith, once i h))

prefix_few : (met l : List ℕ) → Once met → ((n : ℕ) → Memᴰ n met → Memᴰ n l) → (i : ℕ) → i ≤ length met
    → i + unmet_in l (take i met) ≤ unmet_in l []
prefix_few met l once inside zero h = omega arith
prefix_few met l once inside (suc i) h =
    let a = prefix_few met l once inside i (omega arith) in
    let b = unmet_less l (take i met) (get_or met i 0) (inside (get_or met i 0) (member_at met i 0 h)) (new_at_place met once i h) in
    rw (take-suc met i 0 h) (omega arith)

unmet_none : (l : List ℕ) → unmet_in l [] ≤ length l
unfolding is_met
unmet_none [] = omega arith
unmet_none (n ∷ l) = let a = unmet_none l in omega arith

-- Distinct members of a list are no more than the list is long.
pub distinct_few : (met l : List ℕ) → Once met → ((n : ℕ) → Memᴰ n met → Memᴰ n l) → length met ≤ length l
distinct_few met l once inside = let a = prefix_few met l once inside (length met) (omega arith) in let b = unmet_none l in omega arith

-- The numbers below n.
abbrev numbers_below : ℕ → List ℕ
numbers_below zero = []
numbers_below (suc n) = n ∷ numbers_below n

numbers_below-length : (n : ℕ) → length (numbers_below n) ≡ n
numbers_below-length zero = refl
numbers_below-length (suc n) = ap suc (numbers_below-length n)

numbers_below-all : (n x : ℕ) → x < n → Memᴰ x (numbers_below n)
numbers_below-all zero x h = absurd (not-suc-le-zero h)
numbers_below-all (suc n) x h =
    elim (ℕ_discrete x n) [ yes e ↦ Memᴰ.head e | no e ↦ Memᴰ.tail (numbers_below-all n x (omega arith)) ]

-- Distinct numbers below n are at most n.
pub distinct_below : (met : List ℕ) (n : ℕ) → Once met → ((x : ℕ) → Memᴰ x met → x < n) → length met ≤ n
distinct_below met n once below =
    omega (arith, distinct_few met (numbers_below n) once (λ x m. numbers_below-all n x (below x m)), numbers_below-length n)
