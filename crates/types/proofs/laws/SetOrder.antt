-- Truth values ordered by implication, and sets of small numbers by inclusion: union keeps the order, and how many members a set has below
-- a bound. Nothing here speaks of types or expressions.
use Rattle.std.specs.Prelude.{◌≡◌, refl, Bool, true, false, ◌||◌, ◌&&◌, cond, ◌⊎◌, ℕ, zero, suc, ◌+◌, ◌≤◌, ◌<◌}
use Rattle.std.proofs.Common.{sym, ap, ap₂, ◌∙◌, true≢false, inl, inr, ⊎_elim, arith}
use Rattle.std.specs.Int.Bits.{bit_or}
use Rattle.basics.specs.Bits.{bit, ◌∈◌}
use Rattle.basics.proofs.laws.BitLaws.{bit_ext_all, ∈_cases, ∈_left, ∈_right}
use Rattle.basics.proofs.laws.Order.{compare_cases}

-- Truth values ordered by implication.
infix 40 ◌⇒◌
abbrev pub ◌⇒◌ : Bool → Bool → Type 0
a ⇒ b = a ≡ true → b ≡ true

pub implied_both : (a b : Bool) → a ⇒ b → b ⇒ a → a ≡ b
implied_both true b f g = sym (f refl)
implied_both false true f g = g refl
implied_both false false f g = refl

pub and_rises : (a a' b b' : Bool) → a ⇒ a' → b ⇒ b' → (a && b) ⇒ (a' && b')
and_rises true a' true b' f g e = ap₂ ◌&&◌ (f refl) (g refl)
and_rises true a' false b' f g e = absurd (true≢false (sym e))
and_rises false a' b b' f g e = absurd (true≢false (sym e))

pub or_rises : (a a' b b' : Bool) → a ⇒ a' → b ⇒ b' → (a || b) ⇒ (a' || b')
or_rises a true b b' f g e = refl
or_rises true false b b' f g e = absurd (true≢false (sym (f refl)))
or_rises false false b b' f g e = g e

pub or_most : (a b c : Bool) → a ⇒ c → b ⇒ c → (a || b) ⇒ c
or_most true b c f g e = f refl
or_most false b c f g e = g e

pub false_falls : (a b : Bool) → a ⇒ b → b ≡ false → a ≡ false
false_falls true b f e = sym (f refl) ∙ e
false_falls false b f e = refl

-- Inclusion.
infix 40 ◌⊆◌
abbrev pub ◌⊆◌ : ℕ → ℕ → Type 0
s ⊆ t = (i : ℕ) → i ∈ s → i ∈ t

pub included_both : (s t : ℕ) → s ⊆ t → t ⊆ s → s ≡ t
included_both s t f g = bit_ext_all s t (λ i. implied_both (bit s i) (bit t i) (f i) (g i))

pub union_rises : (s s' t t' : ℕ) → s ⊆ s' → t ⊆ t' → bit_or s t ⊆ bit_or s' t'
union_rises s s' t t' f g i h = ⊎_elim (λ x. ∈_left s' t' i (f i x)) (λ x. ∈_right s' t' i (g i x)) (∈_cases s t i h)

pub union_most : (s t u : ℕ) → s ⊆ u → t ⊆ u → bit_or s t ⊆ u
union_most s t u f g i h = ⊎_elim (f i) (g i) (∈_cases s t i h)

-- 1 if it holds, else 0.
unfoldable pub flag : Bool → ℕ
flag b = cond b 1 0

pub flag_rises : (a b : Bool) → a ⇒ b → flag a ≤ flag b
unfolding flag
flag_rises true b f = let e = f refl in omega (arith, ap flag e)
flag_rises false b f = omega arith

pub flag_most : (a : Bool) → flag a ≤ 1
unfolding flag
flag_most true = omega arith
flag_most false = omega arith

pub flag_implies : (a b : Bool) → flag a ≤ flag b → a ⇒ b
unfolding flag
flag_implies true true h e = refl
flag_implies true false h e = absurd (omega arith)
flag_implies false b h e = absurd (true≢false (sym e))

-- How many members a set has below k.
pub count : ℕ → ℕ → ℕ
count zero s = 0
count (suc k) s = flag (bit s k) + count k s

pub count_most : (k s : ℕ) → count k s ≤ k
unfolding count
count_most zero s = omega arith
count_most (suc k) s = omega (arith, flag_most (bit s k), count_most k s)

pub count_rises : (k s t : ℕ) → s ⊆ t → count k s ≤ count k t
unfolding count
count_rises zero s t f = omega arith
count_rises (suc k) s t f = omega (arith, flag_rises (bit s k) (bit t k) (f k), count_rises k s t f)

-- A set that is included in another and has no fewer members is that other, below k.
pub count_full : (k s t : ℕ) → s ⊆ t → count k t ≤ count k s → (i : ℕ) → i < k → i ∈ t → i ∈ s
unfolding count
count_full zero s t f h i l m = absurd (omega arith)
count_full (suc k) s t f h i l m =
    let a = flag_rises (bit s k) (bit t k) (f k) in
    let b = count_rises k s t f in
    go (count_full k s t f (omega arith) i) (flag_implies (bit t k) (bit s k) (omega arith)) (compare_cases i k)
  where
    go : (i < k → i ∈ t → i ∈ s) → (k ∈ t → k ∈ s) → (i < k) ⊎ ((i ≡ k) ⊎ (k < i)) → i ∈ s
    go below here (inl x) = below x m
    go below here (inr (inl x)) = rw x (here (rw x at m))
    go below here (inr (inr x)) = absurd (omega arith)
