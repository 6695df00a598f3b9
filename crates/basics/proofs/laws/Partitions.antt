-- A stable partition of a list: what holds of every member still does, and no member is lost. Laws of lists in general.
use Rattle.std.specs.Prelude.{◌≡◌, Bool, ℕ, ◌+◌, length}
use Rattle.std.proofs.Math.Path.{refl, ap}
use Rattle.std.proofs.Common.{sym, ◌∙◌}
use Rattle.std.proofs.Math.Bool.{true, false, not}
use mathlib.Core.List.{List, [], ◌∷◌}
use native.Mathlib.Omega.{arith}
use Rattle.basics.specs.Lists.{All, sum, filter, partition}
use Rattle.basics.proofs.laws.Members.{all-append, sum-append}

module _ {A : Type 0} where
  -- By what the test says of the first member.
  pub filter_one : (p : A → Bool) (a : A) (l : List A) → p a ≡ true → filter p (a ∷ l) ≡ a ∷ filter p l
  unfolding filter
  filter_one p a l e = rw (e, filter) refl

  pub filter_other : (p : A → Bool) (a : A) (l : List A) → p a ≡ false → filter p (a ∷ l) ≡ filter p l
  unfolding filter
  filter_other p a l e = rw (e, filter) refl

  module _ (p : A → Bool) where
    all_filter : (P : A → Type 0) (l : List A) → All P l → All P (filter p l)
    unfolding filter
    all_filter P [] h = tt
    all_filter P (a ∷ l) h = go (p a) h.0 (all_filter P l h.1)
      where
        go : (b : Bool) → P a → All P (filter p l) → All P (elim b [ true ↦ a ∷ filter p l | false ↦ filter p l ])
        go true x k = (x, k)
        go false x k = k

    pub sum-parts : (f : A → ℕ) (l : List A) → sum f (filter p l) + sum f (filter (λ a. not (p a)) l) ≡ sum f l
    unfolding filter
    sum-parts f [] = refl
    sum-parts f (a ∷ l) = go (p a) (sum-parts f l)
      where
        go : (b : Bool) → sum f (filter p l) + sum f (filter (λ a. not (p a)) l) ≡ sum f l
            → sum f (elim b [ true ↦ a ∷ filter p l | false ↦ filter p l ])
            + sum f (elim (not b) [ true ↦ a ∷ filter (λ a. not (p a)) l | false ↦ filter (λ a. not (p a)) l ])
            ≡ f a + sum f l
        go true e = omega arith
        go false e = omega arith

  sum_one : (l : List A) → sum (λ a. 1) l ≡ length l
  sum_one [] = refl
  sum_one (a ∷ l) = omega (arith, sum_one l)

  module _ (p : A → Bool) where
    pub sum-partition : (f : A → ℕ) (l : List A) → sum f (partition p l) ≡ sum f l
    unfolding partition
    sum-partition f l = sum-append f (filter p l) (filter (λ a. not (p a)) l) ∙ sum-parts p f l

    pub all-partition : (P : A → Type 0) (l : List A) → All P l → All P (partition p l)
    unfolding partition
    all-partition P l h =
        all-append P (filter p l) (filter (λ a. not (p a)) l) (all_filter p P l h) (all_filter (λ a. not (p a)) P l h)

    pub length-partition : (l : List A) → length (partition p l) ≡ length l
    length-partition l = sym (sum_one (partition p l)) ∙ (sum-partition (λ a. 1) l ∙ sum_one l)

    -- Where all members pass the test, and where none does.
    pub all_pass : (l : List A) → All (λ a. p a ≡ true) l → filter p l ≡ l
    unfolding filter
    all_pass [] h = refl
    all_pass (a ∷ l) h = filter_one p a l h.0 ∙ ap (λ (k : List A). a ∷ k) (all_pass l h.1)

    pub none_pass : (l : List A) → All (λ a. p a ≡ false) l → filter p l ≡ []
    unfolding filter
    none_pass [] h = refl
    none_pass (a ∷ l) h = filter_other p a l h.0 ∙ none_pass l h.1
