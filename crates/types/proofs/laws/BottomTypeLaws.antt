-- The type of ⊥: it is the one that has nothing, and what has something is not it. Nothing here is about sequences.
use Rattle.std.specs.Prelude.{◌≡◌, refl, Bool, true, false, not, ◌&&◌, List, [], ◌∷◌, ℕ}
use Rattle.std.proofs.Common.{sym, subst, ◌∙◌}
use Rattle.std.proofs.Math.Path.{ap}
use Rattle.std.proofs.Math.Bool.{true≢false}
use Rattle.std.proofs.Math.Dec.{eqb}
use borrow.Author.Tests.{eqb-true, not-true}
use Rattle.basics.specs.Bits.{◌∈◌}
use Rattle.basics.proofs.laws.BitLaws.{∈_zero}
use Rattle.basics.proofs.laws.Truth.{and-true-first, and-true-second}
use Rattle.types.specs.Types.{LanguageType, bottom_type, is_bottom}
use Rattle.types.specs.TypeNames.{TypeHas}

pub bottom_is : is_bottom bottom_type ≡ true
unfolding is_bottom bottom_type
bottom_is = refl

module _ (a : LanguageType) where
  pub bottom_only : is_bottom a ≡ true → a ≡ bottom_type
  unfolding is_bottom bottom_type
  bottom_only e =
      let rest = and-true-second (not a.null) (eqb a.first 0 && eqb a.flast 0) e in
      let n = not-true a.null (and-true-first (not a.null) (eqb a.first 0 && eqb a.flast 0) e) in
      let s = eqb-true a.first 0 (and-true-first (eqb a.first 0) (eqb a.flast 0) rest) in
      let t = eqb-true a.flast 0 (and-true-second (eqb a.first 0) (eqb a.flast 0) rest) in
      λ i. record { null = n i; first = s i; flast = t i }

  pub not_bottom : (a ≡ bottom_type → ⊥) → is_bottom a ≡ false
  not_bottom h = go (is_bottom a) refl
    where
      go : (b : Bool) → is_bottom a ≡ b → is_bottom a ≡ false
      go true e = absurd (h (bottom_only e))
      go false e = e

  pub bottom_not : is_bottom a ≡ false → a ≡ bottom_type → ⊥
  bottom_not h e = true≢false (sym bottom_is ∙ (ap is_bottom (sym e) ∙ h))

  pub null_not_bottom : a.null ≡ true → is_bottom a ≡ false
  unfolding bottom_type
  null_not_bottom n = not_bottom (λ e. true≢false (sym n ∙ ap (λ (c : LanguageType). c.null) e))

  module _ (i : ℕ) where
    pub first-not_bottom : i ∈ a.first → is_bottom a ≡ false
    unfolding bottom_type
    first-not_bottom m = not_bottom (λ e. ∈_zero i (subst (λ (c : LanguageType). i ∈ c.first) e m))

    pub flast_not_bottom : i ∈ a.flast → is_bottom a ≡ false
    unfolding bottom_type
    flast_not_bottom m = not_bottom (λ e. ∈_zero i (subst (λ (c : LanguageType). i ∈ c.flast) e m))

  pub has_not_bottom : (w : List ℕ) → TypeHas a w → is_bottom a ≡ false
  has_not_bottom [] h = null_not_bottom h
  has_not_bottom (t ∷ w) h = first-not_bottom t h
