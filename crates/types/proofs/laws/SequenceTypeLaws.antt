-- What the type τ₁ · τ₂ of a sequence has, in and out: when it is NULL, which tokens are in FIRST and which in FLAST. It has something only
-- if neither part's type is that of ⊥. Proofs elsewhere go by these laws and do not open the definition.
use Rattle.std.specs.Prelude.{◌≡◌, Bool, ◌||◌, ◌⊎◌, ℕ}
use Rattle.std.proofs.Math.Path.{refl, ap₂, subst}
use Rattle.std.proofs.Common.{sym, ◌∙◌, true≢false}
use Rattle.std.proofs.Math.Bool.{true, false, ◌&&◌, cond}
use Rattle.std.proofs.lemmas.Bool.{false≢true}
use Rattle.std.proofs.Math.Logic.{inl, inr, ⊎_elim}
use Rattle.std.specs.Int.Bits.{bit_or}
use Rattle.basics.specs.Bits.{◌∈◌}
use Rattle.basics.proofs.laws.BitLaws.{∈_zero, ∈_left, ∈_right, ∈_cases, ∈_cond, ∈_when}
use Rattle.basics.proofs.laws.Truth.{and-true-first, and-true-second}
use Rattle.types.specs.Types.{LanguageType, if_null, bottom_type, flap_sequence_type, is_bottom, sequence_type}
use Rattle.types.proofs.laws.BottomTypeLaws.{bottom_is, null_not_bottom, first-not_bottom, flast_not_bottom}

module _ (a b : LanguageType) where
  abbrev by_flap : LanguageType
  by_flap = flap_sequence_type a b

  -- By whether a part's type is that of ⊥.
  pub sequence_cases : (P : LanguageType → Type 0) → (is_bottom a ≡ true → P bottom_type) → (is_bottom b ≡ true → P bottom_type)
      → (is_bottom a ≡ false → is_bottom b ≡ false → P (flap_sequence_type a b)) → P (sequence_type a b)
  unfolding sequence_type
  sequence_cases P f g h = go (is_bottom a) (is_bottom b) refl refl
    where
      go : (x y : Bool) → is_bottom a ≡ x → is_bottom b ≡ y → P (cond (x || y) bottom_type (flap_sequence_type a b))
      go true y e i = f e
      go false true e i = g i
      go false false e i = h e i

  -- What holds of the flap paper's type, and of that of ⊥, holds of a sequence's.
  pub sequence_either : (P : LanguageType → Type 0) → P bottom_type → P (flap_sequence_type a b) → P (sequence_type a b)
  sequence_either P x y = sequence_cases P (λ e. x) (λ e. x) (λ e i. y)

  -- A sequence whose type is not that of ⊥ has parts whose types are not.
  pub sequence_parts : is_bottom (sequence_type a b) ≡ false → (is_bottom a ≡ false) × (is_bottom b ≡ false)
  sequence_parts = sequence_cases (λ c. is_bottom c ≡ false → (is_bottom a ≡ false) × (is_bottom b ≡ false))
      (λ e h. absurd (true≢false (sym bottom_is ∙ h))) (λ e h. absurd (true≢false (sym bottom_is ∙ h))) (λ e i h. (e, i))

  -- If neither part's type is that of ⊥, a sequence has what the flap paper gives it.
  pub sequence_by_flap : is_bottom a ≡ false → is_bottom b ≡ false → sequence_type a b ≡ flap_sequence_type a b
  unfolding sequence_type
  sequence_by_flap e i = ap₂ (λ x y. cond (x || y) bottom_type (flap_sequence_type a b)) e i

  pub sequence_null : a.null ≡ true → b.null ≡ true → (sequence_type a b).null ≡ true
  unfolding flap_sequence_type
  sequence_null e f = subst (λ (c : LanguageType). c.null ≡ true) (sym (sequence_by_flap (null_not_bottom a e) (null_not_bottom b f)))
      (ap₂ ◌&&◌ e f)

  both_null : (sequence_type a b).null ≡ true → (a.null && b.null) ≡ true
  unfolding bottom_type flap_sequence_type
  both_null = sequence_either (λ c. c.null ≡ true → (a.null && b.null) ≡ true) (λ e. absurd (false≢true e)) (λ e. e)

  pub sequence_null_left : (sequence_type a b).null ≡ true → a.null ≡ true
  sequence_null_left e = and-true-first a.null b.null (both_null e)

  pub sequence_null_right : (sequence_type a b).null ≡ true → b.null ≡ true
  sequence_null_right e = and-true-second a.null b.null (both_null e)

  module _ (i : ℕ) where
    from_first : is_bottom a ≡ false → is_bottom b ≡ false → i ∈ by_flap.first → i ∈ (sequence_type a b).first
    from_first p q = subst (λ (c : LanguageType). i ∈ c.first) (sym (sequence_by_flap p q))

    pub sequence_first_left : is_bottom b ≡ false → i ∈ a.first → i ∈ (sequence_type a b).first
    unfolding flap_sequence_type
    sequence_first_left q m = from_first (first-not_bottom a i m) q (∈_left a.first (if_null a.null b.first) i m)

    pub sequence_first_right : a.null ≡ true → i ∈ b.first → i ∈ (sequence_type a b).first
    unfolding flap_sequence_type
    sequence_first_right e m = from_first (null_not_bottom a e) (first-not_bottom b i m)
        (∈_right a.first (if_null a.null b.first) i (∈_when a.null b.first i e m))

    pub sequence_first-cases : i ∈ (sequence_type a b).first → (i ∈ a.first) ⊎ ((a.null ≡ true) × (i ∈ b.first))
    unfolding bottom_type flap_sequence_type
    sequence_first-cases = sequence_either (λ c. i ∈ c.first → (i ∈ a.first) ⊎ ((a.null ≡ true) × (i ∈ b.first))) (λ m. ∈_zero i m)
        (λ m. ⊎_elim inl (λ x. inr (∈_cond a.null b.first i x)) (∈_cases a.first (if_null a.null b.first) i m))

    from_flast : is_bottom a ≡ false → is_bottom b ≡ false → i ∈ by_flap.flast → i ∈ (sequence_type a b).flast
    from_flast p q = subst (λ (c : LanguageType). i ∈ c.flast) (sym (sequence_by_flap p q))

    pub sequence_flast_right : is_bottom a ≡ false → i ∈ b.flast → i ∈ (sequence_type a b).flast
    unfolding flap_sequence_type
    sequence_flast_right p m = from_flast p (flast_not_bottom b i m)
        (∈_left b.flast (if_null b.null (bit_or b.first a.flast)) i m)

    -- Where the right part may be empty: what it may begin with, and what the left part may go on with.
    from_null : is_bottom a ≡ false → b.null ≡ true → i ∈ bit_or b.first a.flast → i ∈ (sequence_type a b).flast
    unfolding flap_sequence_type
    from_null p e m = from_flast p (null_not_bottom b e)
        (∈_right b.flast (if_null b.null (bit_or b.first a.flast)) i (∈_when b.null (bit_or b.first a.flast) i e m))

    pub sequence_flast_first : is_bottom a ≡ false → b.null ≡ true → i ∈ b.first → i ∈ (sequence_type a b).flast
    sequence_flast_first p e m = from_null p e (∈_left b.first a.flast i m)

    pub sequence_flast_left : b.null ≡ true → i ∈ a.flast → i ∈ (sequence_type a b).flast
    sequence_flast_left e m = from_null (flast_not_bottom a i m) e (∈_right b.first a.flast i m)

    pub sequence_flast_cases : i ∈ (sequence_type a b).flast
        → (i ∈ b.flast) ⊎ ((b.null ≡ true) × ((i ∈ b.first) ⊎ (i ∈ a.flast)))
    unfolding bottom_type flap_sequence_type
    sequence_flast_cases = sequence_either (λ c. i ∈ c.flast → (i ∈ b.flast) ⊎ ((b.null ≡ true) × ((i ∈ b.first) ⊎ (i ∈ a.flast))))
        (λ m. ∈_zero i m)
        (λ m. ⊎_elim inl (λ x. let y = ∈_cond b.null (bit_or b.first a.flast) i x in inr (y.0, ∈_cases b.first a.flast i y.1))
        (∈_cases b.flast (if_null b.null (bit_or b.first a.flast)) i m))
