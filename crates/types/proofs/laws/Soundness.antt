-- the typing paper's Theorem 4.3: what a typed expression denotes satisfies its type; the parts of an alternative have no word in common, and a
-- sequence's words are cut in one way only (its Lemmas 3.3 and 3.4). Types that are too large satisfy as well; which types are least is not
-- asked here.
use Rattle.std.specs.Prelude.{◌≡◌, refl, false, ◌&&◌, ◌||◌, ◌⊎◌, ℕ, zero, suc, ◌+◌, ◌^◌}
use Rattle.std.proofs.Common.{sym, ap, ap₂, subst, ◌∙◌, true≢false, inl, inr, arith}
use Rattle.std.proofs.Math.Bool.{true}
use mathlib.Core.List.{List, [], ◌∷◌, ◌++◌, append_assoc, head-eq_of_cons-eq, tail-eq_of_cons-eq, cons≢nil, nil≢cons}
use Rattle.std.specs.Int.Bits.{bit_or}
use Rattle.basics.proofs.laws.Truth.{or-true_left, or-true_right}
use Rattle.basics.specs.Bits.{◌∈◌}
use Rattle.basics.proofs.laws.BitLaws.{∈_left, ∈_right, ∈_self, ∈_disjoint}
use Rattle.sheet.specs.Expression.{Expression}
use Rattle.types.specs.Denotation.{Language, followed_by, iterate, least_fixed_point, language_at, denotation, Denotes}
use Rattle.types.specs.Languages.{no_words, either, none_or_more, any_number_of, Environment}
use Rattle.types.specs.Types.{LanguageType, epsilon_type, bottom_type, token_type, is_bottom, sequence_type, alternative_type, repetition_type, repetition_type_with, Separable, Apart, Hypothesis, all_usable, Usable, here, there, ◌⊢◌∶◌, type_epsilon, type_bottom, type_token, type_variable, type_sequence, type_alternative, type_fixed_point, type_repetition}
use Rattle.types.specs.TypeNames.{Context, TypeHas}
use Rattle.types.proofs.laws.DenotationLaws.{Pointwise, pointwise_nil, pointwise_cons, ◌⊆◌, none_or_more_monotone, body_monotone, iterate_rises}
use Rattle.types.proofs.laws.BottomTypeLaws.{has_not_bottom}
use Rattle.types.proofs.laws.SequenceTypeLaws.{sequence_first_left, sequence_flast_right, sequence_flast_first, sequence_flast_left}
use Rattle.types.proofs.laws.TypeLaws.{separable_from_repetition, epsilon_apart}

-- A language satisfies a type, section 2.1 of the flap paper: "(1) when the empty string is in L, NULL is true; (2) the set of tokens that can
-- start any string in L is a subset of FIRST; (3) the set of tokens which can follow the last token of a string in L is a subset of
-- FLAST." A string with a last token is written t ∷ u; c follows it where t ∷ u, then c, then more is in L too.
pub record Satisfies (L : Language) (a : LanguageType) : Type 0 where
  pub null_holds : L [] → a.null ≡ true
  pub first_holds : (c : ℕ) (w : List ℕ) → L (c ∷ w) → c ∈ a.first
  pub flast_holds : (t : ℕ) (u : List ℕ) (c : ℕ) (v : List ℕ) → L (t ∷ u) → L ((t ∷ u) ++ (c ∷ v)) → c ∈ a.flast

-- A type that a language with a word satisfies is not that of ⊥.
word_has : {L : Language} {a : LanguageType} → Satisfies L a → (w : List ℕ) → L w → TypeHas a w
word_has s [] h = s.null_holds h
word_has s (c ∷ w) h = s.first_holds c w h

word_not_bottom : {L : Language} {a : LanguageType} → Satisfies L a → (w : List ℕ) → L w → is_bottom a ≡ false
word_not_bottom {a = a} s w h = has_not_bottom a w (word_has s w h)

bottom_satisfies : Satisfies no_words bottom_type
bottom_satisfies = record {
  null_holds = λ h. absurd h;
  first_holds = λ c w h. absurd h;
  flast_holds = λ t u c v h k. absurd h;
}

epsilon_satisfies : Satisfies (λ w. w ≡ []) epsilon_type
unfolding epsilon_type
epsilon_satisfies = record {
  null_holds = λ h. refl;
  first_holds = λ c w h. absurd (cons≢nil h);
  flast_holds = λ t u c v h k. absurd (cons≢nil h);
}

token_satisfies : (k : ℕ) → Satisfies (λ w. w ≡ k ∷ []) (token_type k)
unfolding token_type
token_satisfies k = record {
  null_holds = λ h. absurd (nil≢cons h);
  first_holds = λ c w h. subst (λ (n : ℕ). n ∈ 2 ^ k) (sym (head-eq_of_cons-eq h)) (∈_self k);
  flast_holds = λ t u c v h e. absurd (one_token u c v (tail-eq_of_cons-eq h) (tail-eq_of_cons-eq e));
}
  where
    one_token : (u : List ℕ) (c : ℕ) (v : List ℕ) → u ≡ [] → u ++ (c ∷ v) ≡ [] → ⊥
    one_token [] c v p q = cons≢nil q
    one_token (d ∷ u) c v p q = cons≢nil p

-- Two ways to cut one word: alike, or one first part goes on where the other ends.
pub data Cuts (x y x' y' : List ℕ) : Type 0 where
  alike : x ≡ x' → y ≡ y' → Cuts x y x' y'
  later : (c : ℕ) (v : List ℕ) → x' ≡ x ++ (c ∷ v) → y ≡ c ∷ (v ++ y') → Cuts x y x' y'
  earlier : (c : ℕ) (v : List ℕ) → x ≡ x' ++ (c ∷ v) → y' ≡ c ∷ (v ++ y) → Cuts x y x' y'

cuts_cons : {x y x' y' : List ℕ} (c d : ℕ) → c ≡ d → Cuts x y x' y' → Cuts (c ∷ x) y (d ∷ x') y'
cuts_cons c d e (alike p q) = alike (cc) q
cuts_cons c d e (later k v p q) = later k v (cc) q
cuts_cons c d e (earlier k v p q) = earlier k v (cc) q

pub two_cuts : (x y x' y' : List ℕ) → x ++ y ≡ x' ++ y' → Cuts x y x' y'
two_cuts [] y [] y' e = alike refl e
two_cuts [] y (c ∷ x') y' e = later c x' refl e
two_cuts (c ∷ x) y [] y' e = earlier c x refl (sym e)
two_cuts (c ∷ x) y (d ∷ x') y' e = cuts_cons c d (head-eq_of_cons-eq e) (two_cuts x y x' y' (tail-eq_of_cons-eq e))

module _ (L M : Language) (a b : LanguageType) (s : Satisfies L a) (r : Satisfies M b) where
  module _ (k : Apart a b) where
    -- No word of L begins with a token that begins a word of M.
    pub no_common_start : (c : ℕ) (w w' : List ℕ) → L (c ∷ w) → M (c ∷ w') → ⊥
    no_common_start c w w' x y = ∈_disjoint a.first b.first c k.disjoint (s.first_holds c w x) (r.first_holds c w' y)

    -- Lemma 3.3 of the typing paper, disjunctive unique decomposition: L ∩ M = ∅.
    pub no_common_word : (w : List ℕ) → L w → M w → ⊥
    no_common_word [] x y = true≢false (sym (ap₂ ◌&&◌ (s.null_holds x) (r.null_holds y)) ∙ k.one_null)
    no_common_word (c ∷ w) x y = no_common_start c w w x y

    alternative_satisfies : Satisfies (either L M) (alternative_type a b)
    unfolding alternative_type
    alternative_satisfies = record { null_holds = null; first_holds = first; flast_holds = flast }
      where
        null : L [] ⊎ M [] → (a.null || b.null) ≡ true
        null (inl x) = or-true_left a.null b.null (s.null_holds x)
        null (inr y) = or-true_right a.null b.null (r.null_holds y)

        first : (c : ℕ) (w : List ℕ) → L (c ∷ w) ⊎ M (c ∷ w) → c ∈ bit_or a.first b.first
        first c w (inl x) = ∈_left a.first b.first c (s.first_holds c w x)
        first c w (inr y) = ∈_right a.first b.first c (r.first_holds c w y)

        flast : (d : ℕ) (u : List ℕ) (c : ℕ) (v : List ℕ) → L (d ∷ u) ⊎ M (d ∷ u) → L ((d ∷ u) ++ (c ∷ v)) ⊎ M ((d ∷ u) ++ (c ∷ v))
            → c ∈ bit_or a.flast b.flast
        flast d u c v (inl x) (inl y) = ∈_left a.flast b.flast c (s.flast_holds d u c v x y)
        flast d u c v (inl x) (inr y) = absurd (no_common_start d u (u ++ (c ∷ v)) x y)
        flast d u c v (inr x) (inl y) = absurd (no_common_start d (u ++ (c ∷ v)) u y x)
        flast d u c v (inr x) (inr y) = ∈_right a.flast b.flast c (r.flast_holds d u c v x y)

  module _ (k : Separable a b) where
    first_not_empty : L [] → ⊥
    first_not_empty x = true≢false (sym (s.null_holds x) ∙ k.not_null)

    -- A word of L has a last token.
    flast_of : (x : List ℕ) (c : ℕ) (v : List ℕ) → L x → L (x ++ (c ∷ v)) → c ∈ a.flast
    flast_of [] c v p q = absurd (first_not_empty p)
    flast_of (d ∷ u) c v p q = s.flast_holds d u c v p q

    -- No word of L goes on, inside L, with a token that begins a word of M.
    goes_not_on : (x : List ℕ) (c : ℕ) (v y : List ℕ) → L x → L (x ++ (c ∷ v)) → M (c ∷ y) → ⊥
    goes_not_on x c v y p q m = ∈_disjoint a.flast b.first c k.disjoint (flast_of x c v p q) (r.first_holds c y m)

    -- Lemma 3.4 of the typing paper: unique decomposition.
    pub unique_decomposition : (x y x' y' : List ℕ) → L x → M y → L x' → M y' → x ++ y ≡ x' ++ y' → (x ≡ x') × (y ≡ y')
    unique_decomposition x y x' y' p q p' q' e = go (two_cuts x y x' y' e)
      where
        go : Cuts x y x' y' → (x ≡ x') × (y ≡ y')
        go (alike f g) = (f, g)
        go (later c v f g) = absurd (goes_not_on x c v (v ++ y') p (subst L f p') (subst M g q))
        go (earlier c v f g) = absurd (goes_not_on x' c v (v ++ y) p' (subst L f p) (subst M g q'))

    -- Lemma 3.5 of the typing paper: x y is a word, and so is x' y', which is x y then c then v. The word of M in the shorter one is split first.
    sequence_flast : (x y : List ℕ) (c : ℕ) (v : List ℕ) → L x → M y → (x' y' : List ℕ) → L x' → M y' → Cuts x (y ++ (c ∷ v)) x' y'
        → c ∈ (sequence_type a b).flast
    sequence_flast x y c v p q x' y' p' q' (earlier d u f g) =
        absurd (goes_not_on x' d u (u ++ (y ++ (c ∷ v))) p' (subst L f p) (subst M g q'))
    sequence_flast x [] c v p q x' y' p' q' (alike f g) =
        sequence_flast_first a b c (word_not_bottom s x p) (r.null_holds q) (r.first_holds c v (subst M (sym g) q'))
    sequence_flast x [] c v p q x' y' p' q' (later d u f g) = sequence_flast_left a b c (r.null_holds q)
        (subst (λ (n : ℕ). n ∈ a.flast) (sym (head-eq_of_cons-eq g)) (flast_of x d u p (subst L f p')))
    sequence_flast x (d ∷ y) c v p q x' y' p' q' (alike f g) =
        sequence_flast_right a b c (word_not_bottom s x p) (r.flast_holds d y c v q (subst M (sym g) q'))
    sequence_flast x (d ∷ y) c v p q x' y' p' q' (later e u f g) =
        absurd (goes_not_on x e u y p (subst L f p') (subst (λ (n : ℕ). M (n ∷ y)) (head-eq_of_cons-eq g) q))

    sequence_satisfies : Satisfies (followed_by L M) (sequence_type a b)
    sequence_satisfies = record {
      null_holds = λ h. null h.0 h.1 h.2 h.3;
      first_holds = λ c w h. first c w h.0 h.1 h.2 h.3 h.4;
      flast_holds = λ d u c v x y. sequence_flast x.0 x.1 c v x.3 x.4 y.0 y.1 y.3 y.4
          (two_cuts x.0 (x.1 ++ (c ∷ v)) y.0 y.1
          (sym (append_assoc x.0 x.1 (c ∷ v)) ∙ (ap (λ (z : List ℕ). z ++ (c ∷ v)) (sym x.2) ∙ y.2)));
    }
      where
        null : (u v : List ℕ) → [] ≡ u ++ v → L u → (sequence_type a b).null ≡ true
        null [] v e p = absurd (first_not_empty p)
        null (c ∷ u) v e p = absurd (nil≢cons e)

        first : (c : ℕ) (w u v : List ℕ) → c ∷ w ≡ u ++ v → L u → M v → c ∈ (sequence_type a b).first
        first c w [] v e p q = absurd (first_not_empty p)
        first c w (d ∷ u) v e p q = sequence_first_left a b c (word_not_bottom r v q)
            (subst (λ (n : ℕ). n ∈ a.first) (sym (head-eq_of_cons-eq e)) (s.first_holds d u p))

-- The union of a rising chain of languages: two words of it lie in one common member.
fixed_point_satisfies : (f : Language → Language) → ((L M : Language) → L ⊆ M → f L ⊆ f M) → (a : LanguageType)
    → ((L : Language) → Satisfies L a → Satisfies (f L) a) → Satisfies (least_fixed_point f) a
fixed_point_satisfies f monotone a step = record {
  null_holds = λ h. (at h.0).null_holds h.1;
  first_holds = λ c w h. (at h.0).first_holds c w h.1;
  flast_holds = flast;
}
  where
    at : (i : ℕ) → Satisfies (iterate f i) a
    at zero = record { null_holds = λ h. absurd h; first_holds = λ c w h. absurd h; flast_holds = λ t u c v h k. absurd h }
    at (suc i) = step (iterate f i) (at i)

    flast : (t : ℕ) (u : List ℕ) (c : ℕ) (v : List ℕ) → least_fixed_point f (t ∷ u) → least_fixed_point f ((t ∷ u) ++ (c ∷ v))
        → c ∈ a.flast
    flast t u c v h k = (at (h.0 + k.0)).flast_holds t u c v
        (iterate_rises f monotone h.0 (h.0 + k.0) (omega arith) (t ∷ u) h.1)
        (iterate_rises f monotone k.0 (h.0 + k.0) (omega arith) ((t ∷ u) ++ (c ∷ v)) k.1)

-- A repetition, as μβ.(ε ∨ g·β) from its part's language.
repetition_satisfies : (L : Language) {a b : LanguageType} → Satisfies L a → Separable a a → b ≡ repetition_type a b
    → Satisfies (any_number_of L) b
unfolding repetition_type_with
repetition_satisfies L {a} {b} s k e = fixed_point_satisfies (none_or_more L)
    (λ M M'. none_or_more_monotone L L M M' (λ w h. h)) b
    (λ M r. subst (Satisfies (none_or_more L M)) (sym e)
    (alternative_satisfies (λ w. w ≡ []) (followed_by L M) epsilon_type (sequence_type a b) epsilon_satisfies
    (sequence_satisfies L M a b s r (separable_from_repetition a b e k)) (epsilon_apart a b k.not_null)))

-- Each open variable's language satisfies its type.
abbrev pub SatisfiesHypothesis : Language → Hypothesis → Type 0
SatisfiesHypothesis L h = Satisfies L h.type

satisfies_at : {γ : Environment} {Γ : Context} {n : ℕ} {a : LanguageType}
    → Pointwise SatisfiesHypothesis γ Γ → Usable Γ n a → Satisfies (language_at γ n) a
satisfies_at (pointwise_cons r s) here = r
satisfies_at (pointwise_cons r s) (there u) = satisfies_at s u
satisfies_at pointwise_nil h = elim h [ ]

pub satisfies_usable : {γ : Environment} {Γ : Context} → Pointwise SatisfiesHypothesis γ Γ → Pointwise SatisfiesHypothesis γ (all_usable Γ)
satisfies_usable pointwise_nil = pointwise_nil
satisfies_usable (pointwise_cons r s) = pointwise_cons r (satisfies_usable s)

-- Theorem 4.3 of the typing paper.
pub sound : {Γ : Context} {g : Expression} {a : LanguageType} → Γ ⊢ g ∶ a → (γ : Environment) → Pointwise SatisfiesHypothesis γ Γ
    → Satisfies (denotation g γ) a
sound type_epsilon γ s = epsilon_satisfies
sound type_bottom γ s = bottom_satisfies
sound (type_token k) γ s = token_satisfies k
sound (type_variable u) γ s = satisfies_at s u
sound (type_sequence {g = g} {h = h} {a = a} {b = b} d e k) γ s =
    sequence_satisfies (denotation g γ) (denotation h γ) a b (sound d γ s) (sound e γ (satisfies_usable s)) k
sound (type_alternative {g = g} {h = h} {a = a} {b = b} d e k) γ s =
    alternative_satisfies (denotation g γ) (denotation h γ) a b (sound d γ s) (sound e γ s) k
sound (type_fixed_point {g = g} {a = a} d) γ s =
    fixed_point_satisfies (λ L. denotation g (L ∷ γ)) (body_monotone g γ) a (λ L p. sound d (L ∷ γ) (pointwise_cons p s))
sound (type_repetition {g = g} d k e) γ s = repetition_satisfies (denotation g γ) (sound d γ s) k e

-- The same for a sheet's expression, which is closed.
pub denotes_soundly : {e : Expression} {a : LanguageType} → [] ⊢ e ∶ a → Satisfies (Denotes e) a
denotes_soundly d = sound d [] pointwise_nil
