-- Types ordered by inclusion. Figure 2's operations keep the order, and a side condition that holds holds of smaller types too.
-- Nothing here is about expressions or languages.
use Rattle.std.specs.Prelude.{◌≡◌, true, false, ◌&&◌, ℕ}
use Rattle.std.proofs.Common.{sym, ◌∙◌, true≢false}
use Rattle.std.proofs.Math.Path.{ap, subst}
use Rattle.std.proofs.lemmas.Bool.{false≢true}
use Rattle.std.proofs.Math.Logic.{⊎_elim}
use Rattle.std.specs.Int.Bits.{bit_and}
use Rattle.basics.specs.Bits.{◌∈◌}
use Rattle.basics.proofs.laws.Truth.{or-true_left, or-true_right}
use Rattle.basics.proofs.laws.BitLaws.{∈_zero, ∈_left, ∈_right, ∈_cases, ∈_disjoint, disjoint_zero}
use Rattle.types.specs.Types.{LanguageType, epsilon_type, bottom_type, flap_sequence_type, is_bottom, sequence_type, alternative_type, repetition_type, repetition_type_with, Separable, Apart}
use Rattle.types.specs.LeastSolution.{◌⊑◌}
use Rattle.types.proofs.laws.BottomTypeLaws.{not_bottom, bottom_not, null_not_bottom, first-not_bottom, flast_not_bottom}
use Rattle.types.proofs.laws.SequenceTypeLaws.{sequence_either, sequence_parts, sequence_null, sequence_null_left, sequence_null_right, sequence_first_left, sequence_first_right, sequence_first-cases, sequence_flast_right, sequence_flast_first, sequence_flast_left, sequence_flast_cases}
use Rattle.types.proofs.laws.SetOrder.{implied_both, and_rises, or_rises, or_most, false_falls, ◌⊆◌, included_both, union_rises, union_most}

pub ⊑_refl : (a : LanguageType) → a ⊑ a
⊑_refl a = record { null_rises = λ e. e; first_rises = λ i m. m; flast_rises = λ i m. m }

pub ⊑_trans : {a b c : LanguageType} → a ⊑ b → b ⊑ c → a ⊑ c
⊑_trans p q = record {
  null_rises = λ e. q.null_rises (p.null_rises e);
  first_rises = λ i m. q.first_rises i (p.first_rises i m);
  flast_rises = λ i m. q.flast_rises i (p.flast_rises i m);
}

pub ⊑_antisym : {a b : LanguageType} → a ⊑ b → b ⊑ a → a ≡ b
⊑_antisym {a} {b} p q =
    let n = implied_both a.null b.null p.null_rises q.null_rises in
    let s = included_both a.first b.first p.first_rises q.first_rises in
    let t = included_both a.flast b.flast p.flast_rises q.flast_rises in
    λ i. record { null = n i; first = s i; flast = t i }

pub bottom_least : (a : LanguageType) → bottom_type ⊑ a
unfolding bottom_type
bottom_least a = record { null_rises = λ e. absurd (false≢true e); first_rises = λ i m. ∈_zero i m; flast_rises = λ i m. ∈_zero i m }

-- What lies above a type that is not that of ⊥ is not that of ⊥.
not_bottom_rises : {a a' : LanguageType} → a ⊑ a' → is_bottom a ≡ false → is_bottom a' ≡ false
not_bottom_rises {a} {a'} p h = not_bottom a' (λ e. bottom_not a h (⊑_antisym (subst (λ c. a ⊑ c) e p) (bottom_least a)))

pub sequence_rises : {a a' b b' : LanguageType} → a ⊑ a' → b ⊑ b' → sequence_type a b ⊑ sequence_type a' b'
sequence_rises {a} {a'} {b} {b'} p q = record {
  null_rises = λ e. sequence_null a' b' (p.null_rises (sequence_null_left a b e)) (q.null_rises (sequence_null_right a b e));
  first_rises = λ i m.
      let parts = sequence_parts a b (first-not_bottom (sequence_type a b) i m) in
      ⊎_elim (λ x. sequence_first_left a' b' i (not_bottom_rises q parts.1) (p.first_rises i x))
      (λ x. sequence_first_right a' b' i (p.null_rises x.0) (q.first_rises i x.1)) (sequence_first-cases a b i m);
  flast_rises = λ i m.
      let left = not_bottom_rises p (sequence_parts a b (flast_not_bottom (sequence_type a b) i m)).0 in
      ⊎_elim (λ x. sequence_flast_right a' b' i left (q.flast_rises i x))
      (λ x. let n = q.null_rises x.0 in ⊎_elim (λ y. sequence_flast_first a' b' i left n (q.first_rises i y))
      (λ y. sequence_flast_left a' b' i n (p.flast_rises i y)) x.1) (sequence_flast_cases a b i m);
}

-- A sequence has no more than the flap paper gives it.
pub sequence_below : (a b : LanguageType) → sequence_type a b ⊑ flap_sequence_type a b
sequence_below a b = sequence_either a b (λ c. c ⊑ flap_sequence_type a b) (bottom_least (flap_sequence_type a b))
    (⊑_refl (flap_sequence_type a b))

pub alternative_rises : {a a' b b' : LanguageType} → a ⊑ a' → b ⊑ b' → alternative_type a b ⊑ alternative_type a' b'
unfolding alternative_type
alternative_rises {a} {a'} {b} {b'} p q = record {
  null_rises = or_rises a.null a'.null b.null b'.null p.null_rises q.null_rises;
  first_rises = union_rises a.first a'.first b.first b'.first p.first_rises q.first_rises;
  flast_rises = union_rises a.flast a'.flast b.flast b'.flast p.flast_rises q.flast_rises;
}

-- An alternative has the least type that is above both its parts' types.
pub above_left : (a b : LanguageType) → a ⊑ alternative_type a b
unfolding alternative_type
above_left a b = record {
  null_rises = or-true_left a.null b.null;
  first_rises = ∈_left a.first b.first;
  flast_rises = ∈_left a.flast b.flast;
}

pub above_right : (a b : LanguageType) → b ⊑ alternative_type a b
unfolding alternative_type
above_right a b = record {
  null_rises = or-true_right a.null b.null;
  first_rises = ∈_right a.first b.first;
  flast_rises = ∈_right a.flast b.flast;
}

pub above_least : {a b c : LanguageType} → a ⊑ c → b ⊑ c → alternative_type a b ⊑ c
unfolding alternative_type
above_least {a} {b} {c} p q = record {
  null_rises = or_most a.null b.null c.null p.null_rises q.null_rises;
  first_rises = union_most a.first b.first c.first p.first_rises q.first_rises;
  flast_rises = union_most a.flast b.flast c.flast p.flast_rises q.flast_rises;
}

pub repetition_rises : {a a' b b' : LanguageType} → a ⊑ a' → b ⊑ b' → repetition_type a b ⊑ repetition_type a' b'
unfolding repetition_type_with
repetition_rises p q = alternative_rises (⊑_refl epsilon_type) (sequence_rises p q)

disjoint_falls : (s s' t t' : ℕ) → s ⊆ s' → t ⊆ t' → bit_and s' t' ≡ 0 → bit_and s t ≡ 0
disjoint_falls s s' t t' f g e = disjoint_zero s t (λ i x y. ∈_disjoint s' t' i e (f i x) (g i y))

pub separable_falls : {a a' b b' : LanguageType} → a ⊑ a' → b ⊑ b' → Separable a' b' → Separable a b
separable_falls {a} {a'} {b} {b'} p q k = record {
  disjoint = disjoint_falls a.flast a'.flast b.first b'.first p.flast_rises q.first_rises k.disjoint;
  not_null = false_falls a.null a'.null p.null_rises k.not_null;
}

pub apart_falls : {a a' b b' : LanguageType} → a ⊑ a' → b ⊑ b' → Apart a' b' → Apart a b
apart_falls {a} {a'} {b} {b'} p q k = record {
  disjoint = disjoint_falls a.first a'.first b.first b'.first p.first_rises q.first_rises k.disjoint;
  one_null = false_falls (a.null && b.null) (a'.null && b'.null)
      (and_rises a.null a'.null b.null b'.null p.null_rises q.null_rises) k.one_null;
}

-- A repetition's type b over its part's type a, which is not NULL: its first set is the part's. So the part is separable from itself if
-- and only if it is separable from the repetition.
module _ (a b : LanguageType) (e : b ≡ repetition_type a b) where
  first_of_part : a.null ≡ false → b.first ⊆ a.first
  unfolding repetition_type_with alternative_type epsilon_type
  first_of_part n i m = ⊎_elim (λ z. ∈_zero i z)
      (λ x. ⊎_elim (λ y. y) (λ y. absurd (true≢false (sym y.0 ∙ n))) (sequence_first-cases a b i x))
      (∈_cases 0 (sequence_type a b).first i (subst (λ (s : ℕ). i ∈ s) (ap (λ (x : LanguageType). x.first) e) m))

  repetition_null : b.null ≡ true
  unfolding repetition_type_with alternative_type epsilon_type
  repetition_null = ap (λ (x : LanguageType). x.null) e

  part_first : a.first ⊆ b.first
  unfolding repetition_type_with
  part_first i m = subst (λ (x : LanguageType). i ∈ x.first) (sym e)
      ((above_right epsilon_type (sequence_type a b)).first_rises i (sequence_first_left a b i (null_not_bottom b repetition_null) m))

  pub separable_from_repetition : Separable a a → Separable a b
  separable_from_repetition s = record {
    disjoint = disjoint_falls a.flast a.flast b.first a.first (λ i m. m) (first_of_part s.not_null) s.disjoint;
    not_null = s.not_null;
  }

  pub separable_from_itself : Separable a b → Separable a a
  separable_from_itself s = record {
    disjoint = disjoint_falls a.flast a.flast a.first b.first (λ i m. m) part_first s.disjoint;
    not_null = s.not_null;
  }

-- ε is apart from a sequence whose left part is not NULL.
pub epsilon_apart : (a b : LanguageType) → a.null ≡ false → Apart epsilon_type (sequence_type a b)
unfolding epsilon_type
epsilon_apart a b n = record {
  disjoint = disjoint_zero 0 (sequence_type a b).first (λ i x y. ∈_zero i x);
  one_null = false_falls (sequence_type a b).null a.null (sequence_null_left a b) n;
}
