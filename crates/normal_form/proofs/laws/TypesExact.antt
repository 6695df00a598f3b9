-- NULL and FIRST of the least types are exact, with the typing paper's type of a sequence: NULL says whether the empty word is one, a token is
-- in FIRST exactly if a word begins with it, and a type is that of ⊥ exactly if there is no word. So it is for every closed expression,
-- whether it has a type or not. Nothing is claimed of FLAST, and productions are not spoken of.
use Rattle.std.specs.Prelude.{◌≡◌, Bool, true, false, ◌||◌, List, [], ◌∷◌, ◌++◌, ◌↔◌, ℕ, ◌≤◌}
use Rattle.std.proofs.Math.Path.{refl}
use Rattle.std.proofs.Common.{sym, ap, subst, ◌∙◌, true≢false}
use Rattle.std.proofs.Math.Logic.{inl, inr, ⊎_elim}
use Rattle.basics.specs.Bits.{◌∈◌}
use Rattle.basics.proofs.laws.BitLaws.{∈_zero, ∈_one, ∈_cases}
use Rattle.sheet.specs.Expression.{Expression}
use Rattle.sheet.specs.Limits.{most_tokens}
use Rattle.sheet.specs.WellFormed.{Closed}
use Rattle.types.specs.Denotation.{Language, followed_by}
use Rattle.types.specs.Languages.{either, HasWord, Begins}
use Rattle.types.specs.NodeLanguages.{language_of}
use Rattle.types.specs.Types.{LanguageType, epsilon_type, bottom_type, token_type, is_bottom, sequence_type, alternative_type, repetition_type_with}
use Rattle.types.proofs.laws.BottomTypeLaws.{bottom_is, bottom_only, bottom_not, first-not_bottom, has_not_bottom}
use Rattle.types.proofs.laws.SequenceTypeLaws.{sequence_parts, sequence_null_left, sequence_null_right, sequence_first-cases}
use Rattle.types.proofs.laws.TypeLaws.{⊑_refl, ⊑_antisym, bottom_least, above_least}
use Rattle.types.specs.Nodes.{Node, epsilon_node, bottom_node, token_node, sequence_node, alternative_node, fixed_point_node, variable_node, repetition_node, nodes, node_at}
use Rattle.types.specs.LeastTypes.{type_of, node_type, node_type_with, least_types}
use Rattle.types.specs.LeastSolution.{◌⊑◌, LeastSolution}
use Rattle.types.specs.Solutions.{Solves}
use Rattle.types.proofs.laws.LeastTypeLaws.{types_every, least_solves}
use Rattle.types.proofs.laws.TypeFaultLaws.{least_one, least_is}
use Rattle.normal_form.proofs.laws.NodeLanguages.{node_language, closed_equation}
use Rattle.normal_form.proofs.laws.WordTypes.{words_in_types}

-- ---- what a type has, a word shows

-- Each thing that the type has, a word of L shows.
record Witnessed (L : Language) (a : LanguageType) : Type 0 where
  null_witnessed : a.null ≡ true → L []
  first_witnessed : (t : ℕ) → t ∈ a.first → Begins L t
  word_witnessed : is_bottom a ≡ false → HasWord L

bottom_witnessed : (L : Language) → Witnessed L bottom_type
unfolding bottom_type
bottom_witnessed L = record {
  null_witnessed = λ e. absurd (true≢false (sym e));
  first_witnessed = λ t m. ∈_zero t m;
  word_witnessed = λ h. absurd (true≢false (sym bottom_is ∙ h));
}

epsilon_witnessed : Witnessed (λ w. w ≡ []) epsilon_type
unfolding epsilon_type
epsilon_witnessed = record { null_witnessed = λ e. refl; first_witnessed = λ t m. ∈_zero t m; word_witnessed = λ h. ([], refl) }

token_witnessed : (k : ℕ) → Witnessed (λ w. w ≡ k ∷ []) (token_type k)
unfolding token_type
token_witnessed k = record {
  null_witnessed = λ e. absurd (true≢false (sym e));
  first_witnessed = λ t m. ([], ap (λ (i : ℕ). i ∷ []) (sym (∈_one k t m)));
  word_witnessed = λ h. (k ∷ [], refl);
}

both_bottom : (a b : LanguageType) → is_bottom a ≡ true → is_bottom b ≡ true → alternative_type a b ≡ bottom_type
both_bottom a b e i = ⊑_antisym (above_least (below a e) (below b i)) (bottom_least (alternative_type a b))
  where
    below : (c : LanguageType) → is_bottom c ≡ true → c ⊑ bottom_type
    below c h = subst (λ x. x ⊑ bottom_type) (sym (bottom_only c h)) (⊑_refl bottom_type)

module _ (L M : Language) (a b : LanguageType) (x : Witnessed L a) (y : Witnessed M b) where
  -- What begins the left part begins a word, since the right part has one: its type is not that of ⊥.
  sequence_witnessed : Witnessed (followed_by L M) (sequence_type a b)
  sequence_witnessed = record {
    null_witnessed = λ e. ([], [], refl, x.null_witnessed (sequence_null_left a b e), y.null_witnessed (sequence_null_right a b e));
    first_witnessed = λ t m.
        let r = y.word_witnessed (sequence_parts a b (first-not_bottom (sequence_type a b) t m)).1 in
        ⊎_elim (λ p. let l = x.first_witnessed t p in (l.0 ++ r.0, (t ∷ l.0, r.0, refl, l.1, r.1)))
        (λ p. let v = y.first_witnessed t p.1 in (v.0, ([], t ∷ v.0, refl, x.null_witnessed p.0, v.1))) (sequence_first-cases a b t m);
    word_witnessed = λ h.
        let both = sequence_parts a b h in
        let l = x.word_witnessed both.0 in
        let r = y.word_witnessed both.1 in (l.0 ++ r.0, (l.0, r.0, refl, l.1, r.1));
  }

  either_null : (p q : Bool) → (p ≡ true → L []) → (q ≡ true → M []) → (p || q) ≡ true → either L M []
  either_null true q f g e = inl (f refl)
  either_null false q f g e = inr (g e)

  either_word : (p q : Bool) → is_bottom a ≡ p → is_bottom b ≡ q → is_bottom (alternative_type a b) ≡ false → HasWord (either L M)
  either_word false q e i h = let l = x.word_witnessed e in (l.0, inl l.1)
  either_word true false e i h = let r = y.word_witnessed i in (r.0, inr r.1)
  either_word true true e i h = absurd (bottom_not (alternative_type a b) h (both_bottom a b e i))

  alternative_witnessed : Witnessed (either L M) (alternative_type a b)
  unfolding alternative_type
  alternative_witnessed = record {
    null_witnessed = either_null a.null b.null x.null_witnessed y.null_witnessed;
    first_witnessed = λ t m. ⊎_elim (λ p. let l = x.first_witnessed t p in (l.0, inl l.1)) (λ p. let r = y.first_witnessed t p in (r.0, inr r.1))
        (∈_cases a.first b.first t m);
    word_witnessed = either_word (is_bottom a) (is_bottom b) refl refl;
  }

module _ (N : ℕ → Language) (types : List LanguageType) (witnessed : (n : ℕ) → Witnessed (N n) (type_of types n)) where
  node_witnessed : (x : Node) → Witnessed (node_language N x) (node_type types x)
  unfolding node_type_with repetition_type_with
  node_witnessed epsilon_node = epsilon_witnessed
  node_witnessed bottom_node = bottom_witnessed (λ w. ⊥)
  node_witnessed (token_node k) = token_witnessed k
  node_witnessed (sequence_node l r) = sequence_witnessed (N l) (N r) (type_of types l) (type_of types r) (witnessed l) (witnessed r)
  node_witnessed (alternative_node l r) = alternative_witnessed (N l) (N r) (type_of types l) (type_of types r) (witnessed l) (witnessed r)
  node_witnessed (fixed_point_node b) = witnessed b
  node_witnessed (variable_node f guarded) = witnessed f
  node_witnessed (repetition_node b self) =
      alternative_witnessed (λ w. w ≡ []) (followed_by (N b) (N self)) epsilon_type (sequence_type (type_of types b) (type_of types self))
      epsilon_witnessed (sequence_witnessed (N b) (N self) (type_of types b) (type_of types self) (witnessed b) (witnessed self))

same_witnessed : {L M : Language} {a : LanguageType} → ((w : List ℕ) → M w → L w) → Witnessed M a → Witnessed L a
same_witnessed f x = record {
  null_witnessed = λ e. f [] (x.null_witnessed e);
  first_witnessed = λ t m. let w = x.first_witnessed t m in (w.0, f (t ∷ w.0) w.1);
  word_witnessed = λ h. let w = x.word_witnessed h in (w.0, f w.0 w.1);
}

-- ---- at the least types

-- Of an expression whose nodes' languages solve the equations.
module _ (e : Expression) (equation : (n : ℕ) (w : List ℕ) → language_of e n w ↔ node_language (language_of e) (node_at (nodes e) n) w) where
  least_witnessed : (n : ℕ) → Witnessed (language_of e n) (type_of (least_types e) n)
  unfolding least_types
  least_witnessed = types_every (nodes e) (λ n a. Witnessed (language_of e n) a) (λ n. bottom_witnessed (language_of e n))
      (λ types m n. same_witnessed (λ w. (equation n w).1) (node_witnessed (language_of e) types m (node_at (nodes e) n)))

  -- A node whose type is not that of ⊥ has a word.
  pub not_bottom_word : (n : ℕ) → is_bottom (type_of (least_types e) n) ≡ false → HasWord (language_of e n)
  not_bottom_word n = (least_witnessed n).word_witnessed

  module _ (s : Solves (nodes e) (least_types e)) (n : ℕ) where
    pub empty_word_exact : ((type_of (least_types e) n).null ≡ true) ↔ language_of e n []
    empty_word_exact = ((least_witnessed n).null_witnessed, words_in_types e (least_types e) s n [])

    pub first_exact : (t : ℕ) → (t ∈ (type_of (least_types e) n).first) ↔ Begins (language_of e n) t
    first_exact t = ((least_witnessed n).first_witnessed t, λ b. words_in_types e (least_types e) s n (t ∷ b.0) b.1)

    pub bottom_exact : (type_of (least_types e) n ≡ bottom_type) ↔ (HasWord (language_of e n) → ⊥)
    bottom_exact = (
      λ h w. bottom_not (type_of (least_types e) n)
          (has_not_bottom (type_of (least_types e) n) w.0 (words_in_types e (least_types e) s n w.0 w.1)) h,
      λ none. bottom_only (type_of (least_types e) n) (go none (is_bottom (type_of (least_types e) n)) refl),
    )
      where
        go : (HasWord (language_of e n) → ⊥) → (b : Bool) → is_bottom (type_of (least_types e) n) ≡ b
            → is_bottom (type_of (least_types e) n) ≡ true
        go none true i = i
        go none false i = absurd (none (not_bottom_word n i))

-- Of a sheet's expression, at the least types, however they are found.
module _ (tokens : ℕ) (most : tokens ≤ most_tokens) (e : Expression) (closed : Closed tokens 0 e) (types : List LanguageType)
    (least : LeastSolution (nodes e) types) (n : ℕ) where
  same : least_types e ≡ types
  same = least_one (nodes e) (least_types e) types (least_is tokens most e closed) least

  solved : Solves (nodes e) (least_types e)
  solved = least_solves tokens most e closed

  pub sheet_null_exact : ((type_of types n).null ≡ true) ↔ language_of e n []
  sheet_null_exact = subst (λ (l : List LanguageType). ((type_of l n).null ≡ true) ↔ language_of e n []) same
      (empty_word_exact e (closed_equation tokens e closed) solved n)

  pub sheet_first_exact : (t : ℕ) → (t ∈ (type_of types n).first) ↔ Begins (language_of e n) t
  sheet_first_exact t = subst (λ (l : List LanguageType). (t ∈ (type_of l n).first) ↔ Begins (language_of e n) t) same
      (first_exact e (closed_equation tokens e closed) solved n t)

  pub sheet_bottom_exact : (type_of types n ≡ bottom_type) ↔ (HasWord (language_of e n) → ⊥)
  sheet_bottom_exact = subst (λ (l : List LanguageType). (type_of l n ≡ bottom_type) ↔ (HasWord (language_of e n) → ⊥)) same
      (bottom_exact e (closed_equation tokens e closed) solved n)
