-- The normal form of a typed expression fits a run: each row unfolds its node's language in one step and has at most one production a
-- token, and its tails are good and have words. All of it by the equations of the rows that stay; how a run goes is not said here.
use Rattle.std.specs.Prelude.{◌≡◌, Bool, List, [], ◌∷◌, ◌++◌, ◌↔◌, ℕ, suc, ◌+◌, ◌≤◌, get_or}
use Rattle.std.proofs.Math.Path.{refl, subst}
use Rattle.std.proofs.Common.{sym, ap, ◌∙◌, ⊎_elim}
use Rattle.std.proofs.Math.Bool.{true, false, cond, true≢false}
use mathlib.Core.List.Memᴰ
use Rattle.std.proofs.Math.ListN.{get_or-eq_default}
use Rattle.basics.proofs.laws.BitLaws.{∈_disjoint}
use Rattle.sheet.specs.Expression.{Expression, fixed_point, size}
use Rattle.types.specs.Denotation.{Language, followed_by, denotation, Denotes}
use Rattle.types.specs.Languages.{either, Environment, HasWord}
use Rattle.types.specs.Types.{LanguageType, bottom_type, Separable, Usable, there, ◌⊢◌∶◌, type_epsilon, type_bottom, type_token, type_variable, type_sequence, type_alternative, type_fixed_point, type_repetition}
use Rattle.types.specs.TypeNames.{Context}
use Rattle.types.proofs.laws.TypeLaws.{separable_from_repetition}
use Rattle.types.proofs.laws.Soundness.{Satisfies}
use Rattle.types.specs.Nodes.{Node, nodes, node_at}
use Rattle.normal_form.specs.Productions.{Production, Row, no_productions, ended_by, row_of, node_row}
use Rattle.normal_form.proofs.laws.ProductionLaws.{distinct_same}
use Rattle.normal_form.specs.Derives.{derives}
use Rattle.normal_form.specs.RowNames.{derives_at}
use Rattle.normal_form.specs.NormalForm.{normal_form}
use Rattle.normal_form.proofs.laws.KeptRows.{staying_row, normal_form_solves, normal_form-length}
use Rattle.normal_form.proofs.laws.RowTypes.{normal_form_distinct}
use Rattle.normal_form.proofs.laws.NodeLanguages.{languages_past, start_language, node_language, Site, at_left, at_right, at_first, at_second, at_body, at_part, site_sound, site_equation, at_every_node}
use Rattle.types.specs.NodeLanguages.{language_of}
use Rattle.normal_form.proofs.laws.DerivesExact.{derives_exact}
use Rattle.normal_form.proofs.laws.Unfolding.{epsilon_row, token_row, sequence_row, alternative_row, ◌of◌, concatenation, UnfoldsOnce, one_node, epsilon_unfolds, bottom_unfolds, token_unfolds, sequence_unfolds, alternative_unfolds, production_word}
use Rattle.normal_form.proofs.laws.Pending.{Good, HaveWords, good_append, good_one, have_words-append, Fits}

module _ (N : ℕ → Language) where
  -- The row P of a node with the language L.
  pub record RowFits (L : Language) (P : Row) : Type 0 where
    pub unfolds : UnfoldsOnce N L P
    pub tail_words : (q : Production) → q of P → HaveWords N q.tail
    pub tail_good : (q : Production) → q of P → Good N q.tail

  without_productions : (L : Language) (empty : Bool) → UnfoldsOnce N L (record { has_epsilon = empty; productions = [] })
      → RowFits L (record { has_epsilon = empty; productions = [] })
  without_productions L empty u =
      record { unfolds = u; tail_words = λ q m. absurd (Memᴰ.not-nil m); tail_good = λ q m. absurd (Memᴰ.not-nil m) }

  token_fits : (t : ℕ) (L : Language) → ((w : List ℕ) → L w ↔ (w ≡ t ∷ [])) → RowFits L (token_row t)
  token_fits t L f = record {
    unfolds = token_unfolds N t L f;
    tail_words = λ q m. subst (λ (z : Production). HaveWords N z.tail) (sym (Memᴰ.eq_of_singleton m)) tt;
    tail_good = λ q m. subst (λ (z : Production). Good N z.tail) (sym (Memᴰ.eq_of_singleton m)) tt;
  }

  alternative_fits : (L L₁ L₂ : Language) (P Q : Row) → ((w : List ℕ) → L w ↔ either L₁ L₂ w) → RowFits L₁ P → RowFits L₂ Q
      → RowFits L (alternative_row P Q)
  alternative_fits L L₁ L₂ P Q f x y = record {
    unfolds = alternative_unfolds N L L₁ L₂ P Q f x.unfolds y.unfolds;
    tail_words = λ q m. ⊎_elim (x.tail_words q) (y.tail_words q) (Memᴰ.append_cases P.productions m);
    tail_good = λ q m. ⊎_elim (x.tail_good q) (y.tail_good q) (Memᴰ.append_cases P.productions m);
  }

  -- The right node comes at the end of each tail: separable types keep it apart from what may follow the left part's words.
  sequence_fits : (L L₁ : Language) (n : ℕ) (P : Row) (a b : LanguageType) → ((w : List ℕ) → L w ↔ followed_by L₁ (N n) w)
      → RowFits L₁ P → HasWord (N n) → Satisfies L₁ a → Satisfies (N n) b → Separable a b → RowFits L (sequence_row n P)
  unfolding ended_by
  sequence_fits L L₁ n P a b f x i s s' k = record {
    unfolds = sequence_unfolds N L L₁ n P f (λ h. true≢false (sym (s.null_holds h) ∙ k.not_null)) x.unfolds;
    tail_words = λ q m. let o = Memᴰ.of_map (ended_by n) P.productions m in
        subst (λ (z : Production). HaveWords N z.tail) o.2
        (have_words-append N o.0.tail (n ∷ []) (x.tail_words o.0 o.1) (i, tt));
    tail_good = λ q m. let o = Memᴰ.of_map (ended_by n) P.productions m in
        subst (λ (z : Production). Good N z.tail) o.2 (longer o.0 o.1);
  }
    where
      longer : (q : Production) → q of P → Good N (q.tail ++ (n ∷ []))
      longer q m = good_append N q.tail (n ∷ []) (x.tail_good q m) (x.tail_words q m)
          (λ c f g. ∈_disjoint a.flast b.first c k.disjoint
          (s.flast_holds q.head f.0 c f.1 (production_word N x.unfolds q f.0 m f.2)
          (production_word N x.unfolds q (f.0 ++ (c ∷ f.1)) m f.3))
          (s'.first_holds c g.0 ((one_node N n (c ∷ g.0)).0 g.1))) (good_one N n)

  -- A right part without words leaves the sequence none, and its row none.
  dead_fits : (L L₁ : Language) (n : ℕ) → ((w : List ℕ) → L w ↔ followed_by L₁ (N n) w) → (HasWord (N n) → ⊥) → RowFits L no_productions
  dead_fits L L₁ n f i = without_productions L false
      (bottom_unfolds N L (λ w. (λ h. let y = (f w).0 h in i (y.1, y.4), λ z. absurd z)))

  same_fits : (L M : Language) (P : Row) → ((w : List ℕ) → L w ↔ M w) → RowFits M P → RowFits L P
  same_fits L M P f x = record {
    unfolds = λ w. (λ h. (x.unfolds w).0 ((f w).0 h), λ h. (f w).1 ((x.unfolds w).1 h));
    tail_words = x.tail_words;
    tail_good = x.tail_good;
  }

-- Over the nodes of a whole expression, whose rows solve the equations.
module _ (N : ℕ → Language) (table : ℕ → Node) (flags : List Bool) (exact : (n : ℕ) → (derives_at flags n ≡ true) ↔ HasWord (N n))
    (rs : List Row) (solves : (n : ℕ) → row_of rs n ≡ staying_row flags rs (table n)) where
  abbrev FitsAt : ℕ → Type 0
  FitsAt n = RowFits N (N n) (row_of rs n)

  -- A node's language and row, by the node's kind.
  by_kind : {x : Node} {p : ℕ} → table p ≡ x → ((w : List ℕ) → N p w ↔ node_language N (table p) w)
      → (((w : List ℕ) → N p w ↔ node_language N x w) → RowFits N (N p) (staying_row flags rs x)) → FitsAt p
  by_kind {x} {p} e f k = subst (RowFits N (N p)) (sym (solves p ∙ ap (staying_row flags rs) e)) (k (rw e at f))

  sequence_kind : (L : Language) (l r : ℕ) (a b : LanguageType) → FitsAt l → Satisfies (N l) a → Satisfies (N r) b → Separable a b
      → ((w : List ℕ) → L w ↔ followed_by (N l) (N r) w) → (flag : Bool) → derives_at flags r ≡ flag
      → RowFits N L (cond flag (sequence_row r (row_of rs l)) no_productions)
  sequence_kind L l r a b x s s' q f true e = sequence_fits N L (N l) r (row_of rs l) a b f x ((exact r).0 e) s s' q
  sequence_kind L l r a b x s s' q f false e = dead_fits N L (N l) r f (λ h. true≢false (sym ((exact r).1 h) ∙ e))

  node_fits : {Γ : Context} {g : Expression} {a : LanguageType} → Γ ⊢ g ∶ a → (γ : Environment) (p : ℕ) (fs : List ℕ)
      → Site N table Γ g γ p fs → ((n : ℕ) (b : LanguageType) → Usable Γ n b → FitsAt (get_or fs n 0)) → FitsAt p
  unfolding node_row
  node_fits type_epsilon γ p fs s k = by_kind s.placed (site_equation N table type_epsilon γ p fs s)
      (λ f. without_productions N (N p) true (epsilon_unfolds N (N p) f))
  node_fits type_bottom γ p fs s k = by_kind s.placed (site_equation N table type_bottom γ p fs s)
      (λ f. without_productions N (N p) false (bottom_unfolds N (N p) f))
  node_fits (type_token t) γ p fs s k = by_kind s.placed (site_equation N table (type_token t) γ p fs s) (token_fits N t (N p))
  node_fits (type_variable {n = n} {a = a} u) γ p fs s k = by_kind s.placed.1 (site_equation N table (type_variable u) γ p fs s)
      (λ f. same_fits N (N p) (N (get_or fs n 0)) (row_of rs (get_or fs n 0)) f (k n a u))
  node_fits (type_sequence {g = g} {a = a} {b = b} d e q) γ p fs s k =
      by_kind s.placed.0 (site_equation N table (type_sequence d e q) γ p fs s)
      (λ f. sequence_kind (N p) (suc p) (suc p + size g) a b (node_fits d γ (suc p) fs (at_left s) k)
      (site_sound d (at_left s)) (site_sound e (at_right s)) q f (derives_at flags (suc p + size g)) refl)
  node_fits (type_alternative {g = g} d e q) γ p fs s k =
      let x : FitsAt (suc p) = node_fits d γ (suc p) fs (at_first s) k in
      let y : FitsAt (suc p + size g) = node_fits e γ (suc p + size g) fs (at_second s) k in
      by_kind s.placed.0 (site_equation N table (type_alternative d e q) γ p fs s)
      (λ f. alternative_fits N (N p) (N (suc p)) (N (suc p + size g)) (row_of rs (suc p)) (row_of rs (suc p + size g)) f x y)
  node_fits (type_fixed_point {Γ = Γ} {g = g} {a = a} d) γ p fs s k =
      let x : FitsAt (suc p) = node_fits d (denotation (fixed_point g) γ ∷ γ) (suc p) (p ∷ fs) (at_body d s) (inner k) in
      by_kind s.placed.0 (site_equation N table (type_fixed_point d) γ p fs s)
      (λ f. same_fits N (N p) (N (suc p)) (row_of rs (suc p)) f x)
    where
      inner : ((n : ℕ) (b : LanguageType) → Usable Γ n b → FitsAt (get_or fs n 0))
          → (n : ℕ) (b : LanguageType) → Usable (record { usable = false; type = a } ∷ Γ) n b → FitsAt (get_or (p ∷ fs) n 0)
      inner k n b (there {n = i} u) = k i b u
  node_fits (type_repetition {g = g} {a = a} {b = b} d q e) γ p fs s k =
      let rest = cond (derives_at flags p) (sequence_row p (row_of rs (suc p))) no_productions in
      let more = followed_by (N (suc p)) (N p) in
      let x : RowFits N more rest = sequence_kind more (suc p) p a b (node_fits d γ (suc p) fs (at_part s) k)
      (site_sound d (at_part s)) (site_sound (type_repetition d q e) s) (separable_from_repetition a b e q) (λ w. (λ h. h, λ h. h))
      (derives_at flags p) refl in
      by_kind s.placed.0 (site_equation N table (type_repetition d q e) γ p fs s)
      (λ f. alternative_fits N (N p) (λ w. w ≡ []) more epsilon_row rest f
      (without_productions N (λ w. w ≡ []) true (epsilon_unfolds N (λ w. w ≡ []) (λ w. (λ h. h, λ h. h)))) x)

-- At every node of a typed expression.
row_fits : {e : Expression} {a : LanguageType} → [] ⊢ e ∶ a → (n : ℕ)
    → RowFits (language_of e) (language_of e n) (row_of (normal_form e) n)
row_fits {e} d n = (at_every_node d (λ b i. RowFits (language_of e) (language_of e i) (row_of (normal_form e) i))
    (λ Γ g b x γ p fs s k. node_fits (language_of e) (node_at (nodes e)) (derives e) (derives_exact d) (normal_form e) (normal_form_solves d)
    x γ p fs s k)
    (λ i h. (bottom_type, past i h)) n).1
  where
    past : (n : ℕ) → size e ≤ n → RowFits (language_of e) (language_of e n) (row_of (normal_form e) n)
    past n h = rw (languages_past e n h, get_or-eq_default (normal_form e) no_productions {n = n} (rw (normal_form-length e) h))
        (without_productions (language_of e) (λ w. ⊥) false (bottom_unfolds (language_of e) (λ w. ⊥) (λ w. (λ z. z, λ z. z))))

-- The languages and the normal form of a typed expression fit one another.
pub normal_form_fits : {e : Expression} {a : LanguageType} → [] ⊢ e ∶ a → Fits (language_of e) (row_of (normal_form e))
normal_form_fits {e} d = record {
  unfolds = λ n. (row_fits d n).unfolds;
  one_each = λ n. distinct_same (row_of (normal_form e) n).productions (normal_form_distinct d n);
  tail_words = λ n. (row_fits d n).tail_words;
  tail_good = λ n. (row_fits d n).tail_good;
}

-- A run starts with the start alone, which stands for what the expression denotes.
pub start-words : (e : Expression) (w : List ℕ) → concatenation (language_of e) (0 ∷ []) w ↔ Denotes e w
start-words e w = let f = one_node (language_of e) 0 w in (
  (λ h. subst (λ L. L w) (start_language e) (f.0 h)),
  λ h. f.1 (subst (λ L. L w) (sym (start_language e)) h),
)
