-- The words of a list of nodes, and of a row of productions; and how a row's words come from those of the rows that it is made of.
-- That the rows of a typed expression unfold its languages is said elsewhere.
use Rattle.std.specs.Prelude.{◌≡◌, refl, true, false, ◌||◌, ◌⊎◌, ◌↔◌, ℕ, T}
use Rattle.std.proofs.Common.{sym, ap, ◌∙◌, ⊎_elim}
use Rattle.std.proofs.Math.Path.{ap₂, subst}
use mathlib.Core.List.Memᴰ
use mathlib.Core.List.{List, [], ◌∷◌, ◌++◌, map, append-nil, append_assoc, cons≢nil, Memᴰ}
use Rattle.std.proofs.Math.Logic.{⊎_map}
use Rattle.basics.proofs.laws.Truth.{or_left, or_right, or-cases, holds_true, true_holds}
use Rattle.types.specs.Denotation.{Language, followed_by}
use Rattle.types.specs.Languages.{either}
use Rattle.normal_form.specs.Productions.{Production, Row, no_productions, ended_by}

-- The rows that the equations make.
abbrev pub epsilon_row : Row
epsilon_row = record { has_epsilon = true; productions = [] }

abbrev pub token_row : ℕ → Row
token_row t = record { has_epsilon = false; productions = record { head = t; tail = [] } ∷ [] }

abbrev pub sequence_row : ℕ → Row → Row
sequence_row n P = record { has_epsilon = false; productions = map (ended_by n) P.productions }

abbrev pub alternative_row : Row → Row → Row
alternative_row P Q = record { has_epsilon = P.has_epsilon || Q.has_epsilon; productions = P.productions ++ Q.productions }

-- A production of a row.
abbrev pub ◌of◌ : Production → Row → Type 0
◌of◌ q P = Memᴰ q P.productions

infix 30 ◌of◌
module _ (N : ℕ → Language) where
  -- F(S): the concatenation of the languages of the nodes S.
  abbrev pub concatenation : List ℕ → Language
  concatenation [] w = w ≡ []
  concatenation (n ∷ β) w = followed_by (N n) (concatenation β) w

  -- The words that a row gives in one step: the empty one by ε, and t w' by a production t β with w' a word of β.
  pub data ByRow (P : Row) : List ℕ → Type 0 where
    by_epsilon : T P.has_epsilon → ByRow P []
    by_production : {q : Production} {w : List ℕ} → q of P → concatenation q.tail w → ByRow P (q.head ∷ w)

  -- A row gives a language in one step.
  abbrev pub UnfoldsOnce : Language → Row → Type 0
  UnfoldsOnce L P = (w : List ℕ) → L w ↔ ByRow P w

  pub concatenation-append : (α β : List ℕ) (u v : List ℕ) → concatenation α u → concatenation β v → concatenation (α ++ β) (u ++ v)
  concatenation-append [] β u v x y = rw x y
  concatenation-append (n ∷ α) β u v x y =
      (x.0, x.1 ++ v, cc (append_assoc x.0 x.1 v), x.3, concatenation-append α β x.1 v x.4 y)

  pub concatenation_split : (α β : List ℕ) (w : List ℕ) → concatenation (α ++ β) w → followed_by (concatenation α) (concatenation β) w
  concatenation_split [] β w x = ([], w, refl, refl, x)
  concatenation_split (n ∷ α) β w x = let y = concatenation_split α β x.1 x.4 in (
    x.0 ++ y.0,
    y.1,
    x.2 ∙ (ap (λ (z : List ℕ). x.0 ++ z) y.2 ∙ sym (append_assoc x.0 y.0 y.1)),
    (x.0, y.0, refl, x.3, y.3),
    y.4,
  )

  pub one_node : (n : ℕ) (w : List ℕ) → concatenation (n ∷ []) w ↔ N n w
  one_node n w = (
    (λ x. subst (N n) (sym (x.2 ∙ (ap (λ (v : List ℕ). x.0 ++ v) x.4 ∙ append-nil x.0))) x.3),
    λ x. (w, [], sym (append-nil w), x, refl),
  )

  epsilon_words : {w : List ℕ} → ByRow epsilon_row w → w ≡ []
  epsilon_words (by_epsilon t) = refl
  epsilon_words (by_production m c) = absurd (Memᴰ.not-nil m)

  no_production_words : {w : List ℕ} → ByRow no_productions w → ⊥
  no_production_words (by_epsilon t) = t
  no_production_words (by_production m c) = Memᴰ.not-nil m

  token_words : (k : ℕ) {w : List ℕ} → ByRow (token_row k) w → w ≡ k ∷ []
  token_words k (by_epsilon t) = absurd t
  token_words k (by_production {q = q} {w = w} m c) = let e = Memᴰ.eq_of_singleton m in
      ap₂ (λ (h : ℕ) (t : List ℕ). h ∷ t) (ap (λ (r : Production). r.head) e) (subst (λ (r : Production). concatenation r.tail w) e c)

  pub epsilon_unfolds : (L : Language) → ((w : List ℕ) → L w ↔ (w ≡ [])) → UnfoldsOnce L epsilon_row
  epsilon_unfolds L f w = (λ x. subst (ByRow epsilon_row) (sym ((f w).0 x)) (by_epsilon tt), λ x. (f w).1 (epsilon_words x))

  pub bottom_unfolds : (L : Language) → ((w : List ℕ) → L w ↔ ⊥) → UnfoldsOnce L no_productions
  bottom_unfolds L f w = (λ x. absurd ((f w).0 x), λ x. absurd (no_production_words x))

  pub token_unfolds : (k : ℕ) (L : Language) → ((w : List ℕ) → L w ↔ (w ≡ k ∷ [])) → UnfoldsOnce L (token_row k)
  token_unfolds k L f w =
      (λ x. subst (ByRow (token_row k)) (sym ((f w).0 x)) (by_production (Memᴰ.head refl) refl), λ x. (f w).1 (token_words k x))

  -- An alternative.
  left_words : (P Q : Row) {w : List ℕ} → ByRow P w → ByRow (alternative_row P Q) w
  left_words P Q (by_epsilon t) = by_epsilon (or_left P.has_epsilon Q.has_epsilon t)
  left_words P Q (by_production m c) = by_production (Memᴰ.append_left Q.productions m) c

  right_words : (P Q : Row) {w : List ℕ} → ByRow Q w → ByRow (alternative_row P Q) w
  right_words P Q (by_epsilon t) = by_epsilon (or_right P.has_epsilon Q.has_epsilon t)
  right_words P Q (by_production m c) = by_production (Memᴰ.append_right P.productions m) c

  alternative_words : (P Q : Row) {w : List ℕ} → ByRow (alternative_row P Q) w → ByRow P w ⊎ ByRow Q w
  alternative_words P Q (by_epsilon t) = ⊎_map (λ x. by_epsilon x) (λ x. by_epsilon x) (or-cases P.has_epsilon Q.has_epsilon t)
  alternative_words P Q (by_production m c) =
      ⊎_map (λ x. by_production x c) (λ x. by_production x c) (Memᴰ.append_cases P.productions m)

  pub alternative_unfolds : (L L₁ L₂ : Language) (P Q : Row) → ((w : List ℕ) → L w ↔ either L₁ L₂ w) → UnfoldsOnce L₁ P → UnfoldsOnce L₂ Q
      → UnfoldsOnce L (alternative_row P Q)
  alternative_unfolds L L₁ L₂ P Q f x y w = (
    (λ h. ⊎_elim (λ a. left_words P Q ((x w).0 a)) (λ b. right_words P Q ((y w).0 b)) ((f w).0 h)),
    λ h. (f w).1 (⊎_map (x w).1 (y w).1 (alternative_words P Q h)),
  )

  -- A sequence, whose left part has no ε.
  add_right : (n : ℕ) (P : Row) {u : List ℕ} (v : List ℕ) → (T P.has_epsilon → ⊥) → ByRow P u → N n v → ByRow (sequence_row n P) (u ++ v)
  unfolding ended_by
  add_right n P v s (by_epsilon t) y = absurd (s t)
  add_right n P v s (by_production {q = q} {w = w} m c) y =
      by_production (Memᴰ.map (ended_by n) m) (concatenation-append q.tail (n ∷ []) w v c ((one_node n v).1 y))

  sequence_words : (n : ℕ) (P : Row) {w : List ℕ} → ByRow (sequence_row n P) w → followed_by (ByRow P) (N n) w
  unfolding ended_by
  sequence_words n P (by_epsilon t) = absurd t
  sequence_words n P (by_production {q = q} {w = w} m c) =
      let o = Memᴰ.of_map (ended_by n) P.productions m in
      let r = o.0 in
      let c' : concatenation (r.tail ++ (n ∷ [])) w = subst (λ (k : Production). concatenation k.tail w) (sym o.2) c in
      let y = concatenation_split r.tail (n ∷ []) w c' in (
        r.head ∷ y.0,
        y.1,
        ap₂ (λ (h : ℕ) (t : List ℕ). h ∷ t) (ap (λ (k : Production). k.head) (sym o.2)) y.2,
        by_production o.1 y.3,
        (one_node n y.1).0 y.4,
      )

  pub sequence_unfolds : (L L₁ : Language) (n : ℕ) (P : Row) → ((w : List ℕ) → L w ↔ followed_by L₁ (N n) w) → (L₁ [] → ⊥) → UnfoldsOnce L₁ P
      → UnfoldsOnce L (sequence_row n P)
  sequence_unfolds L L₁ n P f s x w = (
    (λ h. let y = (f w).0 h in
        subst (ByRow (sequence_row n P)) (sym y.2) (add_right n P y.1 (λ t. s ((x []).1 (by_epsilon t))) ((x y.0).0 y.3) y.4)),
    λ h. let y = sequence_words n P h in (f w).1 (y.0, y.1, y.2, (x y.0).1 y.3, y.4),
  )

  null_word : {P : Row} {w : List ℕ} → w ≡ [] → ByRow P w → T P.has_epsilon
  null_word e (by_epsilon s) = s
  null_word e (by_production m c) = absurd (cons≢nil e)

  -- The ε flag is exact.
  pub null_exact : {L : Language} {P : Row} → UnfoldsOnce L P → L [] ↔ (P.has_epsilon ≡ true)
  null_exact {L} {P} u = (
    (λ h. holds_true P.has_epsilon (null_word refl ((u []).0 h))),
    λ s. (u []).1 (by_epsilon (true_holds P.has_epsilon s)),
  )

  pub production_word : {L : Language} {P : Row} → UnfoldsOnce L P → (q : Production) (w : List ℕ) → q of P → concatenation q.tail w
      → L (q.head ∷ w)
  production_word u q w m c = (u (q.head ∷ w)).1 (by_production m c)
