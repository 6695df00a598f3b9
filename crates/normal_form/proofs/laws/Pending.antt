-- The pending nodes of a run: the words that they stand for, what keeps them in order, and what a token does to them. It speaks of
-- any languages N and rows M that fit one another; that a typed expression's do is said elsewhere.
use Rattle.std.specs.Prelude.{◌≡◌, refl, true, false, ◌⊎◌, ◌↔◌, ℕ, suc, ◌+◌, ◌≤◌, T, length}
use Rattle.std.proofs.Common.{sym, ap, subst, ◌∙◌, inl, inr, ⊎_elim, arith, length-append}
use mathlib.Core.List.{List, [], ◌∷◌, ◌++◌, append-nil, append_assoc, nil≢cons, cons≢nil, head-eq_of_cons-eq, tail-eq_of_cons-eq}
use Rattle.std.proofs.Math.Logic.{⊎_map}
use Rattle.std.proofs.Math.Option.{Option, some, none}
use Rattle.basics.proofs.laws.Truth.{true_holds}
use Rattle.types.specs.Denotation.{Language}
use Rattle.types.specs.Languages.{Begins}
use Rattle.normal_form.specs.Productions.{Production, Row, Taking}
use Rattle.normal_form.specs.RowNames.{taken_by}
use Rattle.normal_form.proofs.laws.Unfolding.{◌of◌, concatenation, ByRow, by_epsilon, by_production, UnfoldsOnce, concatenation-append, concatenation_split, production_word, null_exact}

-- The token c may follow a word of L inside L. The word may be empty: so it is FLAST, and FIRST too where L has the empty word.
abbrev pub Follows : Language → ℕ → Type 0
Follows L c = (x : List ℕ) × (v : List ℕ) × L x × L (x ++ (c ∷ v))

-- No token may both follow a word of L and begin a word of M.
abbrev pub Separated : Language → Language → Type 0
Separated L M = (c : ℕ) → Follows L c → Begins M c → ⊥

module _ (N : ℕ → Language) where
  -- Each node is separated from all that come after it, taken together.
  abbrev pub Good : List ℕ → Type 0
  Good [] = Unit
  Good (n ∷ β) = Separated (N n) (concatenation N β) × Good β

  -- Each node has a word.
  abbrev pub HaveWords : List ℕ → Type 0
  HaveWords [] = Unit
  HaveWords (n ∷ β) = ((w : List ℕ) × N n w) × HaveWords β

  -- The invariant of a run: the list is good, and all but its first node have words. The start need have none.
  abbrev pub Ready : List ℕ → Type 0
  Ready [] = Unit
  Ready (n ∷ β) = Good (n ∷ β) × HaveWords β

  pub words_together : (β : List ℕ) → HaveWords β → (w : List ℕ) × concatenation N β w
  words_together [] h = ([], refl)
  words_together (n ∷ β) h = let r = words_together β h.1 in (h.0.0 ++ r.0, (h.0.0, r.0, refl, h.0.1, r.1))

  pub words_of_each : (β : List ℕ) (w : List ℕ) → concatenation N β w → HaveWords β
  words_of_each [] w h = tt
  words_of_each (n ∷ β) w h = ((h.0, h.3), words_of_each β h.1 h.4)

  pub have_words_left : (α β : List ℕ) → HaveWords (α ++ β) → HaveWords α
  have_words_left [] β h = tt
  have_words_left (n ∷ α) β h = (h.0, have_words_left α β h.1)

  pub have_words-append : (α β : List ℕ) → HaveWords α → HaveWords β → HaveWords (α ++ β)
  have_words-append [] β h k = k
  have_words-append (n ∷ α) β h k = (h.0, have_words-append α β h.1 k)

  pub good_one : (n : ℕ) → Good (n ∷ [])
  good_one n = (λ c f s. cons≢nil s.1, tt)

  pub ready_one : (n : ℕ) → Ready (n ∷ [])
  ready_one n = (good_one n, tt)

  ready_of : (β : List ℕ) → Good β → HaveWords β → Ready β
  ready_of [] g h = tt
  ready_of (n ∷ β) g h = (g, h.1)

-- A word c w of L · M begins in L, or L has the empty word.
begins_where : (c : ℕ) (w u v : List ℕ) (L M : Language) → c ∷ w ≡ u ++ v → L u → M v → Begins L c ⊎ (L [] × M (c ∷ w))
begins_where c w [] v L M e p q = inr (p, subst M (sym e) q)
begins_where c w (d ∷ u) v L M e p q = inl (u, subst (λ (n : ℕ). L (n ∷ u)) (sym (head-eq_of_cons-eq e)) p)

module _ (N : ℕ → Language) where
  begins_append : (α β : List ℕ) (c : ℕ) → Begins (concatenation N (α ++ β)) c
      → Begins (concatenation N α) c ⊎ (concatenation N α [] × Begins (concatenation N β) c)
  begins_append α β c h = let s = concatenation_split N α β (c ∷ h.0) h.1 in
      ⊎_map (λ x. x) (λ x. (x.0, (h.0, x.1)))
      (begins_where c h.0 s.0 s.1 (concatenation N α) (concatenation N β) s.2 s.3 s.4)

  follows_first : (n : ℕ) (α : List ℕ) (c : ℕ) → Follows (N n) c → concatenation N α [] → Follows (concatenation N (n ∷ α)) c
  follows_first n α c f e = (
    f.0,
    f.1,
    (f.0, [], sym (append-nil f.0), f.2, e),
    (f.0 ++ (c ∷ f.1), [], sym (append-nil (f.0 ++ (c ∷ f.1))), f.3, e),
  )

  follows_rest : (n : ℕ) (α : List ℕ) (c : ℕ) (w : List ℕ) → N n w → Follows (concatenation N α) c → Follows (concatenation N (n ∷ α)) c
  follows_rest n α c w h f = (
    w ++ f.0,
    f.1,
    (w, f.0, refl, h, f.2),
    (w, f.0 ++ (c ∷ f.1), append_assoc w f.0 (c ∷ f.1), h, f.3),
  )

  -- Two good lists make a good one if the first, taken together, is separated from the second, and its nodes have words.
  pub good_append : (α β : List ℕ) → Good N α → HaveWords N α → Separated (concatenation N α) (concatenation N β) → Good N β → Good N (α ++ β)
  good_append [] β g i k h = h
  good_append (n ∷ α) β g i k h = (
    (λ c f s. ⊎_elim (λ x. g.0 c f x) (λ x. k c (follows_first n α c f x.0) x.1) (begins_append α β c s)),
    good_append α β g.1 i.1 (λ c f s. k c (follows_rest n α c i.0.0 i.0.1 f) s) h,
  )

-- What a run asks of the rows: each unfolds its node's language, no two productions of a row begin alike, and the nodes of each
-- tail have words and are good.
pub record Fits (N : ℕ → Language) (M : ℕ → Row) : Type 0 where
  pub unfolds : (n : ℕ) → UnfoldsOnce N (N n) (M n)
  pub one_each : (n : ℕ) (q r : Production) → q of M n → r of M n → q.head ≡ r.head → q ≡ r
  pub tail_words : (n : ℕ) (q : Production) → q of M n → HaveWords N q.tail
  pub tail_good : (n : ℕ) (q : Production) → q of M n → Good N q.tail

-- No production of the row begins with t.
abbrev pub Lacks : Row → ℕ → Type 0
Lacks P t = (q : Production) → q of P → q.head ≡ t → ⊥

-- Each row has ε.
abbrev pub AllNullable : (ℕ → Row) → List ℕ → Type 0
AllNullable M [] = Unit
AllNullable M (n ∷ β) = ((M n).has_epsilon ≡ true) × AllNullable M β

module _ (N : ℕ → Language) (M : ℕ → Row) (fits : Fits N M) where
  production_by_row : (n t : ℕ) {x : List ℕ} (w : List ℕ) → x ≡ t ∷ w → ByRow N (M n) x
      → (q : Production) × (q of M n) × (q.head ≡ t) × concatenation N q.tail w
  production_by_row n t w e (by_epsilon s) = absurd (nil≢cons e)
  production_by_row n t w e (by_production {q = q} m c) =
      (q, m, head-eq_of_cons-eq e, subst (concatenation N q.tail) (tail-eq_of_cons-eq e) c)

  follows_tail : (n : ℕ) (q : Production) → q of M n → (c : ℕ) → Follows (concatenation N q.tail) c → Follows (N n) c
  follows_tail n q m c f = (
    q.head ∷ f.0,
    f.1,
    production_word N (fits.unfolds n) q f.0 m f.2,
    production_word N (fits.unfolds n) q (f.0 ++ (c ∷ f.1)) m f.3,
  )

  -- A production t β is taken: { w | t w ∈ F(n S) } = F(β S), and the list stays good.
  pub take_good : (n : ℕ) (β : List ℕ) (q : Production) → q of M n → Good N (n ∷ β) → Good N (q.tail ++ β)
  take_good n β q m g =
      good_append N q.tail β (fits.tail_good n q m) (fits.tail_words n q m) (λ c f s. g.0 c (follows_tail n q m c f) s) g.1

  pub take_ready : (n : ℕ) (β : List ℕ) (q : Production) → q of M n → Ready N (n ∷ β) → Ready N (q.tail ++ β)
  take_ready n β q m r =
      ready_of N (q.tail ++ β) (take_good n β q m r.0) (have_words-append N q.tail β (fits.tail_words n q m) r.1)

  pub take-words : (n : ℕ) (β : List ℕ) (q : Production) → q of M n → Good N (n ∷ β) → (w : List ℕ)
      → concatenation N (n ∷ β) (q.head ∷ w) ↔ concatenation N (q.tail ++ β) w
  take-words n β q m g w = (λ h. to h.0 h.1 h.2 h.3 h.4, back)
    where
      begins : Begins (N n) q.head
      begins = let x = words_together N q.tail (fits.tail_words n q m) in (x.0, production_word N (fits.unfolds n) q x.0 m x.1)

      to : (u v : List ℕ) → q.head ∷ w ≡ u ++ v → N n u → concatenation N β v → concatenation N (q.tail ++ β) w
      to [] v e p r = absurd (g.0 q.head ([], begins.0, p, begins.1) (w, subst (concatenation N β) (sym e) r))
      to (d ∷ u) v e p r =
          let x = production_by_row n d u refl ((fits.unfolds n (d ∷ u)).0 p) in
          let same : x.0 ≡ q = fits.one_each n x.0 q x.1 m (x.2 ∙ sym (head-eq_of_cons-eq e)) in
          subst (concatenation N (q.tail ++ β)) (sym (tail-eq_of_cons-eq e))
          (concatenation-append N q.tail β u v (subst (λ (z : Production). concatenation N z.tail u) same x.3) r)

      back : concatenation N (q.tail ++ β) w → concatenation N (n ∷ β) (q.head ∷ w)
      back h = let s = concatenation_split N q.tail β w h in
          (q.head ∷ s.0, s.1, ap (λ (z : List ℕ). q.head ∷ z) s.2, production_word N (fits.unfolds n) q s.0 m s.3, s.4)

  -- After a take there is a word.
  pub taken_has_word : (n : ℕ) (β : List ℕ) (q : Production) → q of M n → Ready N (n ∷ β) → (w : List ℕ) × concatenation N (q.tail ++ β) w
  taken_has_word n β q m r = words_together N (q.tail ++ β) (have_words-append N q.tail β (fits.tail_words n q m) r.1)

  -- The ε flag is exact.
  pub nullable_exact : (n : ℕ) → N n [] ↔ ((M n).has_epsilon ≡ true)
  nullable_exact n = null_exact N (fits.unfolds n)

  lacking : (n t : ℕ) (β : List ℕ) → Lacks (M n) t → (w : List ℕ) → concatenation N (n ∷ β) (t ∷ w) → N n [] × concatenation N β (t ∷ w)
  lacking n t β l w h =
      ⊎_elim (λ x. let y = production_by_row n t x.0 refl ((fits.unfolds n (t ∷ x.0)).0 x.1) in absurd (l y.0 y.1 y.2))
      (λ x. x)
      (begins_where t w h.0 h.1 (N n) (concatenation N β) h.2 h.3 h.4)

  -- None for t, and nullable: { w | t w ∈ F(n S) } = { w | t w ∈ F(S) }.
  pub drop-words : (n t : ℕ) (β : List ℕ) → Lacks (M n) t → (M n).has_epsilon ≡ true → (w : List ℕ)
      → concatenation N (n ∷ β) (t ∷ w) ↔ concatenation N β (t ∷ w)
  drop-words n t β l e w = (λ h. (lacking n t β l w h).1, λ h. ([], t ∷ w, refl, (nullable_exact n).1 e, h))

  pub drop_ready : (n : ℕ) (β : List ℕ) → Ready N (n ∷ β) → Ready N β
  drop_ready n β r = ready_of N β r.0.1 r.1

  -- None for t, and not nullable: no word of F(n S) begins with t.
  pub stop_words : (n t : ℕ) (β : List ℕ) → Lacks (M n) t → (M n).has_epsilon ≡ false → (w : List ℕ) → concatenation N (n ∷ β) (t ∷ w) → ⊥
  stop_words n t β l e w h = subst T e (true_holds (M n).has_epsilon ((nullable_exact n).0 (lacking n t β l w h).0))

  -- At the end: all pending nodes are nullable iff they have the empty word together.
  pub end_exact : (β : List ℕ) → AllNullable M β ↔ concatenation N β []
  end_exact [] = (λ t. refl, λ h. tt)
  end_exact (n ∷ β) = let r = end_exact β in (
    (λ t. ([], [], refl, (nullable_exact n).1 t.0, r.0 t.1)),
    λ h. to r h.0 h.1 h.2 h.3 h.4,
  )
    where
      to : AllNullable M β ↔ concatenation N β [] → (u v : List ℕ) → [] ≡ u ++ v → N n u → concatenation N β v → AllNullable M (n ∷ β)
      to r [] v e p q = ((nullable_exact n).0 p, r.1 (subst (concatenation N β) (sym e) q))
      to r (d ∷ u) v e p q = absurd (nil≢cons e)

-- What a token does to the pending nodes: they are tried from the first; one with a production for it takes it, a nullable one
-- without is dropped, any other, or none left, ends the run.
pub data TokenStep (M : ℕ → Row) (t : ℕ) : List ℕ → Option Taking → Type 0 where
  takes : {n : ℕ} {β : List ℕ} (q : Production) → q of M n → q.head ≡ t → TokenStep M t (n ∷ β) (some (taken_by n (q.tail ++ β)))
  drops : {n : ℕ} {β : List ℕ} {o : Option Taking} → Lacks (M n) t → (M n).has_epsilon ≡ true → TokenStep M t β o → TokenStep M t (n ∷ β) o
  stops : {n : ℕ} {β : List ℕ} → Lacks (M n) t → (M n).has_epsilon ≡ false → TokenStep M t (n ∷ β) none
  none_left : TokenStep M t [] none

-- What it then says of the words: those that go on with t, of which there is one, are the new list's; or none goes on with t.
abbrev pub StepWords : (ℕ → Language) → ℕ → List ℕ → Option Taking → Type 0
StepWords N t β none = (w : List ℕ) → concatenation N β (t ∷ w) → ⊥
StepWords N t β (some x) =
    Ready N x.pending × ((w : List ℕ) → concatenation N β (t ∷ w) ↔ concatenation N x.pending w)
    × ((w : List ℕ) × concatenation N β (t ∷ w))

module _ (N : ℕ → Language) (M : ℕ → Row) (fits : Fits N M) where
  dropped : (n t : ℕ) (β : List ℕ) → Lacks (M n) t → (M n).has_epsilon ≡ true → (o : Option Taking) → StepWords N t β o → StepWords N t (n ∷ β) o
  dropped n t β l e none f = λ w h. f w ((drop-words N M fits n t β l e w).0 h)
  dropped n t β l e (some x) f = let d = drop-words N M fits n t β l e in (
    f.0,
    (λ w. (λ h. (f.1 w).0 ((d w).0 h), λ h. (d w).1 ((f.1 w).1 h))),
    (f.2.0, (d f.2.0).1 f.2.1),
  )

  pub step-words : {t : ℕ} {β : List ℕ} {o : Option Taking} → TokenStep M t β o → Ready N β → StepWords N t β o
  step-words (takes {n = n} {β = β} q m e) r =
      let tw = rw e at (take-words N M fits n β q m r.0) in
      let x = taken_has_word N M fits n β q m r in
      (take_ready N M fits n β q m r, tw, (x.0, (tw x.0).1 x.1))
  step-words {t} (drops {n = n} {β = β} {o = o} l e f) r = dropped n t β l e o (step-words f (drop_ready N M fits n β r))
  step-words {t} (stops {n = n} {β = β} l e) r = stop_words N M fits n t β l e
  step-words none_left r = λ w h. cons≢nil h

-- A take removes at least one node and adds a tail: if tails have at most one member more than some number, the list grows by no
-- more than that number.
abbrev pub GrowsBy : ℕ → List ℕ → Option Taking → Type 0
GrowsBy most β none = Unit
GrowsBy most β (some x) = length x.pending ≤ length β + most

module _ (most : ℕ) (M : ℕ → Row) (short : (n : ℕ) (q : Production) → q of M n → length q.tail ≤ suc most) where
  grows_more : (n : ℕ) (β : List ℕ) (o : Option Taking) → GrowsBy most β o → GrowsBy most (n ∷ β) o
  grows_more n β none g = tt
  grows_more n β (some x) g = omega arith

  pub step_grows : {t : ℕ} {β : List ℕ} {o : Option Taking} → TokenStep M t β o → GrowsBy most β o
  step_grows (takes {n = n} {β = β} q m e) = let a = short n q m in let b = length-append q.tail β in omega arith
  step_grows (drops {n = n} {β = β} {o = o} l e f) = grows_more n β o (step_grows f)
  step_grows (stops l e) = tt
  step_grows none_left = tt
