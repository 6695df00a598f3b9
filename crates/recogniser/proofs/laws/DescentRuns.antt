-- Where a descent from a node leaves tokens, a run of all tokens over that node and more goes as the run of what is left
-- over the others; and where the descent is stuck, so is the run.
use Rattle.std.specs.Prelude.{◌≡◌, refl, Bool, true, ◌↔◌, ℕ, ◌≤◌}
use Rattle.std.proofs.Common.{sym, ◌∙◌, true≢false, inl, inr, ⊎_elim}
use Rattle.std.proofs.Math.Path.{ap, subst}
use Rattle.std.proofs.Math.Bool.{false, cond}
use mathlib.Core.List.Memᴰ
use mathlib.Core.List.{List, [], ◌∷◌, append_assoc, nil≢cons, cons≢nil, head-eq_of_cons-eq}
use Rattle.std.proofs.Math.Option.{Option, some, none}
use Rattle.std.proofs.Math.ListN.{get_or-eq_default}
use Rattle.sheet.specs.Expression.{Expression, size}
use Rattle.types.specs.Denotation.{Language}
use Rattle.types.specs.Languages.{Environment}
use Rattle.types.specs.TypeNames.{Context}
use Rattle.types.specs.Types.{LanguageType, bottom_type, ◌⊢◌∶◌, type_epsilon, type_bottom, type_token, type_variable, type_sequence, type_alternative, type_fixed_point, type_repetition}
use Rattle.types.specs.Nodes.{Node, epsilon_node, bottom_node, token_node, sequence_node, alternative_node, fixed_point_node, variable_node, repetition_node, nodes, node_at}
use Rattle.normal_form.specs.Productions.{Production, Row, no_productions, row_of, node_row, ended_by, rows}
use Rattle.normal_form.specs.Derives.{derives}
use Rattle.normal_form.specs.RowNames.{derives_at}
use Rattle.normal_form.specs.NormalForm.{normal_form}
use Rattle.normal_form.proofs.laws.KeptRows.{staying_row, normal_form_solves, normal_form_epsilon}
use Rattle.normal_form.proofs.laws.LeftParts.{LeftNotNull, left_not_null, not-true}
use Rattle.normal_form.proofs.laws.Places.{nodes-count}
use Rattle.normal_form.proofs.laws.NodeLanguages.{node_language, language_equation, Site, at_every_node}
use Rattle.types.specs.NodeLanguages.{language_of}
use Rattle.normal_form.proofs.laws.DerivesExact.{derives_exact}
use Rattle.types.specs.Languages.{HasWord, Begins}
use Rattle.normal_form.proofs.laws.Unfolding.{◌of◌, sequence_row, epsilon_row, alternative_row}
use Rattle.normal_form.proofs.laws.Pending.{Lacks, AllNullable, TokenStep, takes, drops, stops, nullable_exact}
use Rattle.normal_form.proofs.laws.NormalFormLaws.{normal_form_fits}
use Rattle.normal_form.proofs.laws.ExactRows.{production_for, production_begins}
use Rattle.recogniser.specs.Descends.{Descent, left, stuck, Enters, DescendsAt, bottom_fails, epsilon_leaves, token_taken, token_fails, token_missing, sequence_through, sequence_stuck, alternative_leaves, alternative_missing, into_first, into_second, into_neither, into_body, into_fixed_point, repetition_leaves, repetition_done, repetition_through, repetition_stuck}
use Rattle.recogniser.proofs.laws.TokenRun.{StepsTo, to_next, to_none, TokenRun, run_accepts, run_ends_early, run_takes, run_refuses}

-- A repetition's second link is the repetition itself.
abbrev SelfAt : ℕ → Node → Type 0
SelfAt n epsilon_node = Unit
SelfAt n bottom_node = Unit
SelfAt n (token_node t) = Unit
SelfAt n (sequence_node l r) = Unit
SelfAt n (alternative_node l r) = Unit
SelfAt n (fixed_point_node b) = Unit
SelfAt n (variable_node f guarded) = Unit
SelfAt n (repetition_node b self) = self ≡ n

self_at : {e : Expression} {a : LanguageType} → [] ⊢ e ∶ a → (n : ℕ) → SelfAt n (node_at (nodes e) n)
self_at {e} d n = (at_every_node d (λ b i. SelfAt i (node_at (nodes e) i)) (λ Γ g b x γ p fs s k. own x γ p fs s) past n).1
  where
    past : (i : ℕ) → size e ≤ i → (b : LanguageType) × SelfAt i (node_at (nodes e) i)
    past i h = (bottom_type, rw (get_or-eq_default (nodes e) bottom_node {n = i} (rw (nodes-count e) h)) tt)

    own : {Γ : Context} {g : Expression} {b : LanguageType} → Γ ⊢ g ∶ b → (γ : Environment) (p : ℕ) (fs : List ℕ)
        → Site (language_of e) (node_at (nodes e)) Γ g γ p fs → SelfAt p (node_at (nodes e) p)
    own type_epsilon γ p fs s = rw s.placed tt
    own type_bottom γ p fs s = rw s.placed tt
    own (type_token t) γ p fs s = rw s.placed tt
    own (type_variable u) γ p fs s = rw s.placed.1 tt
    own (type_sequence x y q) γ p fs s = rw s.placed.0 tt
    own (type_alternative x y q) γ p fs s = rw s.placed.0 tt
    own (type_fixed_point x) γ p fs s = rw s.placed.0 tt
    own (type_repetition x q h) γ p fs s = rw s.placed.0 refl

-- "a branch that denotes nothing is not entered"
pub entered_denotes : (e : Expression) (g g' c : ℕ) → Enters e g g' c → HasWord (language_of e g)
entered_denotes e g g' c (inl b) = (c ∷ b.0, b.1)
entered_denotes e g g' c (inr n) = ([], n.0)

-- ---- runs over changed lists

module _ (M : ℕ → Row) where
  -- What a run says of one list it says of another, if each step and the end say the same.
  pub same_run : {α β : List ℕ} (ts : List ℕ) {r : Descent}
      → ((t : ℕ) (us : List ℕ) → ts ≡ t ∷ us → (o : Option (List ℕ)) → StepsTo M t α o → StepsTo M t β o)
      → (ts ≡ [] → AllNullable M α ↔ AllNullable M β) → TokenRun M α ts r → TokenRun M β ts r
  same_run [] f g (run_accepts n) = run_accepts ((g refl).0 n)
  same_run [] f g (run_ends_early n) = run_ends_early (λ x. n ((g refl).1 x))
  same_run (t ∷ us) f g (run_takes {next = next} s x) = run_takes (f t us refl (some next) s) x
  same_run (t ∷ us) f g (run_refuses s) = run_refuses (f t us refl none s)

  -- A node in front that does at t what another does.
  moved : {t n m : ℕ} {β : List ℕ} → ((q : Production) → q of M m → q.head ≡ t → q of M n) → (Lacks (M m) t → Lacks (M n) t)
      → (Lacks (M m) t → (M n).has_epsilon ≡ (M m).has_epsilon) → (o : Option (List ℕ)) → StepsTo M t (m ∷ β) o → StepsTo M t (n ∷ β) o
  moved f g h o (to_next (takes q m e)) = to_next (takes q (f q m e) e)
  moved f g h o (to_next (drops l e s)) = to_next (drops (g l) (h l ∙ e) s)
  moved f g h o (to_none (drops l e s)) = to_none (drops (g l) (h l ∙ e) s)
  moved f g h o (to_none (stops l e)) = to_none (stops (g l) (h l ∙ e))

  -- Two nodes with one row.
  same_row : (n m : ℕ) → M n ≡ M m → {β : List ℕ} (ts : List ℕ) {r : Descent} → TokenRun M (m ∷ β) ts r → TokenRun M (n ∷ β) ts r
  same_row n m e {β} ts = same_run ts
      (λ t us z. moved (λ q x y. subst (λ (P : Row). q of P) (sym e) x) (subst (λ (P : Row). Lacks P t) (sym e))
      (λ l. ap (λ (P : Row). P.has_epsilon) e))
      (λ z. (λ x. (ap (λ (P : Row). P.has_epsilon) e ∙ x.0, x.1), λ x. (ap (λ (P : Row). P.has_epsilon) (sym e) ∙ x.0, x.1)))

  -- A node that is dropped.
  dropped : {t n : ℕ} {β : List ℕ} {o : Option (List ℕ)} → Lacks (M n) t → (M n).has_epsilon ≡ true → StepsTo M t β o
      → StepsTo M t (n ∷ β) o
  dropped l e (to_next s) = to_next (drops l e s)
  dropped l e (to_none s) = to_none (drops l e s)

  run_dropped : (n : ℕ) → (M n).has_epsilon ≡ true → {β : List ℕ} (ts : List ℕ)
      → ((t : ℕ) (us : List ℕ) → ts ≡ t ∷ us → Lacks (M n) t) → {r : Descent} → TokenRun M β ts r → TokenRun M (n ∷ β) ts r
  run_dropped n e ts l = same_run ts (λ t us z o s. dropped (l t us z) e s) (λ z. (λ x. (e, x), λ x. x.1))

module _ {e : Expression} {a : LanguageType} (d : [] ⊢ e ∶ a) where
  abbrev N : ℕ → Language
  N = language_of e

  abbrev M : ℕ → Row
  M = row_of (normal_form e)

  abbrev table : ℕ → Node
  table = node_at (nodes e)

  row_is : (n : ℕ) {x : Node} → table n ≡ x → M n ≡ staying_row (derives e) (normal_form e) x
  row_is n h = normal_form_solves d n ∙ ap (staying_row (derives e) (normal_form e)) h

  pub words_are : (n : ℕ) {x : Node} → table n ≡ x → (w : List ℕ) → N n w ↔ node_language N x w
  words_are n h w = subst (λ (y : Node). N n w ↔ node_language N y w) h (language_equation d n w)

  pub lacks : (n t : ℕ) → (Begins (N n) t → ⊥) → Lacks (M n) t
  lacks n t h q m z = h (production_begins d n t q m z)

  pub null : (n : ℕ) → N n [] ↔ ((M n).has_epsilon ≡ true)
  null = nullable_exact N M (normal_form_fits d)

  not_null : (n : ℕ) → (N n [] → ⊥) → (M n).has_epsilon ≡ false
  not_null n h = not-true (M n).has_epsilon (λ z. h ((null n).1 z))

  -- The left part of a sequence, and the part of a repetition, has no empty word.
  pub left_not_empty : (n l r : ℕ) → table n ≡ sequence_node l r → N l [] → ⊥
  left_not_empty n l r h w = true≢false (sym ((null l).0 w) ∙ (normal_form_epsilon e l ∙ subst (LeftNotNull (rows e)) h (left_not_null d n)))

  pub part-not_empty : (n b self : ℕ) → table n ≡ repetition_node b self → N b [] → ⊥
  part-not_empty n b self h w =
      true≢false (sym ((null b).0 w) ∙ (normal_form_epsilon e b ∙ subst (LeftNotNull (rows e)) h (left_not_null d n)))

  pub repeats_itself : (n b self : ℕ) → table n ≡ repetition_node b self → self ≡ n
  repeats_itself n b self h = subst (SelfAt n) h (self_at d n)

  -- Left part and right part in front do what a row with the right node at the end of each of the left part's tails does.
  regroup : (n l r t : ℕ) {β : List ℕ} → (M l).has_epsilon ≡ false → ((q : Production) → q of M l → ended_by r q of M n)
      → (Lacks (M l) t → TokenStep M t (n ∷ β) none) → (o : Option (List ℕ)) → StepsTo M t (l ∷ (r ∷ β)) o → StepsTo M t (n ∷ β) o
  unfolding ended_by
  regroup n l r t {β} i f g o (to_next (takes q m z)) =
      subst (λ (x : List ℕ). StepsTo M t (n ∷ β) (some x)) (append_assoc q.tail (r ∷ []) β) (to_next (takes (ended_by r q) (f q m) z))
  regroup n l r t i f g o (to_next (drops k z s)) = absurd (true≢false (sym z ∙ i))
  regroup n l r t i f g o (to_none (drops k z s)) = absurd (true≢false (sym z ∙ i))
  regroup n l r t i f g o (to_none (stops k z)) = to_none (g k)

  sequence_row_is : (n l r : ℕ) → table n ≡ sequence_node l r → HasWord (N r) → M n ≡ sequence_row r (M l)
  unfolding node_row
  sequence_row_is n l r h w = row_is n h
      ∙ ap (λ (b : Bool). cond b (node_row (normal_form e) (sequence_node l r)) no_productions) ((derives_exact d r).1 w)

  sequence_run : (n l r : ℕ) → table n ≡ sequence_node l r → HasWord (N r) → {β : List ℕ} (ts : List ℕ) {o : Descent}
      → TokenRun M (l ∷ (r ∷ β)) ts o → TokenRun M (n ∷ β) ts o
  unfolding ended_by
  sequence_run n l r h w {β} ts =
      let row = sequence_row_is n l r h w in
      let stays = not_null l (left_not_empty n l r h) in
      let has_none : (M n).has_epsilon ≡ false = ap (λ (P : Row). P.has_epsilon) row in
      same_run M ts
      (λ t us z. regroup n l r t stays (λ q m. subst (λ (P : Row). ended_by r q of P) (sym row) (Memᴰ.map (ended_by r) m))
      (λ k. stops (subst (λ (P : Row). Lacks P t) (sym row)
      (λ q m y. let x = Memᴰ.of_map (ended_by r) (M l).productions m in
      k x.0 x.1 (ap (λ (p : Production). p.head) x.2 ∙ y))) has_none))
      (λ z. (λ x. absurd (true≢false (sym x.0 ∙ stays)), λ x. absurd (true≢false (sym x.0 ∙ has_none))))

  repetition_row_is : (n b self : ℕ) → table n ≡ repetition_node b self → M n ≡ alternative_row epsilon_row (sequence_row n (M b))
  unfolding node_row
  repetition_row_is n b self h = row_is n h
      ∙ (ap (λ (i : ℕ). alternative_row epsilon_row
      (cond (derives_at (derives e) i) (node_row (normal_form e) (sequence_node b i)) no_productions))
      (repeats_itself n b self h)
      ∙ ap (λ (f : Bool). alternative_row epsilon_row (cond f (sequence_row n (M b)) no_productions))
      ((derives_exact d n).1 ([], (words_are n h []).1 (inl refl))))

  repetition_run : (n b self t : ℕ) → table n ≡ repetition_node b self → Begins (N b) t → {β us : List ℕ} {o : Descent}
      → TokenRun M (b ∷ (n ∷ β)) (t ∷ us) o → TokenRun M (n ∷ β) (t ∷ us) o
  unfolding ended_by
  repetition_run n b self t h w {β} {us} =
      let row = repetition_row_is n b self h in
      let p = production_for d b t w in
      same_run M (t ∷ us)
      (λ t' us' z. regroup n b n t' (not_null b (part-not_empty n b self h))
      (λ q m. subst (λ (P : Row). ended_by n q of P) (sym row) (Memᴰ.map (ended_by n) m))
      (λ k. absurd (k p.0 p.1 (p.2 ∙ head-eq_of_cons-eq z))))
      (λ z. absurd (nil≢cons (sym z)))

  -- An alternative does at t what the part does that is entered.
  alternative_row_is : (n l r : ℕ) → table n ≡ alternative_node l r → M n ≡ alternative_row (M l) (M r)
  unfolding node_row
  alternative_row_is n l r h = row_is n h

  neither_begins : (n l r t : ℕ) → table n ≡ alternative_node l r → (Begins (N l) t → ⊥) → (Begins (N r) t → ⊥) → Lacks (M n) t
  neither_begins n l r t h f g = lacks n t (λ b. ⊎_elim (λ x. f (b.0, x)) (λ x. g (b.0, x)) ((words_are n h (t ∷ b.0)).0 b.1))

  entered_run : (n g g' t : ℕ) → ((q : Production) → q of M g → q of M n) → ((Begins (N g) t → ⊥) → (Begins (N g') t → ⊥) → Lacks (M n) t)
      → (N g [] → N n []) → Enters e g g' t → {β us : List ℕ} {o : Descent} → TokenRun M (g ∷ β) (t ∷ us) o → TokenRun M (n ∷ β) (t ∷ us) o
  entered_run n g g' t f k i (inl b) {β} {us} = let p = production_for d g t b in
      same_run M (t ∷ us) (λ t' us' z. moved M (λ q m y. f q m) (λ l. absurd (l p.0 p.1 (p.2 ∙ head-eq_of_cons-eq z)))
      (λ l. absurd (l p.0 p.1 (p.2 ∙ head-eq_of_cons-eq z)))) (λ z. absurd (nil≢cons (sym z)))
  entered_run n g g' t f k i (inr b) {β} {us} =
      same_run M (t ∷ us) (λ t' us' z. moved M (λ q m y. f q m) (λ l. subst (Lacks (M n)) (head-eq_of_cons-eq z) (k b.1 b.2))
      (λ l. (null n).0 (i b.0) ∙ sym ((null g).0 b.0))) (λ z. absurd (nil≢cons (sym z)))

  token_of : (n k : ℕ) → table n ≡ token_node k → record { head = k; tail = [] } of M n
  unfolding node_row
  token_of n k h = subst (λ (P : Row). record { head = k; tail = [] } of P) (sym (row_is n h)) (Memᴰ.head refl)

  body_row : (n b : ℕ) → table n ≡ fixed_point_node b → M n ≡ M b
  unfolding node_row
  body_row n b h = row_is n h

  variable_row : (n f : ℕ) (guarded : Bool) → table n ≡ variable_node f guarded → M n ≡ M f
  unfolding node_row
  variable_row n f guarded h = row_is n h

  part_lacks : (n b self t : ℕ) → table n ≡ repetition_node b self → (Begins (N b) t → ⊥) → Lacks (M n) t
  unfolding ended_by
  part_lacks n b self t h f q m z =
      let x = Memᴰ.of_map (ended_by n) (M b).productions (subst (λ (P : Row). q of P) (repetition_row_is n b self h) m) in
      lacks b t f x.0 x.1 (ap (λ (p : Production). p.head) x.2 ∙ z)

  -- What comes after the descent from a node, over the nodes behind it.
  abbrev pub Continues : List ℕ → Descent → Descent → Type 0
  Continues β (left us) r = TokenRun M β us r
  Continues β (stuck us) r = r ≡ stuck us

  stuck_run : (β ts : List ℕ) {us : List ℕ} {r : Descent} → r ≡ stuck us → TokenRun M β ts (stuck us) → TokenRun M β ts r
  stuck_run β ts z x = subst (TokenRun M β ts) (sym z) x

  pub descent_runs : {x : Node} {ts : List ℕ} {o : Descent} → DescendsAt e x ts o → (n : ℕ) → table n ≡ x → HasWord (N n)
      → (β : List ℕ) (r : Descent) → Continues β o r → TokenRun M (n ∷ β) ts r
  descent_runs bottom_fails n h w β r c = absurd ((words_are n h w.0).0 w.1)
  descent_runs (epsilon_leaves {s = s}) n h w β r c = run_dropped M n ((null n).0 ((words_are n h []).1 refl)) s
      (λ t us z. lacks n t (λ b. cons≢nil ((words_are n h (t ∷ b.0)).0 b.1))) c
  descent_runs (token_taken {c = k} {c' = k'} {s = s} z) n h w β r c =
      run_takes (to_next (takes (record { head = k; tail = [] }) (token_of n k h) z)) c
  descent_runs (token_fails {c = k} {c' = k'} {s = s} z) n h w β r c = stuck_run (n ∷ β) (k' ∷ s) c
      (run_refuses (to_none (stops (lacks n k' (λ b. z (sym (head-eq_of_cons-eq ((words_are n h (k' ∷ b.0)).0 b.1)))))
      (not_null n (λ y. nil≢cons ((words_are n h []).0 y))))))
  descent_runs token_missing n h w β r c = stuck_run (n ∷ β) [] c
      (run_ends_early (λ y. nil≢cons ((words_are n h []).0 ((null n).1 y.0))))
  descent_runs (sequence_through {g = g} {g' = g'} {s = s} {s' = s'} x y) n h w β r c =
      let v = (words_are n h w.0).0 w.1 in
      sequence_run n g g' h (v.1, v.4) s
      (descent_runs x g refl (v.0, v.3) (g' ∷ β) r (descent_runs y g' refl (v.1, v.4) β r c))
  descent_runs (sequence_stuck {g = g} {g' = g'} {s = s} x) n h w β r c =
      let v = (words_are n h w.0).0 w.1 in
      sequence_run n g g' h (v.1, v.4) s (descent_runs x g refl (v.0, v.3) (g' ∷ β) r c)
  descent_runs (alternative_leaves x) n h w β r c = run_dropped M n ((null n).0 ((words_are n h []).1 x)) []
      (λ t us z. absurd (nil≢cons z)) c
  descent_runs (alternative_missing x y) n h w β r c = stuck_run (n ∷ β) [] c
      (run_ends_early (λ z. ⊎_elim x y ((words_are n h []).0 ((null n).1 z.0))))
  descent_runs (into_first {g = g} {g' = g'} {c = k} {s = s} i x) n h w β r c =
      let row = alternative_row_is n g g' h in
      entered_run n g g' k (λ q m. subst (λ (P : Row). q of P) (sym row) (Memᴰ.append_left (M g').productions m))
      (neither_begins n g g' k h) (λ y. (words_are n h []).1 (inl y)) i
      (descent_runs x g refl (entered_denotes e g g' k i) β r c)
  descent_runs (into_second {g = g} {g' = g'} {c = k} {s = s} i x) n h w β r c =
      let row = alternative_row_is n g g' h in
      entered_run n g' g k (λ q m. subst (λ (P : Row). q of P) (sym row) (Memᴰ.append_right (M g).productions m))
      (λ u v. neither_begins n g g' k h v u) (λ y. (words_are n h []).1 (inr y)) i
      (descent_runs x g' refl (entered_denotes e g' g k i) β r c)
  descent_runs (into_neither {g = g} {g' = g'} {c = k} {s = s} x y) n h w β r c = stuck_run (n ∷ β) (k ∷ s) c
      (run_refuses (to_none (stops (neither_begins n g g' k h (λ b. x (inl b)) (λ b. y (inl b)))
      (not_null n (λ z. ⊎_elim (λ u. x (inr (u, λ b. x (inl b), λ b. y (inl b)))) (λ u. y (inr (u, λ b. y (inl b), λ b. x (inl b))))
      ((words_are n h []).0 z))))))
  descent_runs (into_body {g = g} {s = s} x) n h w β r c =
      same_row M n g (body_row n g h) s (descent_runs x g refl (w.0, (words_are n h w.0).0 w.1) β r c)
  descent_runs (into_fixed_point {f = f} {guarded = b} {s = s} x) n h w β r c =
      same_row M n f (variable_row n f b h) s (descent_runs x f refl (w.0, (words_are n h w.0).0 w.1) β r c)
  descent_runs repetition_leaves n h w β r c = run_dropped M n ((null n).0 ((words_are n h []).1 (inl refl))) []
      (λ t us z. absurd (nil≢cons z)) c
  descent_runs (repetition_done {g = g} {self = self} {c = k} {s = s} x) n h w β r c =
      run_dropped M n ((null n).0 ((words_are n h []).1 (inl refl))) (k ∷ s)
      (λ t us z. subst (Lacks (M n)) (head-eq_of_cons-eq z) (part_lacks n g self k h x)) c
  descent_runs (repetition_through {g = g} {self = self} {c = k} {s = s} {s' = s'} i x y) n h w β r c =
      let same = repeats_itself n g self h in
      repetition_run n g self k h i (descent_runs x g refl (k ∷ i.0, i.1) (n ∷ β) r
      (subst (λ (m : ℕ). TokenRun M (m ∷ β) s' r) same
      (descent_runs y self refl ([], subst (λ (m : ℕ). N m []) (sym same) ((words_are n h []).1 (inl refl))) β r c)))
  descent_runs (repetition_stuck {g = g} {self = self} {c = k} {s = s} i x) n h w β r c =
      repetition_run n g self k h i (descent_runs x g refl (k ∷ i.0, i.1) (n ∷ β) r c)
