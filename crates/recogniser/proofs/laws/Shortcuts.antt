-- A node that no word of which begins with the next token takes nothing: if it has the empty word the descent leaves all, if not it is
-- stuck at once. So code may ask this once, at every node, before it descends; it need not follow Figure 6 down to the leaf.
use Rattle.std.specs.Prelude.{◌≡◌, refl, ℕ, zero, suc}
use Rattle.std.proofs.Common.{sym, ap, subst, inl, inr, ⊎_elim}
use mathlib.Core.List.{List, [], ◌∷◌, ◌++◌, append-nil, nil≢cons}
use Rattle.sheet.specs.Expression.{Expression}
use Rattle.types.specs.Types.{LanguageType, ◌⊢◌∶◌}
use Rattle.types.specs.Nodes.{Node, epsilon_node, bottom_node, token_node, sequence_node, alternative_node, fixed_point_node, variable_node, repetition_node, nodes, node_at}
use Rattle.types.specs.Languages.{HasWord}
use Rattle.recogniser.specs.Descends.{left, stuck, Nullable, CanBegin, DescendsAt, Descends, epsilon_leaves, token_fails, token_missing, sequence_stuck, alternative_leaves, alternative_missing, into_first, into_second, into_neither, into_body, into_fixed_point, repetition_leaves, repetition_done}
use Rattle.recogniser.proofs.laws.DescentRuns.{words_are, left_not_empty, repeats_itself}
use Rattle.recogniser.specs.Ranks.{PartsEnd, EndsIn}
use Rattle.recogniser.proofs.laws.Ends.{parts_later}
use Rattle.types.specs.NodeLanguages.{language_of}

-- No word of the node begins with the first of the tokens; where there is none, that holds.
abbrev pub NotBegun : Expression → ℕ → List ℕ → Type 0
NotBegun e n [] = Unit
NotBegun e n (c ∷ s) = CanBegin e n c → ⊥

not_begun : (e : Expression) (n m : ℕ) → ((c : ℕ) → CanBegin e m c → CanBegin e n c) → (s : List ℕ) → NotBegun e n s → NotBegun e m s
not_begun e n m f [] h = tt
not_begun e n m f (c ∷ s) h = λ b. h (f c b)

empty_front : (u v : List ℕ) → [] ≡ u ++ v → u ≡ []
empty_front [] v z = refl
empty_front (c ∷ u) v z = absurd (nil≢cons z)

module _ {e : Expression} {a : LanguageType} (d : [] ⊢ e ∶ a) where
  abbrev table : ℕ → Node
  table = node_at (nodes e)

  abbrev Leaves : ℕ → Type 0
  Leaves n = Nullable e n → (s : List ℕ) → NotBegun e n s → Descends e n s (left s)

  leaves_at : (n : ℕ) (x : Node) → table n ≡ x → PartsEnd Leaves x → Nullable e n → (s : List ℕ) → NotBegun e n s
      → DescendsAt e x s (left s)
  leaves_at n epsilon_node h p w s f = epsilon_leaves
  leaves_at n bottom_node h p w s f = absurd ((words_are d n h []).0 w)
  leaves_at n (token_node k) h p w s f = absurd (nil≢cons ((words_are d n h []).0 w))
  leaves_at n (sequence_node l r) h p w s f = let v = (words_are d n h []).0 w in
      absurd (left_not_empty d n l r h (subst (language_of e l) (empty_front v.0 v.1 v.2) v.3))
  leaves_at n (alternative_node l r) h p w [] f = alternative_leaves ((words_are d n h []).0 w)
  leaves_at n (alternative_node l r) h p w (c ∷ s) f =
      let no_l : CanBegin e l c → ⊥ = λ b. f (b.0, (words_are d n h (c ∷ b.0)).1 (inl b.1)) in
      let no_r : CanBegin e r c → ⊥ = λ b. f (b.0, (words_are d n h (c ∷ b.0)).1 (inr b.1)) in
      ⊎_elim (λ y. into_first (inr (y, no_l, no_r)) (p.0 y (c ∷ s) no_l)) (λ y. into_second (inr (y, no_r, no_l)) (p.1 y (c ∷ s) no_r))
      ((words_are d n h []).0 w)
  leaves_at n (fixed_point_node b) h p w s f =
      into_body (p ((words_are d n h []).0 w) s (not_begun e n b (λ c y. (y.0, (words_are d n h (c ∷ y.0)).1 y.1)) s f))
  leaves_at n (variable_node b guarded) h p w s f =
      into_fixed_point (p ((words_are d n h []).0 w) s (not_begun e n b (λ c y. (y.0, (words_are d n h (c ∷ y.0)).1 y.1)) s f))
  leaves_at n (repetition_node b self) h p w [] f = repetition_leaves
  leaves_at n (repetition_node b self) h p w (c ∷ s) f = repetition_done (λ y. f (
    y.0,
    (words_are d n h (c ∷ y.0)).1
        (inr (c ∷ y.0, [], sym (append-nil (c ∷ y.0)), y.1, subst (Nullable e) (sym (repeats_itself d n b self h)) w)),
  ))

  pub leaves_all : (k n : ℕ) → EndsIn table k n → Leaves n
  leaves_all zero n p = absurd p
  leaves_all (suc k) n p = leaves_at n (table n) refl (parts_later (EndsIn table k) Leaves (λ i x. leaves_all k i x) (table n) p)

  abbrev Stuck : ℕ → Type 0
  Stuck n = HasWord (language_of e n) → (Nullable e n → ⊥) → (s : List ℕ) → NotBegun e n s → Descends e n s (stuck s)

  stuck_at : (n : ℕ) (x : Node) → table n ≡ x → PartsEnd Stuck x → HasWord (language_of e n) → (Nullable e n → ⊥) → (s : List ℕ)
      → NotBegun e n s → DescendsAt e x s (stuck s)
  stuck_at n epsilon_node h p w z s f = absurd (z ((words_are d n h []).1 refl))
  stuck_at n bottom_node h p w z s f = absurd ((words_are d n h w.0).0 w.1)
  stuck_at n (token_node k) h p w z [] f = token_missing
  stuck_at n (token_node k) h p w z (c ∷ s) f = token_fails (λ y. f ([], (words_are d n h (c ∷ [])).1 (ap (λ (i : ℕ). i ∷ []) (sym y))))
  stuck_at n (sequence_node l r) h p w z s f = let v = (words_are d n h w.0).0 w.1 in
      sequence_stuck (p (v.0, v.3) (left_not_empty d n l r h) s
      (not_begun e n l (λ c y. (y.0 ++ v.1, (words_are d n h (c ∷ (y.0 ++ v.1))).1 (c ∷ y.0, v.1, refl, y.1, v.4))) s f))
  stuck_at n (alternative_node l r) h p w z [] f =
      alternative_missing (λ y. z ((words_are d n h []).1 (inl y))) (λ y. z ((words_are d n h []).1 (inr y)))
  stuck_at n (alternative_node l r) h p w z (c ∷ s) f =
      into_neither
      (λ i. ⊎_elim (λ b. f (b.0, (words_are d n h (c ∷ b.0)).1 (inl b.1))) (λ y. z ((words_are d n h []).1 (inl y.0))) i)
      (λ i. ⊎_elim (λ b. f (b.0, (words_are d n h (c ∷ b.0)).1 (inr b.1))) (λ y. z ((words_are d n h []).1 (inr y.0))) i)
  stuck_at n (fixed_point_node b) h p w z s f = into_body (p (w.0, (words_are d n h w.0).0 w.1) (λ y. z ((words_are d n h []).1 y)) s
      (not_begun e n b (λ c y. (y.0, (words_are d n h (c ∷ y.0)).1 y.1)) s f))
  stuck_at n (variable_node b guarded) h p w z s f = into_fixed_point
      (p (w.0, (words_are d n h w.0).0 w.1) (λ y. z ((words_are d n h []).1 y)) s
      (not_begun e n b (λ c y. (y.0, (words_are d n h (c ∷ y.0)).1 y.1)) s f))
  stuck_at n (repetition_node b self) h p w z s f = absurd (z ((words_are d n h []).1 (inl refl)))

  pub stuck_all : (k n : ℕ) → EndsIn table k n → Stuck n
  stuck_all zero n p = absurd p
  stuck_all (suc k) n p = stuck_at n (table n) refl (parts_later (EndsIn table k) Stuck (λ i x. stuck_all k i x) (table n) p)
