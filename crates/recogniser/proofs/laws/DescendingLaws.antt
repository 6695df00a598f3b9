-- The function descends as Figure 6 does: with 65 steps for each token and the rank of its node more it is done.
use Rattle.std.specs.Prelude.{◌≡◌, Bool, ◌||◌, cond, ◌↔◌}
use Rattle.std.proofs.Math.Path.{refl, subst}
use Rattle.std.proofs.Common.{sym, ◌∙◌, true≢false, inl, inr, ⊎_elim, arith, eqb-true}
use Rattle.std.proofs.Math.Bool.{true, false}
use mathlib.Core.List.{List, [], ◌∷◌}
use Prim.Native.Nat.{ℕ, zero, suc, ◌+◌, ◌*◌, ◌≤◌}
use Rattle.std.proofs.Math.Dec.{eqb}
use Rattle.std.proofs.Math.ListN.{length}
use Rattle.std.proofs.lemmas.Bool.{eqb-false}
use Rattle.sheet.specs.Expression.{Expression, size}
use Rattle.sheet.specs.Limits.{most_expression_nodes}
use Rattle.types.specs.Types.{LanguageType, is_bottom, ◌⊢◌∶◌}
use Rattle.types.specs.Nodes.{Node, epsilon_node, bottom_node, token_node, sequence_node, alternative_node, fixed_point_node, variable_node, repetition_node, nodes, node_at}
use Rattle.normal_form.proofs.laws.NodeLanguages.{start_language, language_equation}
use Rattle.normal_form.proofs.laws.TypesExact.{not_bottom_word, empty_word_exact, first_exact, bottom_exact}
use Rattle.types.specs.NodeLanguages.{language_of}
use Rattle.types.specs.LeastTypes.{type_of, least_types}
use Rattle.types.specs.Solutions.{Solves}
use Rattle.types.proofs.laws.BottomTypeLaws.{bottom_only}
use Rattle.recogniser.specs.Descends.{Descent, left, stuck, Nullable, CanBegin, Enters, DescendsAt, Descends, DescendsFromStart, entered, not_entered, bottom_fails, epsilon_leaves, token_taken, token_fails, token_missing, sequence_through, sequence_stuck, alternative_leaves, alternative_missing, into_first, into_second, into_neither, into_body, into_fixed_point, repetition_leaves, repetition_done, repetition_through, repetition_stuck}
use Rattle.recogniser.proofs.laws.DescentRuns.{left_not_empty, part-not_empty}
use Rattle.recogniser.specs.Ranks.{PartsEnd, EndsIn, most_rank}
use Rattle.recogniser.proofs.laws.Ends.{all_end, consumes}
use Rattle.recogniser.specs.Descending.{and_then, entering, descend_step, descend, begins_at, null_at, descend_of, descend_whole}

not_both : {X : Type 0} (b : Bool) → b ≡ true → b ≡ false → X
not_both b x y = absurd (true≢false (sym x ∙ y))

module _ {e : Expression} {a : LanguageType} (d : [] ⊢ e ∶ a) (small : size e ≤ most_expression_nodes)
    (begins : ℕ → ℕ → Bool) (nulls : ℕ → Bool) (begins_exact : (n t : ℕ) → (begins n t ≡ true) ↔ CanBegin e n t)
    (nulls_exact : (n : ℕ) → (nulls n ≡ true) ↔ Nullable e n) where
  abbrev table : ℕ → Node
  table = node_at (nodes e)

  abbrev steps : ℕ → ℕ → List ℕ → Descent
  steps = descend begins nulls table

  abbrev one_step : (ℕ → List ℕ → Descent) → Node → List ℕ → Descent
  one_step = descend_step begins nulls

  never_begins : (n t : ℕ) → begins n t ≡ false → CanBegin e n t → ⊥
  never_begins n t z x = not_both (begins n t) ((begins_exact n t).1 x) z

  never_null : (n : ℕ) → nulls n ≡ false → Nullable e n → ⊥
  never_null n z x = not_both (nulls n) ((nulls_exact n).1 x) z

  -- What the test for entering means.
  abbrev EntersIs : Bool → ℕ → ℕ → ℕ → Type 0
  EntersIs true g g' c = Enters e g g' c
  EntersIs false g g' c = Enters e g g' c → ⊥

  enters_is : (g g' c : ℕ) (b n b' : Bool) → begins g c ≡ b → nulls g ≡ n → begins g' c ≡ b' → EntersIs (entering b n b') g g' c
  enters_is g g' c true n b' x y z = inl ((begins_exact g c).0 x)
  enters_is g g' c false true false x y z = inr ((nulls_exact g).0 y, never_begins g c x, never_begins g' c z)
  enters_is g g' c false true true x y z = λ i. ⊎_elim (never_begins g c x) (λ k. k.2 ((begins_exact g' c).0 z)) i
  enters_is g g' c false false b' x y z = λ i. ⊎_elim (never_begins g c x) (λ k. never_null g y k.0) i

  -- So many steps are enough for every node and sequence of tokens.
  abbrev Enough : ℕ → Type 0
  Enough k = (n m : ℕ) (s : List ℕ) → EndsIn table m n → m ≤ most_rank → length s * 65 + m ≤ k → Descends e n s (steps k n s)

  -- The right part, or the repetition again, after what the left part has left.
  go_through : (k g g' : ℕ) (s : List ℕ) → Enough k → length s * 65 ≤ k → (language_of e g [] → ⊥) → (X : Descent → Type 0)
      → ((s' : List ℕ) (r : Descent) → Descends e g s (left s') → Descends e g' s' r → X r)
      → ((s' : List ℕ) → Descends e g s (stuck s') → X (stuck s'))
      → (o : Descent) → Descends e g s o → X (and_then o (steps k g'))
  go_through k g g' s f h never X through stays (left s') x =
      let l = consumes d x g refl never in
      through s' (steps k g' s') x (f g' most_rank s' (all_end d small g') (omega arith) (omega arith))
  go_through k g g' s f h never X through stays (stuck s') x = stays s' x

  step_descends : (k n m : ℕ) → Enough k → (x : Node) → table n ≡ x → (s : List ℕ) → PartsEnd (EndsIn table m) x → suc m ≤ most_rank
      → length s * 65 + suc m ≤ suc k → DescendsAt e x s (one_step (steps k) x s)
  unfolding descend_step
  step_descends k n m f epsilon_node z s p l h = epsilon_leaves
  step_descends k n m f bottom_node z s p l h = bottom_fails
  step_descends k n m f (token_node c) z [] p l h = token_missing
  step_descends k n m f (token_node c) z (c' ∷ s) p l h = go (eqb c c') refl
    where
      go : (b : Bool) → eqb c c' ≡ b → DescendsAt e (token_node c) (c' ∷ s) (cond b (left s) (stuck (c' ∷ s)))
      go true q = token_taken (eqb-true c c' q)
      go false q = token_fails (eqb-false c c' q)
  step_descends k n m f (sequence_node g g') z s p l h =
      go_through k g g' s f (omega arith) (left_not_empty d n g g' z) (DescendsAt e (sequence_node g g') s)
      (λ s' r x y. sequence_through x y) (λ s' x. sequence_stuck x) (steps k g s) (f g m s p (omega arith) (omega arith))
  step_descends k n m f (alternative_node g g') z [] p l h = go (nulls g) (nulls g') refl refl
    where
      go : (b b' : Bool) → nulls g ≡ b → nulls g' ≡ b' → DescendsAt e (alternative_node g g') [] (cond (b || b') (left []) (stuck []))
      go true b' x y = alternative_leaves (inl ((nulls_exact g).0 x))
      go false true x y = alternative_leaves (inr ((nulls_exact g').0 y))
      go false false x y = alternative_missing (never_null g x) (never_null g' y)
  step_descends k n m f (alternative_node g g') z (c ∷ s) p l h =
      go (entering (begins g c) (nulls g) (begins g' c)) (entering (begins g' c) (nulls g') (begins g c))
      (enters_is g g' c (begins g c) (nulls g) (begins g' c) refl refl refl)
      (enters_is g' g c (begins g' c) (nulls g') (begins g c) refl refl refl)
      (f g m (c ∷ s) p.0 (omega arith) (omega arith)) (f g' m (c ∷ s) p.1 (omega arith) (omega arith))
    where
      go : (b b' : Bool) → EntersIs b g g' c → EntersIs b' g' g c → Descends e g (c ∷ s) (steps k g (c ∷ s))
          → Descends e g' (c ∷ s) (steps k g' (c ∷ s))
          → DescendsAt e (alternative_node g g') (c ∷ s) (cond b (steps k g (c ∷ s)) (cond b' (steps k g' (c ∷ s)) (stuck (c ∷ s))))
      go true b' x y u v = into_first x u
      go false true x y u v = into_second y v
      go false false x y u v = into_neither x y
  step_descends k n m f (fixed_point_node g) z s p l h = into_body (f g m s p (omega arith) (omega arith))
  step_descends k n m f (variable_node g guarded) z s p l h = into_fixed_point (f g m s p (omega arith) (omega arith))
  step_descends k n m f (repetition_node g self) z [] p l h = repetition_leaves
  step_descends k n m f (repetition_node g self) z (c ∷ s) p l h =
      go (begins g c) refl (f g m (c ∷ s) p (omega arith) (omega arith)) (omega arith)
    where
      go : (b : Bool) → begins g c ≡ b → Descends e g (c ∷ s) (steps k g (c ∷ s)) → length (c ∷ s) * 65 ≤ k
          → DescendsAt e (repetition_node g self) (c ∷ s) (cond b (and_then (steps k g (c ∷ s)) (steps k self)) (left (c ∷ s)))
      go true q u v = go_through k g self (c ∷ s) f v (part-not_empty d n g self z) (DescendsAt e (repetition_node g self) (c ∷ s))
          (λ s' r x y. repetition_through ((begins_exact g c).0 q) x y) (λ s' x. repetition_stuck ((begins_exact g c).0 q) x)
          (steps k g (c ∷ s)) u
      go false q u v = repetition_done (never_begins g c q)

  one_more : (k n m : ℕ) (s : List ℕ) → Enough k → EndsIn table m n → m ≤ most_rank → length s * 65 + m ≤ suc k
      → Descends e n s (steps (suc k) n s)
  unfolding descend
  one_more k n zero s f p l h = absurd p
  one_more k n (suc m) s f p l h = step_descends k n m f (table n) refl s p l h

  no_steps : (n m : ℕ) (s : List ℕ) → EndsIn table m n → length s * 65 + m ≤ 0 → Descends e n s (steps 0 n s)
  no_steps n zero s p h = absurd p
  no_steps n (suc m) s p h = absurd (omega arith)

  -- With 65 steps for each token, and the node's rank more, the function descends.
  pub enough : (k : ℕ) → Enough k
  enough zero n m s p l h = no_steps n m s p h
  enough (suc k) n m s p l h = one_more k n m s (enough k) p l h

-- Of an expression that has a type and whose least types solve the equations.
module _ {e : Expression} {a : LanguageType} (d : [] ⊢ e ∶ a) (solved : Solves (nodes e) (least_types e)) where
  -- A descent from any node, over any tokens, ends.
  pub descend_descends : size e ≤ most_expression_nodes → (n : ℕ) (s : List ℕ) → Descends e n s (descend_of e n s)
  descend_descends small n s = enough d small (begins_at e) (null_at e) (first_exact e (language_equation d) solved)
      (empty_word_exact e (language_equation d) solved) (length s * 65 + 64) n most_rank s (all_end d small n) (omega arith) (omega arith)

  pub descend_whole_descends : size e ≤ most_expression_nodes → (s : List ℕ) → DescendsFromStart e s (descend_whole e s)
  unfolding descend_whole
  descend_whole_descends small s = go (is_bottom (type_of (least_types e) 0)) refl
    where
      go : (b : Bool) → is_bottom (type_of (least_types e) 0) ≡ b → DescendsFromStart e s (cond b (stuck s) (descend_of e 0 s))
      go true z = not_entered (λ w. (bottom_exact e (language_equation d) solved 0).0 (bottom_only (type_of (least_types e) 0) z)
          (w.0, subst (λ L. L w.0) (sym (start_language e)) w.1))
      go false z = let w = not_bottom_word e (language_equation d) 0 z in
          entered (w.0, subst (λ L. L w.0) (start_language e) w.1) (descend_descends small 0 s)
