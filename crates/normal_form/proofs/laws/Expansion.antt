-- Theorem 3.8 of the flap paper: the start of a typed expression's normal form unfolds to the token sequences that the expression denotes, and to no
-- others. How a run picks its steps is not said here.
use Rattle.std.proofs.Math.Path.{refl, ap}
use mathlib.Core.List.{List, [], ◌∷◌, ◌++◌}
use Rattle.std.specs.Prelude.{◌↔◌, ℕ, zero, suc, ◌≤◌, ◌<◌, length}
use Rattle.std.proofs.Common.{arith}
use Rattle.basics.proofs.laws.Truth.{holds_true}
use Rattle.sheet.specs.Expression.{Expression}
use Rattle.types.specs.Denotation.{Language, Denotes}
use Rattle.types.specs.Types.{LanguageType, ◌⊢◌∶◌}
use Rattle.normal_form.specs.Productions.{Row, row_of}
use Rattle.normal_form.specs.Unfolds.{Unfolds, none_pending, unfold_epsilon, unfold_production}
use Rattle.normal_form.specs.NormalForm.{normal_form}
use Rattle.types.specs.NodeLanguages.{language_of}
use Rattle.normal_form.proofs.laws.Unfolding.{concatenation, ByRow, by_epsilon, by_production, UnfoldsOnce, concatenation-append, concatenation_split, production_word, null_exact}
use Rattle.normal_form.proofs.laws.NormalFormLaws.{normal_form_fits, start-words}

module _ (N : ℕ → Language) (rows : List Row) (unfolds : (n : ℕ) → UnfoldsOnce N (N n) (row_of rows n)) where
  unfolds_within : {β w : List ℕ} → Unfolds rows β w → concatenation N β w
  unfolds_within none_pending = refl
  unfolds_within (unfold_epsilon {n = n} {symbols = w} e x) = ([], w, refl, (null_exact N (unfolds n)).1 e, unfolds_within x)
  unfolds_within (unfold_production {n = n} {pending = β} {symbols = w} {p = q} m x) =
      let s = concatenation_split N q.tail β w (unfolds_within x) in
      (q.head ∷ s.0, s.1, ap (λ (z : List ℕ). q.head ∷ z) s.2, production_word N (unfolds n) q s.0 m s.3, s.4)

  -- Each production takes a token; so it goes by the length of the word, and between by the nonterminals.
  abbrev Below : ℕ → Type 0
  Below k = (β w : List ℕ) → length w < k → concatenation N β w → Unfolds rows β w

  by_row : (k n : ℕ) (β : List ℕ) → Below k → ((w : List ℕ) → length w ≤ k → concatenation N β w → Unfolds rows β w)
      → (v : List ℕ) → concatenation N β v → {u : List ℕ} → ByRow N (row_of rows n) u → length (u ++ v) ≤ k → Unfolds rows (n ∷ β) (u ++ v)
  by_row k n β f rest v c (by_epsilon e) h = unfold_epsilon (holds_true (row_of rows n).has_epsilon e) (rest v h c)
  by_row k n β f rest v c (by_production {q = q} {w = w} m x) h =
      unfold_production m (f (q.tail ++ β) (w ++ v) (omega arith) (concatenation-append N q.tail β w v x c))

  by_nodes : (k : ℕ) → Below k → (β w : List ℕ) → length w ≤ k → concatenation N β w → Unfolds rows β w
  by_nodes k f [] w h c = rw c none_pending
  by_nodes k f (n ∷ β) w h c = rw c.2 (by_row k n β f (by_nodes k f β) c.1 c.4 ((unfolds n c.0).0 c.3) (rw c.2 at h))

  by_length : (k : ℕ) → Below k
  by_length zero β w h c = absurd (omega arith)
  by_length (suc k) β w h c = by_nodes k (by_length k) β w (omega arith) c

  pub unfolds_exact : (β w : List ℕ) → Unfolds rows β w ↔ concatenation N β w
  unfolds_exact β w = (λ x. unfolds_within x, by_length (suc (length w)) β w (omega arith))

-- Theorem 3.8 of the flap paper.
pub normalization_sound : {e : Expression} {a : LanguageType} → [] ⊢ e ∶ a → (w : List ℕ)
    → Denotes e w ↔ Unfolds (normal_form e) (0 ∷ []) w
normalization_sound {e} d w =
    let x = unfolds_exact (language_of e) (normal_form e) (normal_form_fits d).unfolds (0 ∷ []) w in
    let s = start-words e w in (λ h. x.1 (s.1 h), λ h. s.0 (x.0 h))
