-- Why a descent ends: through left parts, alternatives, bodies and variables it goes only so many steps, whatever the tokens; and past a
-- left part, or a repetition's part, there are fewer tokens.
use Rattle.std.specs.Prelude.{◌≡◌, refl, List, [], ◌∷◌, ℕ, zero, suc, ◌+◌, ◌≤◌, ◌<◌, length}
use Rattle.std.proofs.Common.{sym, subst, inl, inr, arith}
use Rattle.std.proofs.Math.ListN.{get_or-eq_default}
use Rattle.sheet.specs.Expression.{Expression, size}
use Rattle.sheet.specs.Limits.{most_expression_nodes}
use Rattle.types.specs.TypeNames.{Context}
use Rattle.types.specs.Types.{LanguageType, ◌⊢◌∶◌, type_epsilon, type_bottom, type_token, type_variable, type_sequence, type_alternative, type_fixed_point, type_repetition}
use Rattle.types.specs.Nodes.{Node, epsilon_node, bottom_node, token_node, sequence_node, alternative_node, fixed_point_node, variable_node, repetition_node, nodes, node_at}
use Rattle.types.proofs.laws.NodeRanges.{size_positive}
use Rattle.types.specs.NodeLanguages.{language_of}
use Rattle.normal_form.proofs.laws.Places.{Placed, nodes_placed, nodes-count, everywhere_all, none_usable}
use Rattle.normal_form.proofs.laws.Descent.{head_weight, weight-size, weight-parts, VariablesKeep, keep_in_body, bounded}
use Rattle.recogniser.specs.Ranks.{PartsEnd, EndsIn, most_rank}
use Rattle.recogniser.specs.Descends.{Descent, left, DescendsAt, bottom_fails, epsilon_leaves, token_taken, token_fails, token_missing, sequence_through, sequence_stuck, alternative_leaves, alternative_missing, into_first, into_second, into_neither, into_body, into_fixed_point, repetition_leaves, repetition_done, repetition_through, repetition_stuck}
use Rattle.recogniser.proofs.laws.DescentRuns.{words_are, left_not_empty}
use Rattle.recogniser.specs.Descends.{rest_of}

pub parts_later : (P Q : ℕ → Type 0) → ((n : ℕ) → P n → Q n) → (x : Node) → PartsEnd P x → PartsEnd Q x
parts_later P Q f epsilon_node h = tt
parts_later P Q f bottom_node h = tt
parts_later P Q f (token_node t) h = tt
parts_later P Q f (sequence_node l r) h = f l h
parts_later P Q f (alternative_node l r) h = (f l h.0, f r h.1)
parts_later P Q f (fixed_point_node b) h = f b h
parts_later P Q f (variable_node g guarded) h = f g h
parts_later P Q f (repetition_node b self) h = f b h

module _ (table : ℕ → Node) where
  pub ends_later : (m M n : ℕ) → m ≤ M → EndsIn table m n → EndsIn table M n
  ends_later zero M n l h = absurd h
  ends_later (suc m) zero n l h = absurd (omega arith)
  ends_later (suc m) (suc M) n l h =
      parts_later (EndsIn table m) (EndsIn table M) (λ i. ends_later m M i (omega arith)) (table n) h

  by_step : {x : Node} (p k : ℕ) → table p ≡ x → 1 ≤ k → ((i : ℕ) → k ≡ suc i → PartsEnd (EndsIn table i) x) → EndsIn table k p
  by_step p zero e h f = absurd (omega arith)
  by_step p (suc i) e h f = subst (PartsEnd (EndsIn table i)) (sym e) (f i refl)

  -- Within the bound that grows along the descent.
  abbrev EndsFrom : ℕ → ℕ → Type 0
  EndsFrom m n = (k : ℕ) → m ≤ k → EndsIn table k n

  own_ends : {Γ : Context} {g : Expression} {a : LanguageType} → Γ ⊢ g ∶ a → (p : ℕ) (fs : List ℕ) → Placed table g p fs → (m : ℕ)
      → VariablesKeep EndsFrom Γ fs m → EndsFrom (m + head_weight 1 g) p
  own_ends type_epsilon p fs h m v k l = by_step p k h (omega arith) (λ i z. tt)
  own_ends type_bottom p fs h m v k l = by_step p k h (omega arith) (λ i z. tt)
  own_ends (type_token c) p fs h m v k l = by_step p k h (omega arith) (λ i z. tt)
  own_ends (type_variable {n = n} {a = a} u) p fs h m v k l = by_step p k h.1 (omega arith) (λ i z. v n a u i (omega arith))
  own_ends (type_sequence d e q) p fs h m v k l = by_step p k h.0 (omega arith) (λ i z. own_ends d (suc p) fs h.1 m v i (omega arith))
  own_ends (type_alternative {g = g} d e q) p fs h m v k l = by_step p k h.0 (omega arith)
      (λ i z. (own_ends d (suc p) fs h.1 m v i (omega arith), own_ends e (suc p + size g) fs h.2 m v i (omega arith)))
  own_ends (type_fixed_point {Γ = Γ} {a = a} d) p fs h m v k l = by_step p k h.0 (omega arith)
      (λ i z. own_ends d (suc p) (p ∷ fs) h.1 m (keep_in_body EndsFrom Γ fs m p a v) i (omega arith))
  own_ends (type_repetition d q e) p fs h m v k l =
      by_step p k h.0 (omega arith) (λ i z. own_ends d (suc p) fs h.1 m v i (omega arith))

-- From every node of a typed expression a descent ends in as many steps as there are nodes.
pub all_end : {e : Expression} {a : LanguageType} → [] ⊢ e ∶ a → size e ≤ most_expression_nodes → (n : ℕ)
    → EndsIn (node_at (nodes e)) most_rank n
all_end {e} d small n = everywhere_all (EndsFrom (node_at (nodes e)) (size e)) e
    (bounded (node_at (nodes e)) 1 (EndsFrom (node_at (nodes e))) (λ m M i l h k z. h k (omega arith))
    (λ Γ g b. own_ends (node_at (nodes e)) {Γ = Γ} {g = g} {a = b})
    d 0 [] (nodes_placed e) 0 0 (size e) (λ i b u. none_usable u) (λ i b u. none_usable u)
    (let w = weight-size e in omega arith) (let w = weight-size e in let x = weight-parts 1 e in omega arith))
    past n most_rank (omega arith)
  where
    past : (i : ℕ) → size e ≤ i → EndsFrom (node_at (nodes e)) (size e) i
    past i l j z = own_ends (node_at (nodes e)) {Γ = []} type_bottom i []
        (get_or-eq_default (nodes e) bottom_node {n = i} (rw (nodes-count e) l)) 0 (λ x b u. none_usable u) j
        (let y = size_positive e in omega arith)

-- What is left is no more than there was.
pub shrinks : {e : Expression} {x : Node} {s : List ℕ} {o : Descent} → DescendsAt e x s o → length (rest_of o) ≤ length s
shrinks bottom_fails = omega arith
shrinks epsilon_leaves = omega arith
shrinks (token_taken z) = omega arith
shrinks (token_fails z) = omega arith
shrinks token_missing = omega arith
shrinks (sequence_through x y) = let a = shrinks x in let b = shrinks y in omega arith
shrinks (sequence_stuck x) = shrinks x
shrinks (alternative_leaves x) = omega arith
shrinks (alternative_missing x y) = omega arith
shrinks (into_first i x) = shrinks x
shrinks (into_second i x) = shrinks x
shrinks (into_neither x y) = omega arith
shrinks (into_body x) = shrinks x
shrinks (into_fixed_point x) = shrinks x
shrinks repetition_leaves = omega arith
shrinks (repetition_done x) = omega arith
shrinks (repetition_through i x y) = let a = shrinks x in let b = shrinks y in omega arith
shrinks (repetition_stuck i x) = shrinks x

-- From a node without the empty word it is less.
pub consumes : {e : Expression} {a : LanguageType} → [] ⊢ e ∶ a → {x : Node} {s s' : List ℕ} → DescendsAt e x s (left s') → (n : ℕ)
    → node_at (nodes e) n ≡ x → (language_of e n [] → ⊥) → length s' < length s
consumes d epsilon_leaves n h never = absurd (never ((words_are d n h []).1 refl))
consumes d (token_taken z) n h never = omega arith
consumes d (sequence_through {g = g} {g' = g'} x y) n h never =
    let a = consumes d x g refl (left_not_empty d n g g' h) in let b = shrinks y in omega arith
consumes d (alternative_leaves x) n h never = absurd (never ((words_are d n h []).1 x))
consumes d (into_first {g = g} i x) n h never = consumes d x g refl (λ z. never ((words_are d n h []).1 (inl z)))
consumes d (into_second {g' = g'} i x) n h never = consumes d x g' refl (λ z. never ((words_are d n h []).1 (inr z)))
consumes d (into_body {g = g} x) n h never = consumes d x g refl (λ z. never ((words_are d n h []).1 z))
consumes d (into_fixed_point {f = f} x) n h never = consumes d x f refl (λ z. never ((words_are d n h []).1 z))
consumes d repetition_leaves n h never = absurd (never ((words_are d n h []).1 (inl refl)))
consumes d (repetition_done x) n h never = absurd (never ((words_are d n h []).1 (inl refl)))
consumes d (repetition_through i x y) n h never = absurd (never ((words_are d n h []).1 (inl refl)))
