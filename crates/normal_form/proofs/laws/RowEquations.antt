-- The rows of a typed expression solve the page's equations, one a node, and are their only solution: a round for each node was
-- enough. So "a variable gives its fixed point's productions", and likewise for the other nodes.
use Rattle.std.specs.Prelude.{◌≡◌, refl, false, List, [], ◌∷◌, ℕ, zero, suc, ◌+◌, ◌≤◌, length, replicate}
use Rattle.std.proofs.Common.{sym, ap, subst, ◌∙◌, arith}
use Rattle.std.proofs.lemmas.List.{length-map, length-replicate}
use Rattle.std.proofs.Math.ListN.{get_or-map, get_or-eq_default}
use Rattle.basics.specs.Rounds.{rounds}
use Rattle.sheet.specs.Expression.{Expression, size}
use Rattle.types.specs.Types.{LanguageType, ◌⊢◌∶◌, type_epsilon, type_bottom, type_token, type_variable, type_sequence, type_alternative, type_fixed_point, type_repetition}
use Rattle.types.specs.TypeNames.{Context}
use Rattle.types.specs.Nodes.{Node, bottom_node, sequence_node, nodes, node_at}
use Rattle.normal_form.specs.Productions.{Row, no_productions, row_of, node_row, rows}
use Rattle.normal_form.specs.RowNames.{next_rows, rows_after}
use Rattle.normal_form.proofs.laws.Places.{Placed, nodes_placed, nodes-count, everywhere_all, none_usable, list_path}
use Rattle.normal_form.proofs.laws.Descent.{head_weight, weight-size, weight-parts, VariablesKeep, keep_in_body, bounded}

-- A round's row of a node is what the node's equation gives from the rows before it.
pub next-at : (ns : List Node) (rs : List Row) (n : ℕ) → row_of (next_rows ns rs) n ≡ node_row rs (node_at ns n)
unfolding node_row
next-at ns rs n = get_or-map (node_row rs) ns n bottom_node

-- Two sequences of rounds over the same nodes, from anything.
abbrev Rounds : List Node → (ℕ → List Row) → Type 0
Rounds ns S = (k : ℕ) → S (suc k) ≡ next_rows ns (S k)

module _ (ns : List Node) (S S' : ℕ → List Row) (s : Rounds ns S) (s' : Rounds ns S') where
  -- They agree at a node from the m-th round on.
  abbrev AgreeFrom : ℕ → ℕ → Type 0
  AgreeFrom m n = (k : ℕ) → m ≤ k → row_of (S k) n ≡ row_of (S' k) n

  agree_later : (m M n : ℕ) → m ≤ M → AgreeFrom m n → AgreeFrom M n
  agree_later m M n h f k l = f k (omega arith)

  agree_step : (p : ℕ) {x : Node} → node_at ns p ≡ x → (k : ℕ) → 1 ≤ k → ((i : ℕ) → k ≡ suc i → node_row (S i) x ≡ node_row (S' i) x)
      → row_of (S k) p ≡ row_of (S' k) p
  agree_step p e zero h f = absurd (omega arith)
  agree_step p {x} e (suc i) h f =
      ap (λ (r : List Row). row_of r p) (s i) ∙ (next-at ns (S i) p ∙ (ap (node_row (S i)) e ∙ (f i refl
      ∙ (ap (node_row (S' i)) (sym e) ∙ (sym (next-at ns (S' i) p) ∙ ap (λ (r : List Row). row_of r p) (sym (s' i)))))))

  agree_own : {Γ : Context} {g : Expression} {a : LanguageType} → Γ ⊢ g ∶ a → (p : ℕ) (fs : List ℕ) → Placed (node_at ns) g p fs → (m : ℕ)
      → VariablesKeep AgreeFrom Γ fs m → AgreeFrom (m + head_weight 1 g) p
  unfolding node_row
  agree_own type_epsilon p fs t m v k h = agree_step p t k (omega arith) (λ i e. refl)
  agree_own type_bottom p fs t m v k h = agree_step p t k (omega arith) (λ i e. refl)
  agree_own (type_token c) p fs t m v k h = agree_step p t k (omega arith) (λ i e. refl)
  agree_own (type_variable {n = n} {a = a} u) p fs t m v k h = agree_step p t.1 k (omega arith) (λ i e. v n a u i (omega arith))
  agree_own (type_sequence {g = g} d e q) p fs t m v k h = agree_step p t.0 k (omega arith)
      (λ i z. rw (agree_own d (suc p) fs t.1 m v i (omega arith)))
  agree_own (type_alternative {g = g} d e q) p fs t m v k h = agree_step p t.0 k (omega arith)
      (λ i z. rw (agree_own d (suc p) fs t.1 m v i (omega arith), agree_own e (suc p + size g) fs t.2 m v i (omega arith)))
  agree_own (type_fixed_point {Γ = Γ} {a = a} d) p fs t m v k h = agree_step p t.0 k (omega arith)
      (λ i z. agree_own d (suc p) (p ∷ fs) t.1 m (keep_in_body AgreeFrom Γ fs m p a v) i (omega arith))
  agree_own (type_repetition d q e) p fs t m v k h = agree_step p t.0 k (omega arith)
      (λ i z. rw (agree_own d (suc p) fs t.1 m v i (omega arith)))

rows_after-length : (k : ℕ) (ns : List Node) → length (rows_after k ns) ≡ length ns
unfolding rounds
rows_after-length zero ns = length-replicate (length ns) no_productions
rows_after-length (suc k) ns = length-map ns (node_row (rows_after k ns))

next_rows-length : (ns : List Node) (rs : List Row) → length (next_rows ns rs) ≡ length ns
next_rows-length ns rs = length-map ns (node_row rs)

pub rows-length : (e : Expression) → length (rows e) ≡ size e
unfolding rows
rows-length e = rows_after-length _ (nodes e) ∙ nodes-count e

rounds-follow : (ns : List Node) (k : ℕ) → rows_after (suc k) ns ≡ next_rows ns (rows_after k ns)
unfolding rounds
rounds-follow ns k = refl

-- From a round for each node on, all nodes agree.
all_agree : {e : Expression} {a : LanguageType} → [] ⊢ e ∶ a → (S S' : ℕ → List Row) → Rounds (nodes e) S → Rounds (nodes e) S'
    → ((k : ℕ) → length (S k) ≡ size e) → ((k : ℕ) → length (S' k) ≡ size e) → S (size e) ≡ S' (size e)
all_agree {e = e} d S S' s s' l l' = list_path no_productions (S (size e)) (S' (size e)) (l (size e) ∙ sym (l' (size e)))
    (λ n. everywhere_all (AgreeFrom (nodes e) S S' s s' (size e)) e
    (bounded (node_at (nodes e)) 1 (AgreeFrom (nodes e) S S' s s') (agree_later (nodes e) S S' s s')
    (λ Γ g b. agree_own (nodes e) S S' s s' {Γ = Γ} {g = g} {a = b})
    d 0 [] (nodes_placed e) 0 0 (size e) (λ i b u. none_usable u) (λ i b u. none_usable u)
    (let w = weight-size e in omega arith) (let w = weight-size e in let x = weight-parts 1 e in omega arith))
    (λ i h k z. get_or-eq_default (S k) no_productions (rw (l k) h) ∙ sym (get_or-eq_default (S' k) no_productions (rw (l' k) h)))
    n (size e) (omega arith))

-- The rows solve all equations.
pub rows_solve : {e : Expression} {a : LanguageType} → [] ⊢ e ∶ a → rows e ≡ next_rows (nodes e) (rows e)
unfolding rows
rows_solve {e = e} d = subst (λ (k : ℕ). rows_after k (nodes e) ≡ next_rows (nodes e) (rows_after k (nodes e))) (sym (nodes-count e))
    (all_agree d (λ k. rows_after k (nodes e)) (λ k. next_rows (nodes e) (rows_after k (nodes e)))
    (rounds-follow (nodes e)) (λ k. ap (next_rows (nodes e)) (rounds-follow (nodes e) k))
    (λ k. rows_after-length k (nodes e) ∙ nodes-count e)
    (λ k. next_rows-length (nodes e) (rows_after k (nodes e)) ∙ nodes-count e))

-- Nothing else does.
pub rows_only : {e : Expression} {a : LanguageType} → [] ⊢ e ∶ a → (rs : List Row) → rs ≡ next_rows (nodes e) rs → rs ≡ rows e
unfolding rows
rows_only {e = e} d rs h = subst (λ (k : ℕ). rs ≡ rows_after k (nodes e)) (sym (nodes-count e))
    (all_agree d (λ k. rs) (λ k. rows_after k (nodes e)) (λ k. h) (rounds-follow (nodes e))
    (λ k. ap length h ∙ (next_rows-length (nodes e) rs ∙ nodes-count e)) (λ k. rows_after-length k (nodes e) ∙ nodes-count e))

-- The same at one node.
pub row_solves : {e : Expression} {a : LanguageType} → [] ⊢ e ∶ a → (n : ℕ) → row_of (rows e) n ≡ node_row (rows e) (node_at (nodes e) n)
row_solves {e = e} d n = ap (λ (r : List Row). row_of r n) (rows_solve d) ∙ next-at (nodes e) (rows e) n

-- No node can be added to ε: typed or not, a sequence has no ε production.
pub sequence_has_no_epsilon : (e : Expression) (n l r : ℕ) → node_at (nodes e) n ≡ sequence_node l r → (row_of (rows e) n).has_epsilon ≡ false
unfolding rows node_row rounds
sequence_has_no_epsilon e n l r h = go (length (nodes e))
  where
    none_at : (m n : ℕ) → (row_of (replicate m no_productions) n).has_epsilon ≡ false
    none_at zero n = refl
    none_at (suc m) zero = refl
    none_at (suc m) (suc n) = none_at m n

    go : (k : ℕ) → (row_of (rows_after k (nodes e)) n).has_epsilon ≡ false
    go zero = none_at (length (nodes e)) n
    go (suc k) = ap (λ (x : Row). x.has_epsilon) (next-at (nodes e) (rows_after k (nodes e)) n ∙ ap (node_row (rows_after k (nodes e))) h)
