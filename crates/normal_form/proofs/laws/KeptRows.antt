-- The rows that stay solve the page's equations with one change: "Then productions go whose tail holds a node that derives no token
-- sequence", so a sequence whose right part derives none gives nothing. A repetition's node, which stands in its own tails, is asked the
-- same. Types and languages are not spoken of here.
use Rattle.std.proofs.Math.Path.{◌≡◌, refl, sym, ap, ap₂, subst}
use Rattle.std.proofs.Common.{◌∙◌, ⊎_elim}
use Rattle.std.specs.Prelude.{Bool, ◌&&◌, ◌||◌, ◌↔◌, T, length, replicate}
use Rattle.std.proofs.Math.Bool.{true, false, cond}
use mathlib.Core.List.Memᴰ
use mathlib.Core.List.{List, [], ◌∷◌, ◌++◌, map, Memᴰ}
use Prim.Native.Nat.{ℕ, zero, suc}
use Rattle.std.proofs.lemmas.List.{length-map}
use Rattle.std.proofs.Math.ListN.{get_or-map}
use Rattle.basics.specs.Lists.{filter}
use Rattle.basics.specs.Rounds.{rounds}
use Rattle.sheet.specs.Expression.{Expression, size}
use Rattle.types.specs.Types.{LanguageType, ◌⊢◌∶◌}
use Rattle.types.specs.Nodes.{Node, epsilon_node, bottom_node, token_node, sequence_node, alternative_node, fixed_point_node, variable_node, repetition_node, nodes, node_at}
use Rattle.normal_form.specs.Productions.{Production, Row, no_productions, ended_by, row_of, node_row, rows}
use Rattle.normal_form.specs.RowNames.{rows_after, derives_at}
use Rattle.normal_form.specs.Derives.{derives}
use Rattle.normal_form.specs.NormalForm.{all_derive, normal_form}
use Rattle.normal_form.proofs.laws.RowEquations.{next-at, row_solves, rows-length}
use Rattle.normal_form.proofs.laws.Unfolding.{epsilon_row, alternative_row, ◌of◌}

abbrev pub kept : List Bool → List Production → List Production
kept flags ps = filter (λ p. all_derive flags p.tail) ps

abbrev pub kept_row : List Bool → Row → Row
kept_row flags r = record { has_epsilon = r.has_epsilon; productions = kept flags r.productions }

-- What a node's row is, from the rows that stay.
abbrev pub staying_row : List Bool → List Row → Node → Row
staying_row flags rows epsilon_node = node_row rows epsilon_node
staying_row flags rows bottom_node = node_row rows bottom_node
staying_row flags rows (token_node t) = node_row rows (token_node t)
staying_row flags rows (sequence_node l r) = cond (derives_at flags r) (node_row rows (sequence_node l r)) no_productions
staying_row flags rows (alternative_node l r) = node_row rows (alternative_node l r)
staying_row flags rows (fixed_point_node b) = node_row rows (fixed_point_node b)
staying_row flags rows (variable_node f guarded) = node_row rows (variable_node f guarded)
staying_row flags rows (repetition_node b self) =
    alternative_row epsilon_row (cond (derives_at flags self) (node_row rows (sequence_node b self)) no_productions)

-- ---- what goes and what stays, of lists of productions

module _ (flags : List Bool) where
  kept_step : (q r : Production) (l : List Production) (b : Bool) → all_derive flags r.tail ≡ b
      → (Memᴰ q (kept flags l) ↔ (Memᴰ q l × T (all_derive flags q.tail)))
      → Memᴰ q (elim b [ true ↦ r ∷ kept flags l | false ↦ kept flags l ]) ↔ (Memᴰ q (r ∷ l) × T (all_derive flags q.tail))
  kept_step q r l true e f = (
    (λ m. ⊎_elim (λ p. (Memᴰ.head p, subst (λ (z : Production). T (all_derive flags z.tail)) (sym p) (subst T (sym e) tt)))
        (λ k. (Memᴰ.tail (f.0 k).0, (f.0 k).1)) (Memᴰ.cases_cons m)),
    λ x. ⊎_elim (λ p. Memᴰ.head p) (λ k. Memᴰ.tail (f.1 (k, x.1))) (Memᴰ.cases_cons x.0),
  )
  kept_step q r l false e f = (
    (λ m. (Memᴰ.tail (f.0 m).0, (f.0 m).1)),
    λ x. ⊎_elim (λ p. absurd (subst T e (subst (λ (z : Production). T (all_derive flags z.tail)) p x.1))) (λ k. f.1 (k, x.1))
        (Memᴰ.cases_cons x.0),
  )

  -- A production is kept iff it was there and every node of its tail derives.
  pub kept_exact : (q : Production) (l : List Production) → Memᴰ q (kept flags l) ↔ (Memᴰ q l × T (all_derive flags q.tail))
  unfolding filter
  kept_exact q [] = (λ m. absurd (Memᴰ.not-nil m), λ x. absurd (Memᴰ.not-nil x.0))
  kept_exact q (r ∷ l) = kept_step q r l (all_derive flags r.tail) refl (kept_exact q l)

  kept_append : (l m : List Production) → kept flags (l ++ m) ≡ kept flags l ++ kept flags m
  unfolding filter
  kept_append [] m = refl
  kept_append (p ∷ l) m = go (all_derive flags p.tail) (kept_append l m)
    where
      go : (b : Bool) → kept flags (l ++ m) ≡ kept flags l ++ kept flags m
          → ◌≡◌ {A = List Production} (elim b [ true ↦ p ∷ kept flags (l ++ m) | false ↦ kept flags (l ++ m) ])
          ((elim b [ true ↦ p ∷ kept flags l | false ↦ kept flags l ]) ++ kept flags m)
      go true e = ap (λ (z : List Production). p ∷ z) e
      go false e = e

  all_derive_end : (l : List ℕ) (r : ℕ) → all_derive flags (l ++ (r ∷ [])) ≡ (derives_at flags r && all_derive flags l)
  unfolding all_derive
  all_derive_end [] r = refl
  all_derive_end (n ∷ l) r = ap (λ b. derives_at flags n && b) (all_derive_end l r)
      ∙ swap (derives_at flags n) (derives_at flags r) (all_derive flags l)
    where
      swap : (a b c : Bool) → (a && (b && c)) ≡ (b && (a && c))
      swap true b c = refl
      swap false true c = refl
      swap false false c = refl

  -- With a node added that derives, those stay that stayed before; with any other, none.
  kept_ended : (r : ℕ) (l : List Production) → kept flags (map (ended_by r) l) ≡ cond (derives_at flags r) (map (ended_by r) (kept flags l)) []
  unfolding filter ended_by
  kept_ended r [] = go (derives_at flags r)
    where
      go : (b : Bool) → ◌≡◌ {A = List Production} [] (cond b [] [])
      go true = refl
      go false = refl
  kept_ended r (p ∷ l) =
      ap (λ (c : Bool). elim c [ true ↦ ended_by r p ∷ kept flags (map (ended_by r) l) | false ↦ kept flags (map (ended_by r) l) ])
      (all_derive_end p.tail r)
      ∙ go (derives_at flags r) (all_derive flags p.tail) (kept_ended r l)
    where
      go : (a b : Bool) → kept flags (map (ended_by r) l) ≡ cond a (map (ended_by r) (kept flags l)) []
          → ◌≡◌ {A = List Production} (elim (a && b) [ true ↦ ended_by r p ∷ kept flags (map (ended_by r) l) | false ↦ kept flags (map (ended_by r) l) ])
          (cond a (map (ended_by r) (elim b [ true ↦ p ∷ kept flags l | false ↦ kept flags l ])) [])
      go true true e = ap (λ (z : List Production). ended_by r p ∷ z) e
      go true false e = e
      go false b e = e

  -- ---- the equations

  kept_rows_at : (rs : List Row) (n : ℕ) → row_of (map (kept_row flags) rs) n ≡ kept_row flags (row_of rs n)
  unfolding filter
  kept_rows_at rs n = get_or-map (kept_row flags) rs n no_productions

  -- What stays of a sequence's row.
  kept_sequence : (rs : List Row) (l r : ℕ) → kept_row flags (node_row rs (sequence_node l r))
      ≡ cond (derives_at flags r) (node_row (map (kept_row flags) rs) (sequence_node l r)) no_productions
  unfolding node_row
  kept_sequence rs l r =
      ap (λ (ps : List Production). record { has_epsilon = false; productions = ps }) (kept_ended r (row_of rs l).productions)
      ∙ (go (derives_at flags r)
      ∙ ap (λ (P : Row). cond (derives_at flags r) (record { has_epsilon = false; productions = map (ended_by r) P.productions }) no_productions)
      (sym (kept_rows_at rs l)))
    where
      go : (b : Bool)
          → ◌≡◌ {A = Row} (record { has_epsilon = false; productions = cond b (map (ended_by r) (kept flags (row_of rs l).productions)) [] })
          (cond b (record { has_epsilon = false; productions = map (ended_by r) (kept flags (row_of rs l).productions) }) no_productions)
      go true = refl
      go false = refl

  -- What stays of a row that the page's equation gives is what the changed equation gives from what stays.
  kept_node_row : (rs : List Row) (x : Node) → kept_row flags (node_row rs x) ≡ staying_row flags (map (kept_row flags) rs) x
  unfolding filter node_row all_derive
  kept_node_row rs epsilon_node = refl
  kept_node_row rs bottom_node = refl
  kept_node_row rs (token_node t) = refl
  kept_node_row rs (sequence_node l r) = kept_sequence rs l r
  kept_node_row rs (alternative_node l r) =
      ap (λ (ps : List Production). record { has_epsilon = (row_of rs l).has_epsilon || (row_of rs r).has_epsilon; productions = ps })
      (kept_append (row_of rs l).productions (row_of rs r).productions)
      ∙ ap₂ (λ (P Q : Row). record { has_epsilon = P.has_epsilon || Q.has_epsilon; productions = P.productions ++ Q.productions })
      (sym (kept_rows_at rs l)) (sym (kept_rows_at rs r))
  kept_node_row rs (fixed_point_node b) = sym (kept_rows_at rs b)
  kept_node_row rs (variable_node f guarded) = sym (kept_rows_at rs f)
  kept_node_row rs (repetition_node b self) = ap (alternative_row epsilon_row) (kept_sequence rs b self)

pub normal_form-row : (e : Expression) (n : ℕ) → row_of (normal_form e) n ≡ kept_row (derives e) (row_of (rows e) n)
unfolding normal_form
normal_form-row e n = kept_rows_at (derives e) (rows e) n

-- The normal form's rows solve the equations: Figure 4 with the variables resolved, and no production that leads nowhere.
pub normal_form_solves : {e : Expression} {a : LanguageType} → [] ⊢ e ∶ a → (n : ℕ)
    → row_of (normal_form e) n ≡ staying_row (derives e) (normal_form e) (node_at (nodes e) n)
unfolding normal_form
normal_form_solves {e} d n =
    normal_form-row e n ∙ (ap (kept_row (derives e)) (row_solves d n) ∙ kept_node_row (derives e) (rows e) (node_at (nodes e) n))

pub normal_form-length : (e : Expression) → length (normal_form e) ≡ size e
unfolding normal_form
normal_form-length e = length-map (rows e) (kept_row (derives e)) ∙ rows-length e

-- A production of the normal form is one of the row, and every node of its tail derives a token sequence.
pub kept-production : (e : Expression) (n : ℕ) (q : Production) → q of row_of (normal_form e) n
    → (q of row_of (rows e) n) × T (all_derive (derives e) q.tail)
kept-production e n q m = (kept_exact (derives e) q (row_of (rows e) n).productions).0 (rw (normal_form-row e n) at m)

-- Dropping keeps the ε flag.
pub normal_form_epsilon : (e : Expression) (n : ℕ) → (row_of (normal_form e) n).has_epsilon ≡ (row_of (rows e) n).has_epsilon
normal_form_epsilon e n = ap (λ (P : Row). P.has_epsilon) (normal_form-row e n)

-- What no productions have, and every equation keeps, the normal form's rows have. No typing is asked for.
module _ (e : Expression) (Q : ℕ → Row → Type 0) (bare : (n : ℕ) → Q n no_productions)
    (next : (rs : List Row) → ((n : ℕ) → Q n (row_of rs n)) → (n : ℕ) → Q n (staying_row (derives e) rs (node_at (nodes e) n))) where
  abbrev kept_after : ℕ → List Row
  kept_after k = map (kept_row (derives e)) (rows_after k (nodes e))

  bare_rows : (m n i : ℕ) → Q i (kept_row (derives e) (row_of (replicate m no_productions) n))
  unfolding filter
  bare_rows zero n i = bare i
  bare_rows (suc m) zero i = bare i
  bare_rows (suc m) (suc n) i = bare_rows m n i

  by_rounds : (k n : ℕ) → Q n (row_of (kept_after k) n)
  unfolding rounds
  by_rounds zero n = subst (Q n) (sym (kept_rows_at (derives e) (rows_after zero (nodes e)) n)) (bare_rows (length (nodes e)) n n)
  by_rounds (suc k) n = subst (Q n)
      (sym (kept_rows_at (derives e) (rows_after (suc k) (nodes e)) n
      ∙ (ap (kept_row (derives e)) (next-at (nodes e) (rows_after k (nodes e)) n)
      ∙ kept_node_row (derives e) (rows_after k (nodes e)) (node_at (nodes e) n))))
      (next (kept_after k) (by_rounds k) n)

  pub every_row : (n : ℕ) → Q n (row_of (normal_form e) n)
  unfolding normal_form rows
  every_row n = by_rounds (length (nodes e)) n
