-- Tails: their members are nodes of the expression, and at a typed one a tail is no longer than the number of sequence nodes, and one
-- more where its row has ε, so at most `most_tail`. Heads are tokens of the sheet.
use Rattle.std.specs.Prelude.{◌≡◌, false, ◌||◌, List, [], ◌∷◌, ◌++◌, replicate}
use Rattle.std.proofs.Math.Path.{refl, ap, subst}
use Rattle.std.proofs.Common.{sym, ◌∙◌}
use mathlib.Core.List.Memᴰ
use Rattle.std.proofs.Math.Option.{Option}
use Rattle.std.proofs.Math.Logic.{⊎_elim}
use Prim.Native.Nat.{ℕ, zero, suc, ◌+◌, ◌≤◌, ◌<◌}
use native.Mathlib.Omega.{arith}
use Rattle.std.proofs.Math.ListN.{length, length-append, get_or-eq_default}
use Rattle.basics.specs.Rounds.{rounds}
use Rattle.basics.specs.Lists.{All}
use Rattle.basics.proofs.laws.Truth.{or-true_left, or-true_right}
use Rattle.basics.proofs.laws.Members.{all-append}
use Rattle.sheet.specs.Expression.{Expression, epsilon, bottom, token, sequence, alternative, fixed_point, variable, repetition, size}
use Rattle.sheet.specs.Limits.{most_expression_nodes}
use Rattle.sheet.specs.WellFormed.{Closed}
use Rattle.types.specs.Types.{LanguageType, ◌⊢◌∶◌, type_epsilon, type_bottom, type_token, type_variable, type_sequence, type_alternative, type_fixed_point, type_repetition}
use Rattle.types.specs.TypeNames.{Context}
use Rattle.types.proofs.laws.SetOrder.{flag, flag_rises, flag_most}
use Rattle.types.specs.laws.NodeRanges.{NodeInRange}
use Rattle.types.proofs.laws.NodeRanges.{node_in_range, nodes-in_range}
use Rattle.types.specs.Nodes.{Node, epsilon_node, bottom_node, token_node, sequence_node, alternative_node, fixed_point_node, variable_node, repetition_node, nodes, node_at}
use Rattle.normal_form.specs.Productions.{Production, most_tail, most_growth, Row, Taking, no_productions, ended_by, row_of, node_row, rows}
use Rattle.normal_form.specs.RowNames.{rows_after}
use Rattle.normal_form.specs.NormalForm.{normal_form}
use Rattle.normal_form.proofs.laws.Places.{Placed, nodes_placed, everywhere_all, none_usable}
use Rattle.normal_form.proofs.laws.Descent.{weight, head_weight, weight-parts, VariablesKeep, keep_in_body, bounded}
use Rattle.normal_form.proofs.laws.RowEquations.{next-at, row_solves, rows-length}
use Rattle.normal_form.proofs.laws.Unfolding.{sequence_row, ◌of◌}
use Rattle.normal_form.proofs.laws.LeftParts.{LeftNotNull, left_not_null}
use Rattle.normal_form.proofs.laws.Pending.{TokenStep, GrowsBy, step_grows}
use Rattle.normal_form.proofs.laws.KeptRows.{kept-production}

-- The sequence nodes of an expression.
abbrev pub sequence_count : Expression → ℕ
sequence_count = weight 0

-- Each sequence node has two parts of its own.
pub sequence_count_bound : (g : Expression) → sequence_count g + sequence_count g + 1 ≤ size g
unfolding size
sequence_count_bound epsilon = omega arith
sequence_count_bound bottom = omega arith
sequence_count_bound (token k) = omega arith
sequence_count_bound (sequence g h) = let a = sequence_count_bound g in let b = sequence_count_bound h in omega arith
sequence_count_bound (alternative g h) = let a = sequence_count_bound g in let b = sequence_count_bound h in omega arith
sequence_count_bound (fixed_point g) = let a = sequence_count_bound g in omega arith
sequence_count_bound (variable n) = omega arith
sequence_count_bound (repetition g) = let a = sequence_count_bound g in omega arith

-- Lengths. A row with ε may have tails that are one longer: a repetition has ε, and adds a node to each tail of its part, which has none;
-- so has no left part of a sequence. So a tail passes at most one repetition.
module _ (table : ℕ → Node) (rs : List Row) (solves : (n : ℕ) → row_of rs n ≡ node_row rs (table n))
    (left : (n : ℕ) → LeftNotNull rs (table n)) where
  abbrev Short : ℕ → Row → Type 0
  Short m P = (q : Production) → q of P → length q.tail ≤ m + flag P.has_epsilon

  abbrev ShortAt : ℕ → ℕ → Type 0
  ShortAt m n = Short m (row_of rs n)

  longer_bound : (m M n : ℕ) → m ≤ M → ShortAt m n → ShortAt M n
  longer_bound m M n h f q x = let a = f q x in omega arith

  by_node : {x : Node} (m p : ℕ) → table p ≡ x → Short m (node_row rs x) → ShortAt m p
  by_node m p e f = subst (Short m) (sym (solves p ∙ ap (node_row rs) e)) f

  -- A node added to the tails of a row that has no ε.
  one_longer : (l n m : ℕ) → (row_of rs l).has_epsilon ≡ false → ShortAt m l → (q : Production)
      → q of sequence_row n (row_of rs l) → length q.tail ≤ m + 1
  unfolding ended_by flag
  one_longer l n m none f q x =
      let o = Memᴰ.of_map (ended_by n) (row_of rs l).productions x in
      let a : length o.0.tail ≤ m + 0 = rw none at (f o.0 o.1) in
      let b : length (o.0.tail ++ (n ∷ [])) ≡ length q.tail = ap (λ (z : Production). length z.tail) o.2 in
      let c = length-append o.0.tail (n ∷ []) in omega arith

  own_short : {Γ : Context} {g : Expression} {a : LanguageType} → Γ ⊢ g ∶ a → (p : ℕ) (fs : List ℕ) → Placed table g p fs → (m : ℕ)
      → VariablesKeep ShortAt Γ fs m → ShortAt (m + head_weight 0 g) p
  unfolding node_row ended_by flag
  own_short type_epsilon p fs t m k = by_node (m + 0) p t (λ q x. absurd (Memᴰ.not-nil x))
  own_short type_bottom p fs t m k = by_node (m + 0) p t (λ q x. absurd (Memᴰ.not-nil x))
  own_short (type_token c) p fs t m k = by_node (m + 0) p t
      (λ q x. rw (ap (λ (z : Production). length z.tail) (Memᴰ.eq_of_singleton x)) (omega arith))
  own_short (type_variable {n = n} {a = a} u) p fs t m k = by_node (m + 0) p t.1 (λ q x. let b = k n a u q x in omega arith)
  own_short (type_sequence {g = g} d e s) p fs t m k = by_node (m + head_weight 0 (sequence g epsilon)) p t.0
      (λ q x. let a = one_longer (suc p) (suc p + size g) (m + head_weight 0 g) (rw t.0 at (left p)) (own_short d (suc p) fs t.1 m k) q x in
      omega arith)
  own_short (type_alternative {g = g} {h = h} d e s) p fs t m k =
      let l = (row_of rs (suc p)).has_epsilon in
      let r = (row_of rs (suc p + size g)).has_epsilon in
      by_node (m + head_weight 0 (alternative g h)) p t.0
      (λ q x. ⊎_elim (λ y. let a = own_short d (suc p) fs t.1 m k q y in omega (arith, a, flag_rises l (l || r) (or-true_left l r)))
      (λ y. let a = own_short e (suc p + size g) fs t.2 m k q y in omega (arith, a, flag_rises r (l || r) (or-true_right l r)))
      (Memᴰ.append_cases (row_of rs (suc p)).productions x))
  own_short (type_fixed_point {Γ = Γ} {g = g} {a = a} d) p fs t m k = by_node (m + head_weight 0 (fixed_point g)) p t.0
      (λ q x. let b = own_short d (suc p) (p ∷ fs) t.1 m (keep_in_body ShortAt Γ fs m p a k) q x in omega arith)
  own_short (type_repetition {g = g} d s e) p fs t m k = by_node (m + head_weight 0 (repetition g)) p t.0
      (λ q x. let a = one_longer (suc p) p (m + head_weight 0 g) (rw t.0 at (left p)) (own_short d (suc p) fs t.1 m k) q x in omega arith)

-- "A tail is at most as long as the number of sequence nodes", and one more where there is ε,
pub tails_short : {e : Expression} {a : LanguageType} → [] ⊢ e ∶ a → (n : ℕ) (q : Production) → q of row_of (rows e) n
    → length q.tail ≤ sequence_count e + flag (row_of (rows e) n).has_epsilon
tails_short {e} d = everywhere_all (ShortAt (node_at (nodes e)) (rows e) (row_solves d) (left_not_null d) (sequence_count e)) e
    (bounded (node_at (nodes e)) 0 (ShortAt (node_at (nodes e)) (rows e) (row_solves d) (left_not_null d))
    (longer_bound (node_at (nodes e)) (rows e) (row_solves d) (left_not_null d))
    (λ Γ g b. own_short (node_at (nodes e)) (rows e) (row_solves d) (left_not_null d) {Γ = Γ} {g = g} {a = b})
    d 0 [] (nodes_placed e) 0 0 (sequence_count e) (λ i b u. none_usable u) (λ i b u. none_usable u)
    (omega arith) (let w = weight-parts 0 e in omega arith))
    (λ n h q x. absurd (Memᴰ.not-nil (rw (get_or-eq_default (rows e) no_productions {n = n} (rw (rows-length e) h)) at x)))

-- so at most 31 + 1: "Tails .. run to 32".
pub tails_at_most : {e : Expression} {a : LanguageType} → [] ⊢ e ∶ a → size e ≤ most_expression_nodes
    → (n : ℕ) (q : Production) → q of row_of (normal_form e) n → length q.tail ≤ most_tail
tails_at_most {e} d h n q m =
    omega (arith, tails_short d n q (kept-production e n q m).0, sequence_count_bound e, flag_most (row_of (rows e) n).has_epsilon)

-- So a take adds at most `most_growth` pending nodes.
pub pending_grows : {e : Expression} {a : LanguageType} → [] ⊢ e ∶ a → size e ≤ most_expression_nodes
    → {t : ℕ} {β : List ℕ} {o : Option Taking} → TokenStep (row_of (normal_form e)) t β o → GrowsBy most_growth β o
pending_grows {e} d h = step_grows most_growth (row_of (normal_form e)) (tails_at_most d h)

-- What every production has if tokens give it and sequence and repetition nodes keep it.
module _ (ns : List Node) (Q : Production → Type 0)
    (by_token : (n t : ℕ) → node_at ns n ≡ token_node t → Q (record { head = t; tail = [] }))
    (by_sequence : (n l r : ℕ) → node_at ns n ≡ sequence_node l r → (q : Production) → Q q → Q (ended_by r q))
    (by_repetition : (n b self : ℕ) → node_at ns n ≡ repetition_node b self → (q : Production) → Q q → Q (ended_by self q)) where
  no_row : (m n : ℕ) (q : Production) → q of row_of (replicate m no_productions) n → Q q
  no_row zero n q x = absurd (Memᴰ.not-nil x)
  no_row (suc m) zero q x = absurd (Memᴰ.not-nil x)
  no_row (suc m) (suc n) q x = no_row m n q x

  next_productions : (rs : List Row) → ((n : ℕ) (q : Production) → q of row_of rs n → Q q)
      → (n : ℕ) (x : Node) → node_at ns n ≡ x → (q : Production) → q of node_row rs x → Q q
  unfolding node_row
  next_productions rs f n epsilon_node e q m = absurd (Memᴰ.not-nil m)
  next_productions rs f n bottom_node e q m = absurd (Memᴰ.not-nil m)
  next_productions rs f n (token_node t) e q m = subst Q (sym (Memᴰ.eq_of_singleton m)) (by_token n t e)
  next_productions rs f n (sequence_node l r) e q m =
      let o = Memᴰ.of_map (ended_by r) (row_of rs l).productions m in subst Q o.2 (by_sequence n l r e o.0 (f l o.0 o.1))
  next_productions rs f n (alternative_node l r) e q m =
      ⊎_elim (λ x. f l q x) (λ x. f r q x) (Memᴰ.append_cases (row_of rs l).productions m)
  next_productions rs f n (fixed_point_node b) e q m = f b q m
  next_productions rs f n (variable_node b guarded) e q m = f b q m
  next_productions rs f n (repetition_node b self) e q m =
      let o = Memᴰ.of_map (ended_by self) (row_of rs b).productions m in subst Q o.2 (by_repetition n b self e o.0 (f b o.0 o.1))

  pub every_production : (k n : ℕ) (q : Production) → q of row_of (rows_after k ns) n → Q q
  unfolding rounds
  every_production zero n q m = no_row (length ns) n q m
  every_production (suc k) n q m =
      next_productions (rows_after k ns) (every_production k) n (node_at ns n) refl q (rw (next-at ns (rows_after k ns) n) at m)

-- A production's head is a token of the sheet, and its tail's members are nodes.
pub record ProductionInRange (tokens count : ℕ) (q : Production) : Type 0 where
  pub head_below : q.head < tokens
  pub tail_below : All (λ n. n < count) q.tail

pub productions_in_range : (e : Expression) (tokens : ℕ) → Closed tokens 0 e
    → (n : ℕ) (q : Production) → q of row_of (rows e) n → ProductionInRange tokens (size e) q
unfolding rows
productions_in_range e tokens c = every_production (nodes e) (ProductionInRange tokens (size e)) by_token
    (λ n l r h. one_more r (right n l r h)) (λ n b self h. one_more self (itself n b self h)) (length (nodes e))
  where
    in_range : (n : ℕ) → NodeInRange tokens (size e) (node_at (nodes e) n)
    in_range = node_in_range tokens (size e) (nodes e) (nodes-in_range tokens e c)

    right : (n l r : ℕ) → node_at (nodes e) n ≡ sequence_node l r → r < size e
    right n l r h = let x : (l < size e) × (r < size e) = rw h at (in_range n) in x.1

    by_token : (n t : ℕ) → node_at (nodes e) n ≡ token_node t → ProductionInRange tokens (size e) (record { head = t; tail = [] })
    by_token n t h = record { head_below = rw h at (in_range n); tail_below = tt }

    itself : (n b self : ℕ) → node_at (nodes e) n ≡ repetition_node b self → self < size e
    itself n b self h = let x : (b < size e) × (self < size e) = rw h at (in_range n) in x.1

    one_more : (r : ℕ) → r < size e → (q : Production) → ProductionInRange tokens (size e) q → ProductionInRange tokens (size e) (ended_by r q)
    one_more r l q x = unfold ended_by in
        record {
          head_below = x.head_below;
          tail_below = all-append (λ i. i < size e) q.tail (r ∷ []) x.tail_below (l, tt);
        }

pub normal_form-in_range : (e : Expression) (tokens : ℕ) → Closed tokens 0 e
    → (n : ℕ) (q : Production) → q of row_of (normal_form e) n → ProductionInRange tokens (size e) q
normal_form-in_range e tokens c n q m = productions_in_range e tokens c n q (kept-production e n q m).0
