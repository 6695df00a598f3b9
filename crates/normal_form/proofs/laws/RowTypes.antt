-- What types say of the rows that stay: a production's head is in FIRST, and each token begins one production at most. Half of Lemma 3.6 of
-- the flap paper, for any types that solve the equations; the other half, for the least types, is in `ExactRows`.
use Rattle.std.specs.Prelude.{◌≡◌, refl, Bool, cond, List, [], ℕ, ◌^◌}
use Rattle.std.proofs.Common.{sym, ⊎_elim}
use Rattle.std.proofs.Math.Path.{subst}
use Rattle.std.proofs.Math.Bool.{true, false}
use mathlib.Core.List.Memᴰ
use Rattle.std.specs.Int.Bits.{bit_and}
use Rattle.basics.specs.Bits.{◌∈◌}
use Rattle.basics.proofs.laws.BitLaws.{∈_zero, ∈_left, ∈_right, ∈_self, ∈_disjoint, disjoint_zero}
use Rattle.sheet.specs.Expression.{Expression}
use Rattle.types.specs.Types.{LanguageType, epsilon_type, bottom_type, token_type, is_bottom, alternative_type, repetition_type_with, Apart, ◌⊢◌∶◌}
use Rattle.types.specs.Nodes.{Node, epsilon_node, bottom_node, token_node, sequence_node, alternative_node, fixed_point_node, variable_node, repetition_node, nodes, node_at}
use Rattle.types.specs.LeastTypes.{type_of, node_type, node_type_with}
use Rattle.types.proofs.laws.LeastTypeLaws.{solved_at}
use Rattle.types.specs.Solutions.{Solves}
use Rattle.types.proofs.laws.SequenceTypeLaws.{sequence_first_left}
use Rattle.types.proofs.laws.QuestionLaws.{AlternativesApart, passes_apart}
use Rattle.types.proofs.laws.Typing.{typed_solution}
use Rattle.normal_form.specs.Productions.{Production, Row, no_productions, ended_by, row_of, node_row}
use Rattle.normal_form.proofs.laws.ProductionLaws.{DistinctHeads, distinct_append, distinct_ended}
use Rattle.normal_form.specs.Derives.{derives}
use Rattle.normal_form.specs.RowNames.{derives_at}
use Rattle.normal_form.specs.NormalForm.{normal_form}
use Rattle.normal_form.proofs.laws.DerivesExact.{derives_exact}
use Rattle.types.proofs.laws.BottomTypeLaws.{has_not_bottom}
use Rattle.normal_form.proofs.laws.WordTypes.{words_in_types}
use Rattle.normal_form.proofs.laws.KeptRows.{staying_row, every_row}
use Rattle.normal_form.proofs.laws.Unfolding.{alternative_row, ◌of◌}

-- The row P of a node with the type a.
pub record RowWithin (P : Row) (a : LanguageType) : Type 0 where
  pub heads_within : (q : Production) → q of P → q.head ∈ a.first
  pub distinct : DistinctHeads P.productions

bare_within : (empty : Bool) (a : LanguageType) → RowWithin (record { has_epsilon = empty; productions = [] }) a
bare_within empty a = record { heads_within = λ q m. absurd (Memᴰ.not-nil m); distinct = tt }

-- Two rows, if no token begins both.
alternative_within : {P Q : Row} {a b : LanguageType} → RowWithin P a → RowWithin Q b → bit_and a.first b.first ≡ 0
    → RowWithin (alternative_row P Q) (alternative_type a b)
unfolding alternative_type
alternative_within {P} {Q} {a} {b} x y k = record {
  heads_within = λ q m. ⊎_elim (λ z. ∈_left a.first b.first q.head (x.heads_within q z))
      (λ z. ∈_right a.first b.first q.head (y.heads_within q z)) (Memᴰ.append_cases P.productions m);
  distinct = distinct_append P.productions Q.productions x.distinct y.distinct
      (λ q p m n e. ∈_disjoint a.first b.first q.head k (x.heads_within q m)
      (subst (λ (t : ℕ). t ∈ b.first) (sym e) (y.heads_within p n)));
}

-- Over types that solve the equations, with the parts of each alternative apart, where what derives has no type of ⊥.
module _ (flags : List Bool) (types : List LanguageType) (derived : (n : ℕ) → derives_at flags n ≡ true → is_bottom (type_of types n) ≡ false)
    (rs : List Row) (w : (n : ℕ) → RowWithin (row_of rs n) (type_of types n)) where
  sequence_within : (l r : ℕ) → is_bottom (type_of types r) ≡ false
      → RowWithin (node_row rs (sequence_node l r)) (node_type types (sequence_node l r))
  unfolding node_type_with node_row ended_by
  sequence_within l r h = record {
    heads_within = λ q m. let o = Memᴰ.of_map (ended_by r) (row_of rs l).productions m in
        sequence_first_left (type_of types l) (type_of types r) q.head h
        (subst (λ (z : Production). z.head ∈ (type_of types l).first) o.2 ((w l).heads_within o.0 o.1));
    distinct = distinct_ended r (row_of rs l).productions (w l).distinct;
  }

  -- A sequence whose right part derives nothing gives nothing.
  staying_within : (l r : ℕ) (b : Bool) → (b ≡ true → is_bottom (type_of types r) ≡ false)
      → RowWithin (cond b (node_row rs (sequence_node l r)) no_productions) (node_type types (sequence_node l r))
  staying_within l r true h = sequence_within l r (h refl)
  staying_within l r false h = bare_within false (node_type types (sequence_node l r))

  node_within : (x : Node) → ((l r : ℕ) → x ≡ alternative_node l r → Apart (type_of types l) (type_of types r))
      → RowWithin (staying_row flags rs x) (node_type types x)
  unfolding node_type_with node_row epsilon_type bottom_type token_type repetition_type_with
  node_within epsilon_node k = bare_within true epsilon_type
  node_within bottom_node k = bare_within false bottom_type
  node_within (token_node t) k = record {
    heads_within = λ q m. subst (λ (z : Production). z.head ∈ 2 ^ t) (sym (Memᴰ.eq_of_singleton m)) (∈_self t);
    distinct = (λ r m e. Memᴰ.not-nil m, tt);
  }
  node_within (sequence_node l r) k = staying_within l r (derives_at flags r) (derived r)
  node_within (alternative_node l r) k = alternative_within (w l) (w r) (k l r refl).disjoint
  node_within (fixed_point_node b) k = w b
  node_within (variable_node f guarded) k = w f
  node_within (repetition_node b self) k = alternative_within (bare_within true epsilon_type) (staying_within b self (derives_at flags self) (derived self))
      (disjoint_zero 0 (node_type types (sequence_node b self)).first (λ i x y. ∈_zero i x))

-- A node that derives a token sequence has a word, and so a type that is not that of ⊥.
derives-not_bottom : {e : Expression} {a : LanguageType} → [] ⊢ e ∶ a → (types : List LanguageType) → Solves (nodes e) types
    → (n : ℕ) → derives_at (derives e) n ≡ true → is_bottom (type_of types n) ≡ false
derives-not_bottom {e} d types s n h = let w = (derives_exact d n).0 h in has_not_bottom (type_of types n) w.0 (words_in_types e types s n w.0 w.1)

pub rows_within : {e : Expression} {a : LanguageType} → [] ⊢ e ∶ a → (types : List LanguageType) → Solves (nodes e) types
    → AlternativesApart (nodes e) types → (n : ℕ) → RowWithin (row_of (normal_form e) n) (type_of types n)
rows_within {e} d types s k = every_row e (λ n P. RowWithin P (type_of types n))
    (λ n. bare_within false (type_of types n))
    (λ rs w n. rw (solved_at (nodes e) types s n) (node_within (derives e) types (derives-not_bottom d types s) rs w (node_at (nodes e) n) (k n)))

-- At most one production a token, by the types of any derivation.
pub normal_form_distinct : {e : Expression} {a : LanguageType} → [] ⊢ e ∶ a → (n : ℕ)
    → DistinctHeads (row_of (normal_form e) n).productions
normal_form_distinct {e} d n = let t = typed_solution e d in
    (rows_within d t.0 t.1 (passes_apart (nodes e) t.0 t.2) n).distinct
