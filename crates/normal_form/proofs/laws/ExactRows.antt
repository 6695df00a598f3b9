-- What exact types say of the rows of a typed expression, at the least types: NULL is a row's ε flag, FIRST has the heads of its productions,
-- and where a token of FIRST leads, from a node to the parts whose productions for it the node has. That the least types solve the
-- equations is taken as given here.
use Rattle.std.specs.Prelude.{◌≡◌, refl, Bool, true, false, ◌⊎◌, ◌↔◌, ℕ}
use Rattle.std.proofs.Common.{sym, subst, ◌∙◌, true≢false, ⊎_elim}
use mathlib.Core.List.{List, [], ◌∷◌, nil≢cons, head-eq_of_cons-eq}
use Rattle.basics.specs.Bits.{◌∈◌}
use Rattle.basics.proofs.laws.BitLaws.{∈_zero, ∈_cases}
use Rattle.sheet.specs.Expression.{Expression}
use Rattle.types.specs.Languages.{Begins}
use Rattle.types.specs.NodeLanguages.{language_of}
use Rattle.types.specs.Types.{LanguageType, epsilon_type, sequence_type, alternative_type, repetition_type_with, ◌⊢◌∶◌}
use Rattle.types.proofs.laws.BottomTypeLaws.{first-not_bottom}
use Rattle.types.proofs.laws.SequenceTypeLaws.{sequence_parts, sequence_first-cases}
use Rattle.types.proofs.laws.SetOrder.{implied_both}
use Rattle.types.specs.Nodes.{Node, epsilon_node, bottom_node, token_node, sequence_node, alternative_node, fixed_point_node, variable_node, repetition_node, nodes, node_at}
use Rattle.types.specs.LeastTypes.{type_of, node_type, node_type_with, least_types}
use Rattle.types.specs.Solutions.{Solves}
use Rattle.types.proofs.laws.LeastTypeLaws.{solved_at}
use Rattle.normal_form.specs.Productions.{Production, row_of, rows}
use Rattle.normal_form.specs.Derives.{derives}
use Rattle.normal_form.specs.RowNames.{derives_at}
use Rattle.normal_form.specs.NormalForm.{normal_form}
use Rattle.normal_form.proofs.laws.NodeLanguages.{language_equation}
use Rattle.normal_form.proofs.laws.TypesExact.{not_bottom_word, empty_word_exact, first_exact}
use Rattle.normal_form.proofs.laws.DerivesExact.{derives_exact}
use Rattle.normal_form.proofs.laws.KeptRows.{normal_form_epsilon}
use Rattle.normal_form.proofs.laws.Unfolding.{◌of◌, ByRow, by_epsilon, by_production, production_word, null_exact}
use Rattle.normal_form.proofs.laws.Pending.{words_together}
use Rattle.normal_form.proofs.laws.NormalFormLaws.{normal_form_fits}
use Rattle.normal_form.proofs.laws.LeftParts.{LeftNotNull, left_not_null}

-- Where t leads from a node, if it begins the node's words: into parts whose words it begins, and behind them stand nodes that derive a token
-- sequence.
abbrev pub Leads : (ℕ → ℕ) → List Bool → ℕ → Node → Type 0
Leads first flags t epsilon_node = Unit
Leads first flags t bottom_node = Unit
Leads first flags t (token_node k) = Unit
Leads first flags t (sequence_node l r) = (t ∈ first l) × (derives_at flags r ≡ true)
Leads first flags t (alternative_node l r) = (t ∈ first l) ⊎ (t ∈ first r)
Leads first flags t (fixed_point_node b) = t ∈ first b
Leads first flags t (variable_node f guarded) = t ∈ first f
Leads first flags t (repetition_node b self) = (t ∈ first b) × (derives_at flags self ≡ true)

-- A token begins a word of a node exactly if the node's row has a production for it.
module _ {e : Expression} {a : LanguageType} (d : [] ⊢ e ∶ a) (n t : ℕ) where
  pub production_for : Begins (language_of e n) t → (q : Production) × (q of row_of (normal_form e) n) × (q.head ≡ t)
  production_for b = by_row refl (((normal_form_fits d).unfolds n (t ∷ b.0)).0 b.1)
    where
      by_row : {w : List ℕ} → w ≡ t ∷ b.0 → ByRow (language_of e) (row_of (normal_form e) n) w
          → (q : Production) × (q of row_of (normal_form e) n) × (q.head ≡ t)
      by_row z (by_epsilon s) = absurd (nil≢cons z)
      by_row z (by_production {q = q} m c) = (q, m, head-eq_of_cons-eq z)

  pub production_begins : (q : Production) → q of row_of (normal_form e) n → q.head ≡ t → Begins (language_of e n) t
  production_begins q m z = let w = words_together (language_of e) q.tail ((normal_form_fits d).tail_words n q m) in
      subst (Begins (language_of e n)) z (w.0, production_word (language_of e) ((normal_form_fits d).unfolds n) q w.0 m w.1)

module _ {e : Expression} {a : LanguageType} (d : [] ⊢ e ∶ a) (s : Solves (nodes e) (least_types e)) where
  abbrev type_at : ℕ → LanguageType
  type_at n = type_of (least_types e) n

  -- Lemma 3.2 of the flap paper.
  pub null_is_epsilon : (n : ℕ) → (type_of (least_types e) n).null ≡ (row_of (normal_form e) n).has_epsilon
  null_is_epsilon n =
      let by_type = empty_word_exact e (language_equation d) s n in
      let by_row = null_exact (language_of e) ((normal_form_fits d).unfolds n) in
      implied_both (type_at n).null (row_of (normal_form e) n).has_epsilon (λ h. by_row.0 (by_type.0 h)) (λ h. by_type.1 (by_row.1 h))

  -- Lemma 3.6, of the rows that stay.
  pub first_has_production : (n t : ℕ) → (t ∈ (type_of (least_types e) n).first)
      ↔ ((q : Production) × (q of row_of (normal_form e) n) × (q.head ≡ t))
  first_has_production n t = let exact = first_exact e (language_equation d) s n t in (
    (λ m. production_for d n t (exact.0 m)),
    λ x. exact.1 (production_begins d n t x.0 x.1 x.2),
  )

  left_null : (l : ℕ) → (row_of (rows e) l).has_epsilon ≡ false → (type_at l).null ≡ false
  left_null l h = null_is_epsilon l ∙ (normal_form_epsilon e l ∙ h)

  -- A token that begins a sequence begins its left part, and its right part, whose type is not that of ⊥, derives a token sequence.
  through : (l r t : ℕ) → (row_of (rows e) l).has_epsilon ≡ false → t ∈ (sequence_type (type_at l) (type_at r)).first
      → (t ∈ (type_at l).first) × (derives_at (derives e) r ≡ true)
  through l r t n m = (
    ⊎_elim (λ x. x) (λ x. absurd (true≢false (sym x.0 ∙ left_null l n))) (sequence_first-cases (type_at l) (type_at r) t m),
    (derives_exact d r).1 (not_bottom_word e (language_equation d) r
        (sequence_parts (type_at l) (type_at r) (first-not_bottom (sequence_type (type_at l) (type_at r)) t m)).1),
  )

  node_leads : (t : ℕ) (x : Node) → LeftNotNull (rows e) x → t ∈ (node_type (least_types e) x).first
      → Leads (λ n. (type_of (least_types e) n).first) (derives e) t x
  unfolding node_type_with repetition_type_with alternative_type epsilon_type
  node_leads t epsilon_node n m = tt
  node_leads t bottom_node n m = tt
  node_leads t (token_node k) n m = tt
  node_leads t (sequence_node l r) n m = through l r t n m
  node_leads t (alternative_node l r) n m = ∈_cases (type_at l).first (type_at r).first t m
  node_leads t (fixed_point_node b) n m = m
  node_leads t (variable_node f guarded) n m = m
  node_leads t (repetition_node b self) n m = through b self t n
      (⊎_elim (λ x. ∈_zero t x) (λ x. x) (∈_cases 0 (sequence_type (type_at b) (type_at self)).first t m))

  pub first_leads : (t n : ℕ) → t ∈ (type_of (least_types e) n).first
      → Leads (λ n. (type_of (least_types e) n).first) (derives e) t (node_at (nodes e) n)
  first_leads t n m = node_leads t (node_at (nodes e) n) (left_not_null d n)
      (subst (λ (c : LanguageType). t ∈ c.first) (solved_at (nodes e) (least_types e) s n) m)
