-- A descent is one: Figure 6 is a function. At an alternative this is what apart means; and a branch that is entered denotes something.
use Rattle.std.specs.Prelude.{◌≡◌, refl, ◌&&◌, List, [], ℕ, ◌≤◌}
use Rattle.std.proofs.Common.{sym, ap₂, subst, ◌∙◌, true≢false, ⊎_elim, arith}
use Rattle.std.proofs.Math.ListN.{get_or-eq_default}
use Rattle.basics.proofs.laws.BitLaws.{∈_disjoint}
use Rattle.sheet.specs.Expression.{Expression, size}
use Rattle.types.specs.Denotation.{Language}
use Rattle.types.specs.Languages.{Environment}
use Rattle.types.specs.TypeNames.{Context}
use Rattle.types.specs.Types.{LanguageType, bottom_type, Apart, ◌⊢◌∶◌, type_epsilon, type_bottom, type_token, type_variable, type_sequence, type_alternative, type_fixed_point, type_repetition}
use Rattle.types.proofs.laws.Soundness.{Satisfies}
use Rattle.types.specs.Nodes.{Node, epsilon_node, bottom_node, token_node, sequence_node, alternative_node, fixed_point_node, variable_node, repetition_node, nodes, node_at}
use Rattle.normal_form.proofs.laws.Places.{nodes-count}
use Rattle.normal_form.proofs.laws.NodeLanguages.{Site, at_first, at_second, site_sound, at_every_node}
use Rattle.types.specs.NodeLanguages.{language_of}
use Rattle.types.specs.Languages.{Begins}
use Rattle.recogniser.specs.Descends.{Descent, left, stuck, Enters, DescendsAt, Descends, DescendsFromStart, entered, not_entered, bottom_fails, epsilon_leaves, token_taken, token_fails, token_missing, sequence_through, sequence_stuck, alternative_leaves, alternative_missing, into_first, into_second, into_neither, into_body, into_fixed_point, repetition_leaves, repetition_done, repetition_through, repetition_stuck}

-- The parts of an alternative begin with no common token, and one of them at most has the empty word.
abbrev ApartAt : (ℕ → Language) → Node → Type 0
ApartAt N epsilon_node = Unit
ApartAt N bottom_node = Unit
ApartAt N (token_node t) = Unit
ApartAt N (sequence_node l r) = Unit
ApartAt N (alternative_node l r) = ((c : ℕ) → Begins (N l) c → Begins (N r) c → ⊥) × (N l [] → N r [] → ⊥)
ApartAt N (fixed_point_node b) = Unit
ApartAt N (variable_node f guarded) = Unit
ApartAt N (repetition_node b self) = Unit

parts_apart : {L M : Language} {a b : LanguageType} → Satisfies L a → Satisfies M b → Apart a b
    → ((c : ℕ) → Begins L c → Begins M c → ⊥) × (L [] → M [] → ⊥)
parts_apart {a = a} {b = b} s t q = (
  (λ c x y. ∈_disjoint a.first b.first c q.disjoint (s.first_holds c x.0 x.1) (t.first_holds c y.0 y.1)),
  λ x y. true≢false (sym (ap₂ ◌&&◌ (s.null_holds x) (t.null_holds y)) ∙ q.one_null),
)

pub alternatives_apart : {e : Expression} {a : LanguageType} → [] ⊢ e ∶ a → (n : ℕ) → ApartAt (language_of e) (node_at (nodes e) n)
alternatives_apart {e} d n =
    (at_every_node d (λ b i. ApartAt (language_of e) (node_at (nodes e) i)) (λ Γ g b x γ p fs s k. own x γ p fs s) past n).1
  where
    past : (i : ℕ) → size e ≤ i → (b : LanguageType) × ApartAt (language_of e) (node_at (nodes e) i)
    past i h = (bottom_type, rw (get_or-eq_default (nodes e) bottom_node {n = i} (rw (nodes-count e) h)) tt)

    own : {Γ : Context} {g : Expression} {b : LanguageType} → Γ ⊢ g ∶ b → (γ : Environment) (p : ℕ) (fs : List ℕ)
        → Site (language_of e) (node_at (nodes e)) Γ g γ p fs → ApartAt (language_of e) (node_at (nodes e) p)
    own type_epsilon γ p fs s = rw s.placed tt
    own type_bottom γ p fs s = rw s.placed tt
    own (type_token t) γ p fs s = rw s.placed tt
    own (type_variable u) γ p fs s = rw s.placed.1 tt
    own (type_sequence x y q) γ p fs s = rw s.placed.0 tt
    own (type_alternative x y q) γ p fs s = rw s.placed.0 (parts_apart (site_sound x (at_first s)) (site_sound y (at_second s)) q)
    own (type_fixed_point x) γ p fs s = rw s.placed.0 tt
    own (type_repetition x q h) γ p fs s = rw s.placed.0 tt

module _ {e : Expression} {a : LanguageType} (d : [] ⊢ e ∶ a) where
  both_enter : {X : Type 0} (n l r c : ℕ) → node_at (nodes e) n ≡ alternative_node l r → Enters e l r c → Enters e r l c → X
  both_enter n l r c h x y = let p = subst (ApartAt (language_of e)) h (alternatives_apart d n) in
      absurd (⊎_elim (λ u. ⊎_elim (λ v. p.0 c u v) (λ v. v.2 u) y) (λ u. ⊎_elim (λ v. u.2 v) (λ v. p.1 u.0 v.0) y) x)

  not_stuck : {X : Type 0} {s t : List ℕ} → left s ≡ stuck t → X
  not_stuck z = absurd (let w : ◌≡◌ {A = ℕ} 0 1 = cc in omega arith)

  same_rest : {s t : List ℕ} → left s ≡ left t → s ≡ t
  same_rest z = cc

  pub descent_one : {x : Node} {s : List ℕ} {o r : Descent} → DescendsAt e x s o → DescendsAt e x s r
      → (n : ℕ) → node_at (nodes e) n ≡ x → o ≡ r
  descent_one bottom_fails bottom_fails n h = refl
  descent_one epsilon_leaves epsilon_leaves n h = refl
  descent_one (token_taken z) (token_taken w) n h = refl
  descent_one (token_taken z) (token_fails w) n h = absurd (w z)
  descent_one (token_fails z) (token_taken w) n h = absurd (z w)
  descent_one (token_fails z) (token_fails w) n h = refl
  descent_one token_missing token_missing n h = refl
  descent_one (sequence_through {g = g} {g' = g'} x y) (sequence_through {o = r} u v) n h =
      descent_one y (subst (λ (t : List ℕ). Descends e g' t r) (sym (same_rest (descent_one x u g refl))) v) g' refl
  descent_one (sequence_through {g = g} x y) (sequence_stuck u) n h = not_stuck (descent_one x u g refl)
  descent_one (sequence_stuck {g = g} x) (sequence_through u v) n h = not_stuck (sym (descent_one x u g refl))
  descent_one (sequence_stuck {g = g} x) (sequence_stuck u) n h = descent_one x u g refl
  descent_one (alternative_leaves x) (alternative_leaves y) n h = refl
  descent_one (alternative_leaves x) (alternative_missing y z) n h = absurd (⊎_elim y z x)
  descent_one (alternative_missing y z) (alternative_leaves x) n h = absurd (⊎_elim y z x)
  descent_one (alternative_missing x w) (alternative_missing y z) n h = refl
  descent_one (into_first {g = g} i x) (into_first j y) n h = descent_one x y g refl
  descent_one (into_first {g = g} {g' = g'} {c = c} i x) (into_second j y) n h = both_enter n g g' c h i j
  descent_one (into_first i x) (into_neither y z) n h = absurd (y i)
  descent_one (into_second {g = g} {g' = g'} {c = c} i x) (into_first j y) n h = both_enter n g g' c h j i
  descent_one (into_second {g' = g'} i x) (into_second j y) n h = descent_one x y g' refl
  descent_one (into_second i x) (into_neither y z) n h = absurd (z i)
  descent_one (into_neither y z) (into_first i x) n h = absurd (y i)
  descent_one (into_neither y z) (into_second i x) n h = absurd (z i)
  descent_one (into_neither x w) (into_neither y z) n h = refl
  descent_one (into_body {g = g} x) (into_body y) n h = descent_one x y g refl
  descent_one (into_fixed_point {f = f} x) (into_fixed_point y) n h = descent_one x y f refl
  descent_one repetition_leaves repetition_leaves n h = refl
  descent_one (repetition_done x) (repetition_done y) n h = refl
  descent_one (repetition_done x) (repetition_through i y z) n h = absurd (x i)
  descent_one (repetition_done x) (repetition_stuck i y) n h = absurd (x i)
  descent_one (repetition_through i y z) (repetition_done x) n h = absurd (x i)
  descent_one (repetition_through {g = g} {self = self} i x y) (repetition_through {o = r} j u v) n h =
      descent_one y (subst (λ (t : List ℕ). Descends e self t r) (sym (same_rest (descent_one x u g refl))) v) self refl
  descent_one (repetition_through {g = g} i x y) (repetition_stuck j u) n h = not_stuck (descent_one x u g refl)
  descent_one (repetition_stuck i y) (repetition_done x) n h = absurd (x i)
  descent_one (repetition_stuck {g = g} i x) (repetition_through j u v) n h = not_stuck (sym (descent_one x u g refl))
  descent_one (repetition_stuck {g = g} i x) (repetition_stuck j u) n h = descent_one x u g refl

  -- The same from the start.
  pub start_one : {s : List ℕ} {o r : Descent} → DescendsFromStart e s o → DescendsFromStart e s r → o ≡ r
  start_one (entered w x) (entered v y) = descent_one x y 0 refl
  start_one (entered w x) (not_entered f) = absurd (f w)
  start_one (not_entered f) (entered w x) = absurd (f w)
  start_one (not_entered f) (not_entered g) = refl
