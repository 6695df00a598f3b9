-- In a typed expression the left part of a sequence has no ε, and neither has the part of a repetition: question 9, said of rows.
use Rattle.std.specs.Prelude.{◌≡◌, refl, Bool, true, false, List, [], ℕ, suc, ◌≤◌}
use Rattle.std.proofs.Common.{sym, ◌∙◌, true≢false}
use Rattle.std.proofs.Math.ListN.{get_or-eq_default}
use Rattle.sheet.specs.Expression.{Expression, size}
use Rattle.types.specs.Languages.{Environment}
use Rattle.types.specs.Types.{LanguageType, bottom_type, ◌⊢◌∶◌, type_epsilon, type_bottom, type_token, type_variable, type_sequence, type_alternative, type_fixed_point, type_repetition}
use Rattle.types.specs.TypeNames.{Context}
use Rattle.types.proofs.laws.Soundness.{Satisfies}
use Rattle.types.specs.Nodes.{Node, epsilon_node, bottom_node, token_node, sequence_node, alternative_node, fixed_point_node, variable_node, repetition_node, nodes, node_at}
use Rattle.normal_form.specs.Productions.{Row, row_of, rows}
use Rattle.normal_form.proofs.laws.Places.{nodes-count}
use Rattle.normal_form.proofs.laws.KeptRows.{normal_form_epsilon}
use Rattle.normal_form.proofs.laws.NodeLanguages.{Site, at_left, at_part, site_sound, at_every_node}
use Rattle.types.specs.NodeLanguages.{language_of}
use Rattle.normal_form.proofs.laws.Unfolding.{null_exact}
use Rattle.normal_form.proofs.laws.NormalFormLaws.{normal_form_fits}

-- The left part of a sequence has no ε, nor has the part of a repetition.
abbrev pub LeftNotNull : List Row → Node → Type 0
LeftNotNull rs epsilon_node = Unit
LeftNotNull rs bottom_node = Unit
LeftNotNull rs (token_node t) = Unit
LeftNotNull rs (sequence_node l r) = (row_of rs l).has_epsilon ≡ false
LeftNotNull rs (alternative_node l r) = Unit
LeftNotNull rs (fixed_point_node b) = Unit
LeftNotNull rs (variable_node f guarded) = Unit
LeftNotNull rs (repetition_node b self) = (row_of rs b).has_epsilon ≡ false

pub not-true : (b : Bool) → (b ≡ true → ⊥) → b ≡ false
not-true true h = absurd (h refl)
not-true false h = refl

pub left_not_null : {e : Expression} {a : LanguageType} → [] ⊢ e ∶ a → (n : ℕ) → LeftNotNull (rows e) (node_at (nodes e) n)
left_not_null {e} d n = (at_every_node d (λ b i. LeftNotNull (rows e) (node_at (nodes e) i)) (λ Γ g b x γ p fs s k. own x γ p fs s) past n).1
  where
    past : (i : ℕ) → size e ≤ i → (b : LanguageType) × LeftNotNull (rows e) (node_at (nodes e) i)
    past i h = (bottom_type, rw (get_or-eq_default (nodes e) bottom_node {n = i} (rw (nodes-count e) h)) tt)

    -- A node whose type is not NULL has no ε.
    by_type : (m : ℕ) {b : LanguageType} → Satisfies (language_of e m) b → b.null ≡ false → (row_of (rows e) m).has_epsilon ≡ false
    by_type m s q = not-true (row_of (rows e) m).has_epsilon (λ h. true≢false
        (sym (s.null_holds ((null_exact (language_of e) ((normal_form_fits d).unfolds m)).1 (normal_form_epsilon e m ∙ h))) ∙ q))

    own : {Γ : Context} {g : Expression} {b : LanguageType} → Γ ⊢ g ∶ b → (γ : Environment) (p : ℕ) (fs : List ℕ)
        → Site (language_of e) (node_at (nodes e)) Γ g γ p fs → LeftNotNull (rows e) (node_at (nodes e) p)
    own type_epsilon γ p fs s = rw s.placed tt
    own type_bottom γ p fs s = rw s.placed tt
    own (type_token t) γ p fs s = rw s.placed tt
    own (type_variable u) γ p fs s = rw s.placed.1 tt
    own (type_sequence x y q) γ p fs s = rw s.placed.0 (by_type (suc p) (site_sound x (at_left s)) q.not_null)
    own (type_alternative x y q) γ p fs s = rw s.placed.0 tt
    own (type_fixed_point x) γ p fs s = rw s.placed.0 tt
    own (type_repetition x q h) γ p fs s = rw s.placed.0 (by_type (suc p) (site_sound x (at_part s)) q.not_null)
