-- The nodes that are found to derive a token sequence are those whose language has a word, at a typed expression.
use Rattle.std.specs.Prelude.{◌≡◌, Bool, true, false, ◌↔◌, ℕ, ◌*◌, T, length}
use Rattle.std.proofs.Math.Path.{refl}
use Rattle.std.proofs.Common.{sym, ap, subst, ◌∙◌, true≢false, arith}
use Rattle.std.specs.Bool.{beq}
use mathlib.Core.List.{List, [], ◌∷◌, ◌++◌}
use Rattle.std.proofs.Math.Logic.{inl, inr, ⊎_elim}
use Rattle.basics.proofs.laws.Truth.{or_left, or_right, or-cases, and_both, and-first, and-second, holds_true, true_holds, beq_equal, beq_self}
use Rattle.basics.specs.Rounds.{rounds}
use Rattle.basics.specs.Settle.{least_solution}
use Rattle.basics.proofs.laws.RoundLaws.{Equations, round-at, solution-rounds, solution_every, solution_solves}
use Rattle.sheet.specs.Expression.{Expression}
use Rattle.types.specs.Denotation.{Language}
use Rattle.types.specs.Languages.{HasWord}
use Rattle.types.specs.Types.{LanguageType, ◌⊢◌∶◌}
use Rattle.types.proofs.laws.SetOrder.{◌⇒◌, implied_both, and_rises, or_rises, flag, flag_rises, flag_most, flag_implies}
use Rattle.types.specs.Nodes.{Node, epsilon_node, bottom_node, token_node, sequence_node, alternative_node, fixed_point_node, variable_node, repetition_node, nodes, node_at}
use Rattle.normal_form.specs.Derives.{node_derives, derives}
use Rattle.normal_form.specs.RowNames.{derives_at}
use Rattle.normal_form.proofs.laws.NodeLanguages.{node_language, language_equation, languages_least}
use Rattle.types.specs.NodeLanguages.{language_of}

-- ---- the equations can be solved by rounds

-- Flags ordered by implication: one that holds is above one that does not.
node_derives_rises : (xs ys : List Bool) → ((n : ℕ) → derives_at xs n ⇒ derives_at ys n) → (x : Node) → node_derives xs x ⇒ node_derives ys x
unfolding node_derives
node_derives_rises xs ys h epsilon_node e = e
node_derives_rises xs ys h bottom_node e = e
node_derives_rises xs ys h (token_node k) e = e
node_derives_rises xs ys h (sequence_node l r) e = and_rises (derives_at xs l) (derives_at ys l) (derives_at xs r) (derives_at ys r) (h l) (h r) e
node_derives_rises xs ys h (alternative_node l r) e = or_rises (derives_at xs l) (derives_at ys l) (derives_at xs r) (derives_at ys r) (h l) (h r) e
node_derives_rises xs ys h (fixed_point_node b) e = h b e
node_derives_rises xs ys h (variable_node f guarded) e = h f e
node_derives_rises xs ys h (repetition_node b self) e = e

derive_equations : Equations beq false 1 node_derives bottom_node ◌⇒◌ (λ b. Unit) flag
unfolding node_derives
derive_equations = record {
  same_equal = beq_equal;
  same_self = beq_self;
  transitive = λ f g e. g (f e);
  antisymmetric = λ {a} {b} f g. implied_both a b f g;
  rises = node_derives_rises;
  none_least = λ flags. refl;
  least_fits = tt;
  least_below = λ b f e. absurd (true≢false (sym e));
  weight_most = flag_most;
  weight_rises = λ {a} {b} f. flag_rises a b f;
  weight_full = λ {a} {b} f u v h. implied_both a b f (flag_implies b a h);
}

-- A round for each node is enough: the flags are the least that solve the equations.
abbrev least : Expression → List Bool
least e = least_solution beq false 1 node_derives (nodes e)

derives-least : (e : Expression) → least e ≡ derives e
unfolding derives
derives-least e =
    solution-rounds derive_equations (nodes e)
    ∙ ap (rounds false node_derives (nodes e)) (let z : 1 * length (nodes e) ≡ length (nodes e) = omega arith in z)

-- The flags solve the equations.
derives_solve : (e : Expression) (n : ℕ) → derives_at (derives e) n ≡ node_derives (derives e) (node_at (nodes e) n)
derives_solve e n = subst (λ (l : List Bool). derives_at l n ≡ node_derives l (node_at (nodes e) n)) (derives-least e)
    (ap (λ (l : List Bool). derives_at l n) (solution_solves derive_equations (nodes e) (λ flags f m. tt))
    ∙ round-at derive_equations (nodes e) (least e) n)

-- What holds of a node that is not found, and is kept by the equations, holds of the flags.
derives_every : (e : Expression) (Q : ℕ → Bool → Type 0) → ((n : ℕ) → Q n false)
    → ((flags : List Bool) → ((n : ℕ) → Q n (derives_at flags n)) → (n : ℕ) → Q n (node_derives flags (node_at (nodes e) n)))
    → (n : ℕ) → Q n (derives_at (derives e) n)
derives_every e Q z f = subst (λ (l : List Bool). (n : ℕ) → Q n (derives_at l n)) (derives-least e) (solution_every derive_equations (nodes e) Q z f)

-- ---- what is found has a word

-- If what was found before has one.
module _ (N : ℕ → Language) where
  abbrev Found : List Bool → Type 0
  Found flags = (n : ℕ) → T (derives_at flags n) → HasWord (N n)

  node_found : (flags : List Bool) → Found flags → (x : Node) → T (node_derives flags x) → HasWord (node_language N x)
  unfolding node_derives
  node_found flags f epsilon_node t = ([], refl)
  node_found flags f bottom_node t = absurd t
  node_found flags f (token_node k) t = (k ∷ [], refl)
  node_found flags f (sequence_node l r) t =
      let x = f l (and-first (derives_at flags l) (derives_at flags r) t) in
      let y = f r (and-second (derives_at flags l) (derives_at flags r) t) in (x.0 ++ y.0, (x.0, y.0, refl, x.1, y.1))
  node_found flags f (alternative_node l r) t = ⊎_elim (λ a. let x = f l a in (x.0, inl x.1)) (λ b. let x = f r b in (x.0, inr x.1))
      (or-cases (derives_at flags l) (derives_at flags r) t)
  node_found flags f (fixed_point_node b) t = f b t
  node_found flags f (variable_node b guarded) t = f b t
  node_found flags f (repetition_node b self) t = ([], inl refl)

derives_found : {e : Expression} {a : LanguageType} → [] ⊢ e ∶ a → (n : ℕ) → T (derives_at (derives e) n) → HasWord (language_of e n)
derives_found {e} d = derives_every e (λ n b. T b → HasWord (language_of e n)) (λ n t. absurd t)
    (λ flags f n t. let x = node_found (language_of e) flags f (node_at (nodes e) n) t in (x.0, (language_equation d n x.0).1 x.1))

-- What has a word is found, by any solution of the equations.
node_complete : (flags : List Bool) (x : Node) (w : List ℕ) → node_language (λ n w. T (derives_at flags n)) x w → T (node_derives flags x)
unfolding node_derives
node_complete flags epsilon_node w h = tt
node_complete flags bottom_node w h = absurd h
node_complete flags (token_node k) w h = tt
node_complete flags (sequence_node l r) w h = and_both (derives_at flags l) (derives_at flags r) h.3 h.4
node_complete flags (alternative_node l r) w (inl h) = or_left (derives_at flags l) (derives_at flags r) h
node_complete flags (alternative_node l r) w (inr h) = or_right (derives_at flags l) (derives_at flags r) h
node_complete flags (fixed_point_node b) w h = h
node_complete flags (variable_node f guarded) w h = h
node_complete flags (repetition_node b self) w h = tt

derives_complete : (e : Expression) (n : ℕ) (w : List ℕ) → language_of e n w → T (derives_at (derives e) n)
derives_complete e = languages_least e (λ n w. T (derives_at (derives e) n))
    (λ n w h. subst T (sym (derives_solve e n)) (node_complete (derives e) (node_at (nodes e) n) w h))

-- A node is found to derive a token sequence iff its language has one.
pub derives_exact : {e : Expression} {a : LanguageType} → [] ⊢ e ∶ a → (n : ℕ)
    → (derives_at (derives e) n ≡ true) ↔ HasWord (language_of e n)
derives_exact {e} d n = (
  (λ t. derives_found d n (true_holds (derives_at (derives e) n) t)),
  λ x. holds_true (derives_at (derives e) n) (derives_complete e n x.0 x.1),
)
