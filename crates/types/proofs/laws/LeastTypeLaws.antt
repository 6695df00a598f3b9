-- The computed types solve Figure 2's equations over the whole expression, and they are below every other solution.
-- Whether they pass the side conditions is not asked here.
use Rattle.std.specs.Prelude.{◌≡◌, refl, true, ◌&&◌, List, ℕ, ◌≤◌, eqb, length, replicate}
use Rattle.std.proofs.Common.{ap, subst, ◌∙◌, arith, eq-eqb, eqb-true}
use Rattle.std.specs.Bool.{beq}
use Rattle.basics.proofs.laws.Truth.{and-true-first, and-true-second, beq_equal, beq_self}
use Rattle.basics.proofs.laws.RoundLaws.{Equations, each_least, round-at, solution_long, solution_every, solution-below, solution_unique, solution_fits, solution_solves}
use Rattle.sheet.specs.Limits.{most_tokens}
use Rattle.sheet.specs.Expression.{Expression, size}
use Rattle.sheet.specs.WellFormed.{Closed}
use Rattle.types.specs.Types.{LanguageType, epsilon_type, bottom_type, token_type}
use Rattle.types.specs.Nodes.{Node, epsilon_node, bottom_node, token_node, sequence_node, alternative_node, fixed_point_node, variable_node, repetition_node, nodes, node_at}
use Rattle.types.specs.laws.NodeRanges.{NodeInRange}
use Rattle.types.proofs.laws.NodeRanges.{in_range-more, node_in_range, nodes-in_range}
use Rattle.types.specs.LeastTypes.{type_of, node_type, node_type_with, same_type, type_height, types_of, least_types}
use Rattle.types.specs.Solutions.{next_types}
use Rattle.types.proofs.laws.TypeLaws.{⊑_refl, ⊑_trans, ⊑_antisym, bottom_least, sequence_rises, alternative_rises, repetition_rises}
use Rattle.types.specs.LeastSolution.{◌⊑◌}
use Rattle.types.specs.Solutions.{AllBelow, Solves}
use Rattle.types.proofs.laws.TypeWeight.{Fits, epsilon_fits, bottom_fits, token_fits, sequence_fits, alternative_fits, repetition_fits, weight, weight_most, weight_rises, weight_full}

-- ---- Figure 2's equations can be solved by rounds

pub same_type_equal : (a b : LanguageType) → same_type a b ≡ true → a ≡ b
unfolding same_type
same_type_equal a b e =
    let sets = eqb a.first b.first && eqb a.flast b.flast in
    let rest = and-true-second (beq a.null b.null) sets e in
    let n = beq_equal a.null b.null (and-true-first (beq a.null b.null) sets e) in
    let s = eqb-true a.first b.first (and-true-first (eqb a.first b.first) (eqb a.flast b.flast) rest) in
    let t = eqb-true a.flast b.flast (and-true-second (eqb a.first b.first) (eqb a.flast b.flast) rest) in
    λ i. record { null = n i; first = s i; flast = t i }

pub same_type_self : (a : LanguageType) → same_type a a ≡ true
unfolding same_type
same_type_self a = rw (beq_self a.null, eq-eqb a.first a.first refl, eq-eqb a.flast a.flast refl)

-- A round keeps the order.
node_type_rises : (xs ys : List LanguageType) → AllBelow xs ys → (x : Node) → node_type xs x ⊑ node_type ys x
unfolding node_type_with
node_type_rises xs ys h epsilon_node = ⊑_refl epsilon_type
node_type_rises xs ys h bottom_node = ⊑_refl bottom_type
node_type_rises xs ys h (token_node t) = ⊑_refl (token_type t)
node_type_rises xs ys h (sequence_node l r) = sequence_rises (h l) (h r)
node_type_rises xs ys h (alternative_node l r) = alternative_rises (h l) (h r)
node_type_rises xs ys h (fixed_point_node b) = h b
node_type_rises xs ys h (variable_node f guarded) = h f
node_type_rises xs ys h (repetition_node b self) = repetition_rises (h b) (h self)

pub type_equations : Equations same_type bottom_type type_height node_type bottom_node ◌⊑◌ Fits weight
unfolding node_type_with
type_equations = record {
  same_equal = same_type_equal;
  same_self = same_type_self;
  transitive = ⊑_trans;
  antisymmetric = ⊑_antisym;
  rises = node_type_rises;
  none_least = λ types. refl;
  least_fits = bottom_fits;
  least_below = λ a f. bottom_least a;
  weight_most = weight_most;
  weight_rises = weight_rises;
  weight_full = λ p f g. weight_full p g;
}

-- ---- one round

-- One round, at one node.
pub type_of-next : (ns : List Node) (types : List LanguageType) (n : ℕ) → type_of (next_types ns types) n ≡ node_type types (node_at ns n)
type_of-next = round-at type_equations

pub solved_at : (ns : List Node) (types : List LanguageType) → Solves ns types → (n : ℕ) → type_of types n ≡ node_type types (node_at ns n)
solved_at ns types s n = ap (λ (l : List LanguageType). type_of l n) s ∙ type_of-next ns types n

pub bottoms_below : (k : ℕ) (types : List LanguageType) → AllBelow (replicate k bottom_type) types
bottoms_below k types = each_least bottom_type (λ n a. a ⊑ type_of types n) (λ n. bottom_least (type_of types n)) k

-- What one equation gives from types below a solution is below the solution.
pub step-below : (ns : List Node) (types solution : List LanguageType) → Solves ns solution → AllBelow types solution
    → (n : ℕ) → node_type types (node_at ns n) ⊑ type_of solution n
step-below ns types solution s below n = rw (solved_at ns solution s n) (node_type_rises types solution below (node_at ns n))

-- ---- the least types

pub types_long : (ns : List Node) → length (types_of ns) ≡ length ns
unfolding types_of
types_long = solution_long type_equations

-- What holds of ⊥'s type at each node, and is kept by Figure 2's equations, holds of the computed types.
pub types_every : (ns : List Node) (Q : ℕ → LanguageType → Type 0) → ((n : ℕ) → Q n bottom_type)
    → ((types : List LanguageType) → ((n : ℕ) → Q n (type_of types n)) → (n : ℕ) → Q n (node_type types (node_at ns n)))
    → (n : ℕ) → Q n (type_of (types_of ns) n)
unfolding types_of
types_every = solution_every type_equations

-- Least: no round rises above types to which a round adds nothing.
pub types_below : (ns : List Node) (types : List LanguageType) → AllBelow (next_types ns types) types → AllBelow (types_of ns) types
unfolding types_of
types_below ns types = solution-below type_equations ns types (λ n. bottom_least (type_of types n))

pub least_below : (e : Expression) (types : List LanguageType) → Solves (nodes e) types → AllBelow (least_types e) types
unfolding least_types
least_below e types s =
    types_below (nodes e) types (λ n. subst (λ l. type_of l n ⊑ type_of types n) s (⊑_refl (type_of types n)))

-- Types that lie below the computed ones, and to which a round adds nothing, are the computed ones. They need not come by rounds.
pub types_unique : (ns : List Node) (types : List LanguageType) → length types ≡ length ns → AllBelow types (types_of ns)
    → AllBelow (next_types ns types) types → types ≡ types_of ns
unfolding types_of
types_unique ns types long = solution_unique type_equations ns types long (λ n. bottom_least (type_of types n))

node_type_fits : (types : List LanguageType) → ((n : ℕ) → Fits (type_of types n)) → (count : ℕ) (x : Node) → NodeInRange most_tokens count x
    → Fits (node_type types x)
unfolding node_type_with
node_type_fits types f count epsilon_node t = epsilon_fits
node_type_fits types f count bottom_node t = bottom_fits
node_type_fits types f count (token_node k) t = token_fits k t
node_type_fits types f count (sequence_node l r) t = sequence_fits (f l) (f r)
node_type_fits types f count (alternative_node l r) t = alternative_fits (f l) (f r)
node_type_fits types f count (fixed_point_node b) t = f b
node_type_fits types f count (variable_node b guarded) t = f b
node_type_fits types f count (repetition_node b self) t = repetition_fits (f b) (f self)

module _ (ns : List Node) (count : ℕ) (in_range : (n : ℕ) → NodeInRange most_tokens count (node_at ns n)) where
  next_fits : (types : List LanguageType) → ((n : ℕ) → Fits (type_of types n)) → (n : ℕ) → Fits (node_type types (node_at ns n))
  next_fits types f n = node_type_fits types f count (node_at ns n) (in_range n)

  pub types_fit : (n : ℕ) → Fits (type_of (types_of ns) n)
  unfolding types_of
  types_fit = solution_fits type_equations ns next_fits

  pub types_solve : Solves ns (types_of ns)
  unfolding types_of
  types_solve = solution_solves type_equations ns next_fits

module _ (tokens : ℕ) (within : tokens ≤ most_tokens) where
  expression_in_range : (e : Expression) → Closed tokens 0 e → (n : ℕ) → NodeInRange most_tokens (size e) (node_at (nodes e) n)
  expression_in_range e c n = in_range-more tokens most_tokens (size e) (size e) (node_at (nodes e) n) within (omega arith)
      (node_in_range tokens (size e) (nodes e) (nodes-in_range tokens e c) n)

  pub least_solves : (e : Expression) → Closed tokens 0 e → Solves (nodes e) (least_types e)
  unfolding least_types
  least_solves e c = types_solve (nodes e) (size e) (expression_in_range e c)

  pub least_fits : (e : Expression) → Closed tokens 0 e → (n : ℕ) → Fits (type_of (least_types e) n)
  unfolding least_types
  least_fits e c n = types_fit (nodes e) (size e) (expression_in_range e c) n
