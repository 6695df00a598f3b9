-- Figure 2's equations over an expression without a list of nodes: which types some solution gives it. The least type of a closed
-- expression is the least of these.
use Rattle.std.specs.Prelude.{◌≡◌, refl, List, [], ◌∷◌, ℕ, suc, ◌+◌, ◌≤◌, get_or}
use Rattle.std.proofs.Common.{sym, ap₂, subst, ◌∙◌}
use Rattle.sheet.specs.Expression.{Expression, epsilon, bottom, token, sequence, alternative, fixed_point, variable, repetition, size}
use Rattle.sheet.specs.Limits.{most_tokens}
use Rattle.sheet.specs.WellFormed.{Closed}
use Rattle.types.specs.Types.{LanguageType, epsilon_type, bottom_type, token_type, sequence_type, alternative_type, repetition_type}
use Rattle.types.specs.LeastTypes.{type_of, least_types}
use Rattle.types.specs.LeastSolution.{◌⊑◌}
use Rattle.types.proofs.laws.LeastTypeLaws.{least_below, least_solves}
use Rattle.types.proofs.laws.EachFrom.{member_each}
use Rattle.types.proofs.laws.Equations.{EquationsAt, solves_iff}
use Rattle.types.proofs.laws.LaidOut.{Listed, LaidOut, laid_alone, laid_one, laid_two}

-- Types of two parts, and the type that a node has from theirs.
abbrev pub FromBoth : (LanguageType → LanguageType → LanguageType) → (LanguageType → Type 0) → (LanguageType → Type 0) → LanguageType → Type 0
FromBoth f X Y c = (a : LanguageType) × (b : LanguageType) × X a × Y b × (c ≡ f a b)

-- Some solution of the equations over g gives g the type c, where the open fixed points have the given types.
abbrev pub SomeSolution : Expression → List LanguageType → LanguageType → Type 0
SomeSolution epsilon open_types c = c ≡ epsilon_type
SomeSolution bottom open_types c = c ≡ bottom_type
SomeSolution (token k) open_types c = c ≡ token_type k
SomeSolution (sequence g h) open_types c = FromBoth sequence_type (SomeSolution g open_types) (SomeSolution h open_types) c
SomeSolution (alternative g h) open_types c = FromBoth alternative_type (SomeSolution g open_types) (SomeSolution h open_types) c
SomeSolution (fixed_point g) open_types c = SomeSolution g (c ∷ open_types) c
SomeSolution (variable n) open_types c = c ≡ get_or open_types n bottom_type
SomeSolution (repetition g) open_types c = (a : LanguageType) × SomeSolution g open_types a × (c ≡ repetition_type a c)

-- A list of all nodes' types that solves the equations is such a solution.
equations_some : (types : List LanguageType) (g : Expression) (p : ℕ) (open_types : List LanguageType) → EquationsAt types g p open_types
    → SomeSolution g open_types (type_of types p)
equations_some types epsilon p open_types h = h
equations_some types bottom p open_types h = h
equations_some types (token k) p open_types h = h
equations_some types (sequence g k) p open_types h =
    (_, _, equations_some types g (suc p) open_types h.1, equations_some types k (suc p + size g) open_types h.2, h.0)
equations_some types (alternative g k) p open_types h =
    (_, _, equations_some types g (suc p) open_types h.1, equations_some types k (suc p + size g) open_types h.2, h.0)
equations_some types (fixed_point g) p open_types h =
    subst (SomeSolution g (type_of types p ∷ open_types)) (sym h.0) (equations_some types g (suc p) (type_of types p ∷ open_types) h.1)
equations_some types (variable n) p open_types h = h
equations_some types (repetition g) p open_types h = (_, equations_some types g (suc p) open_types h.1, h.0)

-- And it can be laid out as a list of all nodes' types: in a list that holds these from p on, the equations of g at p hold.
laid_out : (g : Expression) (open_types : List LanguageType) (c : LanguageType) → SomeSolution g open_types c
    → LaidOut (size g) (λ types p. EquationsAt types g p open_types) c
unfolding size
laid_out epsilon open_types c s = laid_alone (λ types p o. o ∙ s)
laid_out bottom open_types c s = laid_alone (λ types p o. o ∙ s)
laid_out (token k) open_types c s = laid_alone (λ types p o. o ∙ s)
laid_out (sequence g h) open_types c s = laid_two (laid_out g open_types s.0 s.2) (laid_out h open_types s.1 s.3)
    (λ types p o l r x y. (o ∙ (s.4 ∙ sym (ap₂ sequence_type l r)), x, y))
laid_out (alternative g h) open_types c s = laid_two (laid_out g open_types s.0 s.2) (laid_out h open_types s.1 s.3)
    (λ types p o l r x y. (o ∙ (s.4 ∙ sym (ap₂ alternative_type l r)), x, y))
laid_out (fixed_point g) open_types c s = laid_one (laid_out g (c ∷ open_types) c s)
    (λ types p o l x. (o ∙ sym l, subst (λ b. EquationsAt types g (suc p) (b ∷ open_types)) (sym o) x))
laid_out (variable n) open_types c s = laid_alone (λ types p o. o ∙ s)
laid_out (repetition g) open_types c s = laid_one (laid_out g open_types s.0 s.1)
    (λ types p o l x. (o ∙ (s.2 ∙ sym (ap₂ repetition_type l o)), x))

-- The least type of a closed expression is one of these, and below all of them.
module _ (tokens : ℕ) (within : tokens ≤ most_tokens) (e : Expression) (closed : Closed tokens 0 e) where
  pub least_type_some : SomeSolution e [] (type_of (least_types e) 0)
  least_type_some =
      equations_some (least_types e) e 0 [] ((solves_iff (least_types e) tokens e closed).0 (least_solves tokens within e closed)).1

  pub least_type_least : (c : LanguageType) → SomeSolution e [] c → type_of (least_types e) 0 ⊑ c
  least_type_least c s =
      let x = laid_out e [] c s in
      let types = c ∷ x.below in
      let listed = member_each (Listed types) bottom_type types (λ n l. refl) in
      least_below e types ((solves_iff types tokens e closed).1 (x.long, x.holds types 0 listed)) 0
