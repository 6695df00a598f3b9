-- A closed expression and its spelled_out form have the same least type, also where neither has a derivation: their equations have
-- solutions for the same types. Questions 8 to 10 find no fault in the one if and only if they find none in the other.
use Rattle.std.specs.Prelude.{◌≡◌, refl, List, [], ◌∷◌, ◌↔◌, ℕ, zero, suc, ◌≤◌, get_or}
use Rattle.std.proofs.Common.{sym, ap, ap₂, ◌∙◌, arith}
use Rattle.std.proofs.Math.Path.{transport}
use Rattle.std.proofs.Math.Option.{none}
use Rattle.std.proofs.Math.Logic.Iff
use Rattle.sheet.specs.Expression.{Expression, epsilon, bottom, token, sequence, alternative, fixed_point, variable, repetition}
use Rattle.sheet.specs.Limits.{most_tokens}
use Rattle.sheet.specs.WellFormed.{Closed}
use Rattle.types.specs.Types.{LanguageType, epsilon_type, bottom_type, sequence_type, alternative_type, repetition_type, repetition_type_with}
use Rattle.types.specs.LeastTypes.{type_of, least_types}
use Rattle.types.specs.Questions.{type_fault}
use Rattle.types.proofs.laws.TypeLaws.{⊑_antisym}
use Rattle.types.proofs.laws.Typing.{typed_iff}
use Rattle.types.proofs.laws.SomeSolution.{FromBoth, SomeSolution, least_type_some, least_type_least}
use Rattle.types.specs.SpelledOut.{raise_count, raise, repetition_form, spelled_out}
use Rattle.types.proofs.laws.PutIn.{PutIn, in_front, further_in}
use Rattle.types.proofs.laws.SpelledOutTyping.{spelled_out_has_type}

-- A raised expression is closed where one more fixed point is open.
raised_count : (d n : ℕ) → raise_count d n ≤ suc n
raised_count zero n = omega arith
raised_count (suc d) zero = omega arith
raised_count (suc d) (suc n) = omega (arith, raised_count d n)

raised_closed : (tokens opened d : ℕ) (g : Expression) → Closed tokens opened g → Closed tokens (suc opened) (raise d g)
raised_closed tokens opened d epsilon c = tt
raised_closed tokens opened d bottom c = tt
raised_closed tokens opened d (token k) c = c
raised_closed tokens opened d (sequence g h) c = (raised_closed tokens opened d g c.0, raised_closed tokens opened d h c.1)
raised_closed tokens opened d (alternative g h) c = (raised_closed tokens opened d g c.0, raised_closed tokens opened d h c.1)
raised_closed tokens opened d (fixed_point g) c = raised_closed tokens (suc opened) (suc d) g c
raised_closed tokens opened d (variable n) c = omega (arith, raised_count d n)
raised_closed tokens opened d (repetition g) c = raised_closed tokens opened d g c

pub spelled_out_closed : (tokens opened : ℕ) (e : Expression) → Closed tokens opened e → Closed tokens opened (spelled_out e)
spelled_out_closed tokens opened epsilon c = tt
spelled_out_closed tokens opened bottom c = tt
spelled_out_closed tokens opened (token k) c = c
spelled_out_closed tokens opened (sequence g h) c = (spelled_out_closed tokens opened g c.0, spelled_out_closed tokens opened h c.1)
spelled_out_closed tokens opened (alternative g h) c = (spelled_out_closed tokens opened g c.0, spelled_out_closed tokens opened h c.1)
spelled_out_closed tokens opened (fixed_point g) c = spelled_out_closed tokens (suc opened) g c
spelled_out_closed tokens opened (variable n) c = c
spelled_out_closed tokens opened (repetition g) c =
    (tt, (raised_closed tokens opened zero (spelled_out g) (spelled_out_closed tokens opened g c), omega arith))

-- One more open fixed point changes nothing for a raised expression.
raised_type : {x : LanguageType} {d : ℕ} {l m : List LanguageType} → PutIn x d l m → (n : ℕ)
    → get_or l n bottom_type ≡ get_or m (raise_count d n) bottom_type
raised_type in_front n = refl
raised_type (further_in s) zero = refl
raised_type (further_in s) (suc n) = raised_type s n

raised_some : (g : Expression) {x : LanguageType} {d : ℕ} {l m : List LanguageType} → PutIn x d l m → (c : LanguageType)
    → SomeSolution g l c ≡ SomeSolution (raise d g) m c
raised_some epsilon s c = refl
raised_some bottom s c = refl
raised_some (token k) s c = refl
raised_some (sequence g h) s c = λ i. FromBoth sequence_type (λ a. raised_some g s a i) (λ b. raised_some h s b i) c
raised_some (alternative g h) s c = λ i. FromBoth alternative_type (λ a. raised_some g s a i) (λ b. raised_some h s b i) c
raised_some (fixed_point g) s c = raised_some g (further_in s) c
raised_some (variable n) s c = λ i. c ≡ raised_type s n i
raised_some (repetition g) s c = λ i. (a : LanguageType) × raised_some g s a i × (c ≡ repetition_type a c)

-- The repetition's own equation, and those of its form.
pub repetition_some : (g : Expression) (l : List LanguageType) (c : LanguageType)
    → SomeSolution (repetition g) l c ↔ SomeSolution (repetition_form g) l c
unfolding repetition_type_with
repetition_some g l c = (
  λ s. (epsilon_type, sequence_type s.0 c, refl, (s.0, c, transport (raised_some g in_front s.0) s.1, refl, refl), s.2),
  λ s. (
    s.3.0,
    transport (sym (raised_some g in_front s.3.0)) s.3.2,
    s.4 ∙ ap₂ alternative_type s.2 (s.3.4 ∙ ap (sequence_type s.3.0) s.3.3),
  ),
)

-- At every depth at once.
both_iff : (f : LanguageType → LanguageType → LanguageType) {X X' Y Y' : LanguageType → Type 0} → ((a : LanguageType) → X a ↔ X' a)
    → ((b : LanguageType) → Y b ↔ Y' b) → (c : LanguageType) → FromBoth f X Y c ↔ FromBoth f X' Y' c
both_iff f x y c = (
  λ s. (s.0, s.1, (x s.0).0 s.2, (y s.1).0 s.3, s.4),
  λ s. (s.0, s.1, (x s.0).1 s.2, (y s.1).1 s.3, s.4),
)

pub some-spelled_out : (e : Expression) (l : List LanguageType) (c : LanguageType) → SomeSolution e l c ↔ SomeSolution (spelled_out e) l c
some-spelled_out epsilon l c = Iff.rfl
some-spelled_out bottom l c = Iff.rfl
some-spelled_out (token k) l c = Iff.rfl
some-spelled_out (sequence g h) l c = both_iff sequence_type (some-spelled_out g l) (some-spelled_out h l) c
some-spelled_out (alternative g h) l c = both_iff alternative_type (some-spelled_out g l) (some-spelled_out h l) c
some-spelled_out (fixed_point g) l c = some-spelled_out g (c ∷ l) c
some-spelled_out (variable n) l c = Iff.rfl
some-spelled_out (repetition g) l c =
    let form = repetition_some (spelled_out g) l c in (
      λ s. form.0 (s.0, (some-spelled_out g l s.0).0 s.1, s.2),
      λ s. let r = form.1 s in (r.0, (some-spelled_out g l r.0).1 r.1, r.2),
    )

-- Of a closed expression, typed or not.
module _ (tokens : ℕ) (within : tokens ≤ most_tokens) (e : Expression) (closed : Closed tokens 0 e) where
  abbrev form_closed : Closed tokens 0 (spelled_out e)
  form_closed = spelled_out_closed tokens 0 e closed

  pub spelled_out-least_type : type_of (least_types e) 0 ≡ type_of (least_types (spelled_out e)) 0
  spelled_out-least_type = ⊑_antisym
      (least_type_least tokens within e closed _ ((some-spelled_out e [] _).1 (least_type_some tokens within (spelled_out e) form_closed)))
      (least_type_least tokens within (spelled_out e) form_closed _ ((some-spelled_out e [] _).0 (least_type_some tokens within e closed)))

  pub spelled_out_faultless : (type_fault e ≡ none) ↔ (type_fault (spelled_out e) ≡ none)
  spelled_out_faultless = Iff.trans (typed_iff tokens within e closed)
      (Iff.trans (spelled_out_has_type e) (Iff.symm (typed_iff tokens within (spelled_out e) form_closed)))
