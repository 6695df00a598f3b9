-- Truth values: in and out of "and", "or" and "not", for tests held as `T b` and as equations with true; and the test whether two are
-- equal.
use Rattle.std.specs.Prelude.{◌≡◌, refl, Bool, true, false, not, ◌&&◌, ◌||◌, ◌⊎◌, T}
use Rattle.std.proofs.Common.{sym, subst, inl, inr}
use Rattle.std.specs.Bool.{beq}
use Rattle.std.proofs.lemmas.Bool.{false≢true}

pub or_left : (a b : Bool) → T a → T (a || b)
or_left true b t = tt
or_left false b t = elim t [ ]

pub or_right : (a b : Bool) → T b → T (a || b)
or_right true b t = tt
or_right false b t = t

pub or-cases : (a b : Bool) → T (a || b) → T a ⊎ T b
or-cases true b t = inl tt
or-cases false b t = inr t

pub and_both : (a b : Bool) → T a → T b → T (a && b)
and_both true b s t = t
and_both false b s t = elim s [ ]

pub and-first : (a b : Bool) → T (a && b) → T a
and-first true b t = tt
and-first false b t = elim t [ ]

pub and-second : (a b : Bool) → T (a && b) → T b
and-second true b t = t
and-second false b t = elim t [ ]

pub not_holds : (a : Bool) → T (not a) → T a → ⊥
not_holds false s t = t
not_holds true s t = elim s [ ]

pub holds_true : (a : Bool) → T a → a ≡ true
holds_true true t = refl
holds_true false t = elim t [ ]

pub true_holds : (a : Bool) → a ≡ true → T a
true_holds a e = subst T (sym e) tt

pub and-true-first : (a b : Bool) → (a && b) ≡ true → a ≡ true
and-true-first true b e = refl
and-true-first false b e = e

pub and-true-second : (a b : Bool) → (a && b) ≡ true → b ≡ true
and-true-second true b e = e
and-true-second false b e = absurd (false≢true e)

pub or-true_left : (a b : Bool) → a ≡ true → (a || b) ≡ true
or-true_left true b e = refl
or-true_left false b e = absurd (false≢true e)

pub or-true_right : (a b : Bool) → b ≡ true → (a || b) ≡ true
or-true_right true b e = refl
or-true_right false b e = e

pub beq_equal : (a b : Bool) → beq a b ≡ true → a ≡ b
beq_equal true true e = refl
beq_equal true false e = sym e
beq_equal false true e = e
beq_equal false false e = refl

pub beq_self : (a : Bool) → beq a a ≡ true
beq_self true = refl
beq_self false = refl
