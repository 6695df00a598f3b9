-- A spelled_out expression has the published forms alone, so that a derivation for it uses Figure 2's own rules; and one that has them
-- already is its own spelled_out form.
use Rattle.std.specs.Prelude.{◌≡◌, refl, ℕ, zero, suc}
use Rattle.std.proofs.Common.{ap, ap₂}
use Rattle.sheet.specs.Expression.{Expression, epsilon, bottom, token, sequence, alternative, fixed_point, variable, repetition}
use Rattle.types.specs.SpelledOut.{raise, spelled_out, Published}

raised_published : (depth : ℕ) (g : Expression) → Published g → Published (raise depth g)
raised_published depth epsilon h = tt
raised_published depth bottom h = tt
raised_published depth (token k) h = tt
raised_published depth (sequence g k) h = (raised_published depth g h.0, raised_published depth k h.1)
raised_published depth (alternative g k) h = (raised_published depth g h.0, raised_published depth k h.1)
raised_published depth (fixed_point g) h = raised_published (suc depth) g h
raised_published depth (variable n) h = tt
raised_published depth (repetition g) h = absurd h

pub spelled_out_published : (e : Expression) → Published (spelled_out e)
spelled_out_published epsilon = tt
spelled_out_published bottom = tt
spelled_out_published (token k) = tt
spelled_out_published (sequence g h) = (spelled_out_published g, spelled_out_published h)
spelled_out_published (alternative g h) = (spelled_out_published g, spelled_out_published h)
spelled_out_published (fixed_point g) = spelled_out_published g
spelled_out_published (variable n) = tt
spelled_out_published (repetition g) = (tt, (raised_published zero (spelled_out g) (spelled_out_published g), tt))

pub published_same : (e : Expression) → Published e → spelled_out e ≡ e
published_same epsilon h = refl
published_same bottom h = refl
published_same (token k) h = refl
published_same (sequence g k) h = ap₂ sequence (published_same g h.0) (published_same k h.1)
published_same (alternative g k) h = ap₂ alternative (published_same g h.0) (published_same k h.1)
published_same (fixed_point g) h = ap fixed_point (published_same g h)
published_same (variable n) h = refl
published_same (repetition g) h = absurd h
