-- `image_encoder::emit` meets its contract: a number that was written tells its width, and any other is measured.
use mathlib.Core.Path.{sym, ap, ◌∙◌}
use Prim.Native.Nat.{ℕ, ◌+◌}
use native.Mathlib.Omega.{arith}
use Rattle.image_encoder.proofs.Writing.{used-width}
use Rattle.image_encoder.proofs.laws.Emitted.{emitted_one}
use Rattle.number.proofs.laws.Laws.{encode_ten}
use Rattle.image_encoder.proofs.emit.Goals as goal

pub overflow_add-result : goal.overflow_add-result
overflow_add-result c = omega (arith, used-width _ _ _ _ (sym c.write_number_at.ensures.0 ∙ c.in-Some.is), encode_ten c.args.n, c.requires)

pub returns-in-Some-clause-near : goal.returns-in-Some-clause-near
returns-in-Some-clause-near c = omega (arith, used-width _ _ _ _ (sym c.write_number_at.ensures.0 ∙ c.in-Some.is), encode_ten c.args.n)

pub returns-in-Some-clause-emitted : goal.returns-in-Some-clause-emitted
returns-in-Some-clause-emitted c = let w = c.write_number_at.ensures in
    emitted_one w.1 (ap (λ (k : ℕ). c.args.at + k) (used-width _ _ _ _ (sym w.0 ∙ c.in-Some.is)))

pub overflow_add-result-in-None : goal.overflow_add-result-in-None
overflow_add-result-in-None c = omega (arith, c.number_width.ensures, encode_ten c.args.n, c.requires)

pub returns-in-None-clause-near : goal.returns-in-None-clause-near
returns-in-None-clause-near c = omega (arith, c.number_width.ensures, encode_ten c.args.n)

pub returns-in-None-clause-emitted : goal.returns-in-None-clause-emitted
returns-in-None-clause-emitted c = emitted_one c.write_number_at.ensures.1 (ap (λ (k : ℕ). c.args.at + k) c.number_width.ensures)
