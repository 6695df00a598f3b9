-- `number::with_last` meets its contract: below 2^64 or refused; the test for the fewest bytes goes into the answer.
use borrow.Author.Rules.{rules}
use mathlib.Core.Path.{sym, ap, ◌∙◌}
use mathlib.Core.Bool.{Bool}
use native.Mathlib.Omega.{arith}
use Prim.Native.Nat.{◌+◌, ◌*◌, ◌^◌, ◌<◌}
use Rattle.number.proofs.laws.Groups.{judged-read}
use Rattle.number.specs.Number.{read}
use Rattle.number.proofs.Reading.{judged_over, last_over, last_fits}
use Rattle.number.proofs.with_last.Goals as goal
use Rattle.number.proofs.with_last.Goals.{Else-value-scale}

-- The value with the last group fits.
fits : (c : Else-value-scale) → let z = c.before in z.args.value + z.args.last * z.args.scale < 2 ^ 64
fits c = let z = c.before in last_fits z.args.value z.args.scale z.args.last z.requires.1 (search rules) c.if-value-scale.false

pub overflow_sub-value : goal.overflow_sub-value
overflow_sub-value c = search rules

pub nonzero_div-value : goal.nonzero_div-value
nonzero_div-value c = search rules

pub returns-then-value-scale : goal.returns-then-value-scale
returns-then-value-scale c = let z = c.before in
    sym (judged_over _ _ _ (last_over z.args.value z.args.scale z.args.last z.requires.1 (search rules) c.if-value-scale.true))

pub overflow_add-used : goal.overflow_add-used
overflow_add-used c = search rules

pub is_fewest-fewest-requires : goal.is_fewest-fewest-requires
is_fewest-fewest-requires c = search rules

pub overflow_mul-result : goal.overflow_mul-result
overflow_mul-result c = omega (arith, fits c.before)

pub overflow_add-result : goal.overflow_add-result
overflow_add-result c = omega (arith, fits c.before)

pub returns : goal.returns
returns c = let z = c.before.before in
    let v = z.args.value + z.args.last * z.args.scale in
    ap (λ (b : Bool). read v (z.args.earlier + 1) b) c.is_fewest-fewest.ensures
    ∙ sym (judged-read (z.args.earlier + 1) z.args.last v (omega (arith, z.requires.0)) (fits c.before))
