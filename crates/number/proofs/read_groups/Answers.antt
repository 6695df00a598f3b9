use borrow.Author.Rules.{rules}
use native.Mathlib.Omega.{arith}
use mathlib.Core.Path.{refl, sym, ◌∙◌}
use Rattle.number.proofs.Reading.{scale_more, scale_fits, value-more, value_fits}
use Rattle.number.proofs.Reading.{decode-after, turn_end, turn-last, turn-more, turn_ten}
use Rattle.number.proofs.read_groups.Goals as goal

pub loop-byte-init : goal.loop-byte-init
loop-byte-init c = (search rules, refl, search rules, decode-after _ _)

pub returns-in_err-get : goal.returns-in_err-get
returns-in_err-get c = c.from_residual.ensures ∙ sym (c.loop-byte.invariant.3 ∙ turn_end _ _ _ _ _ c.in_err-get.ensures.lookup.3)

pub with_last-requires : goal.with_last-requires
with_last-requires c = let v = c.loop-byte.invariant in
    (v.0, omega (arith, v.2))

pub returns-then-byte-lt128 : goal.returns-then-byte-lt128
returns-then-byte-lt128 c =
    let there = c.in_ok-get.ensures.lookup.3 in
    c.with_last.ensures ∙ sym (c.loop-byte.invariant.3 ∙ turn-last _ _ _ _ _ there.0 (c.from-byte.ensures ∙ there.1 0) (search rules))

pub returns-then-count-eq9 : goal.returns-then-count-eq9
returns-then-count-eq9 c =
    let there = c.in_ok-get.ensures.lookup.3 in
    sym (c.loop-byte.invariant.3 ∙ turn_ten _ _ _ _ _ there.0 (c.from-byte.ensures ∙ there.1 0) (search rules) c.if-count-eq9.true)

pub overflow_mul-value : goal.overflow_mul-value
overflow_mul-value c = omega (arith, value_fits _ c.from-byte.result _ c.loop-byte.invariant.2 c.loop-byte.invariant.1 (omega arith))

pub overflow_add-value : goal.overflow_add-value
overflow_add-value c = omega (arith, value_fits _ c.from-byte.result _ c.loop-byte.invariant.2 c.loop-byte.invariant.1 (omega arith))

pub overflow_mul-scale : goal.overflow_mul-scale
overflow_mul-scale c = omega (arith, scale_fits _ c.loop-byte.invariant.1 (omega arith))

pub overflow_add-count : goal.overflow_add-count
overflow_add-count c = omega arith

pub overflow_add-i : goal.overflow_add-i
overflow_add-i c = omega (arith, c.in_ok-get.ensures.lookup.3.0)

pub loop-byte-smaller : goal.loop-byte-smaller
loop-byte-smaller c = omega arith

pub loop-byte-preserved : goal.loop-byte-preserved
loop-byte-preserved c = let there = c.in_ok-get.ensures.lookup.3 in (
  omega arith,
  scale_more _ c.loop-byte.invariant.1,
  value-more _ _ c.loop-byte.invariant.2,
  c.loop-byte.invariant.3 ∙ turn-more _ _ _ _ _ there.0 (c.from-byte.ensures ∙ there.1 0) (search rules),
)
