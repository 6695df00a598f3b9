use native.Mathlib.Omega.{arith}
use Rattle.number.proofs.Writing.{left_all, left_more, left_width}
use Rattle.number.proofs.number_width.Goals as goal

pub loop-rest-init : goal.loop-rest-init
loop-rest-init c = left_all _ (omega arith)

pub overflow_add-i : goal.overflow_add-i
overflow_add-i c = omega arith

pub loop-rest-smaller : goal.loop-rest-smaller
loop-rest-smaller c = omega arith

pub loop-rest-preserved : goal.loop-rest-preserved
loop-rest-preserved c = left_more _ _ _ c.loop-rest.invariant c.loop-rest-test.true

pub overflow_add-result : goal.overflow_add-result
overflow_add-result c = omega arith

pub returns : goal.returns
returns c = left_width _ _ _ c.loop-rest.invariant c.loop-rest-test.false
