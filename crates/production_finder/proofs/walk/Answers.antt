-- `production_finder::walk` meets its contract, one law for each way through a step.
use native.Mathlib.Omega.{arith}
use mathlib.Core.Path.{sym, ◌∙◌}
use Prim.Native.Nat.{◌+◌, ◌-◌}
use Rattle.production_finder.proofs.Walking.{recounted, remembers, remembers_not, walking_right, walking_on}
use Rattle.production_finder.proofs.Walking.{ended-steps, ended_past, ended-here, ended-nowhere}
use Rattle.production_finder.proofs.walk.Goals as goal

pub returns-then-at-ge64-clause-same : goal.returns-then-at-ge64-clause-same
returns-then-at-ge64-clause-same c = let l = c.loop in
    ended_past (64 - (l.counter + 1)) (recounted (omega arith) l.invariant) c.if-at-ge64.true

pub returns-then-kind-lt3-clause-same : goal.returns-then-kind-lt3-clause-same
returns-then-kind-lt3-clause-same c = let l = c.loop in
    ended-here (64 - (l.counter + 1)) (recounted (omega arith) l.invariant) c.if-at-ge64.false c.if-kind-lt3.true

pub loop-preserved-then-kind : goal.loop-preserved-then-kind
loop-preserved-then-kind c = let l = c.loop in
    walking_right _ (recounted (omega arith) l.invariant) c.if-at-ge64.false (remembers _ c.if-kind.true)

pub returns-in_default-clause-same : goal.returns-in_default-clause-same
returns-in_default-clause-same c = let l = c.loop in
    ended-nowhere (64 - (l.counter + 1)) (recounted (omega arith) l.invariant) c.if-at-ge64.false
    (λ h. omega arith) (remembers_not _ c.if-kind.false) (sym c.in_default.is ∙ c.next_node.ensures)

pub loop-preserved : goal.loop-preserved
loop-preserved c = let l = c.loop in
    walking_on _ (recounted (omega arith) l.invariant) c.if-at-ge64.false
    (λ h. omega arith) (remembers_not _ c.if-kind.false) _ (sym c.in-Some.is ∙ c.next_node.ensures)

pub returns-clause-same : goal.returns-clause-same
returns-clause-same c = ended-steps (recounted (omega arith) c.loop.invariant)
