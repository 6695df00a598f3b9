-- `production_finder::walk` meets its contract. The loop's invariant: the walk goes on from the present node as the whole walk
-- does. One law for each way through a step.
use Prim.Native.Nat.{◌-◌}
use Rattle.production_finder.proofs.Walking.{Walking}
use Rattle.production_finder.proofs.walk.Given as goal

abbrev pub invariant-loop : goal.invariant-loop
invariant-loop l = Walking l.columns.tag.now l.columns.link.now l.columns.first.now l.node l.token l.w l.at (64 - l.counter)
