-- `node_linker::link_nodes` meets its contract. The loop's invariant: the pass has come to
-- the present node, for whatever expression the columns hold.
use Prim.Native.Nat.{◌≤◌}
use Rattle.node_linker.proofs.Turn.{walk}
use Rattle.node_linker.proofs.Ends.{WalkingFor}
use Rattle.node_linker.proofs.link_nodes.Given as goal

abbrev pub invariant-loop-i : goal.invariant-loop-i
invariant-loop-i l =
    (l.nodes.count ≤ 64) × WalkingFor l.nodes l.i (walk l.link l.guarded l.owner l.stack l.height)
