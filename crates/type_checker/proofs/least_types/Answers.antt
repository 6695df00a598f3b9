use native.Mathlib.Omega.{arith}
use Prim.Native.Nat.{◌*◌, ◌%◌, ◌^◌}
use Rattle.basics.proofs.laws.BitLaws.{shl_one}
use Rattle.type_checker.proofs.Loops.{Turn, pending_first, last-inside, pending_next, pending_falls, pending_done}
use Rattle.type_checker.proofs.least_types.Goals as goal
use Rattle.type_checker.proofs.least_types.Goals.{After-only_if-again}

pub loop-left-init : goal.loop-left-init
loop-left-init c = pending_first c.args.links c.requires c.all_below-left.result c.all_below-left.ensures

pub raise-changed-requires-clause-i_bound : goal.raise-changed-requires-clause-i_bound
raise-changed-requires-clause-i_bound c =
    let l = c.loop-left in
    let place = c.last_member-i.ensures in
    last-inside c.args.links l.types l.left c.last_member-i.result l.invariant place.1 place.2

turn : (c : After-only_if-again) → Turn c.args.links c.dependents-sets.result c.loop-left.types c.raise-changed.new.types c.loop-left.left
    c.last_member-i.result c.raise-changed.result ((1 * 2 ^ c.last_member-i.result) % 2 ^ 64) c.only_if-again.result
turn c = record {
  deps = c.dependents-sets.ensures;
  pending = c.loop-left.invariant;
  low = c.last_member-i.ensures.1;
  high = c.last_member-i.ensures.2;
  raised = c.raise-changed.ensures.raised;
  changed_is = c.raise-changed.ensures.changed_value;
  own_is = shl_one c.last_member-i.result c.last_member-i.ensures.0;
  again_is = c.only_if-again.ensures;
}

pub loop-left-smaller : goal.loop-left-smaller
loop-left-smaller c = pending_falls c.args.links c.requires (turn c)

pub loop-left-preserved : goal.loop-left-preserved
loop-left-preserved c = pending_next c.args.links c.requires (turn c)

pub returns : goal.returns
returns c =
    let l = c.loop-left in
    pending_done c.args.links c.requires l.types l.left l.invariant (omega arith)
