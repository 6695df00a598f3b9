use mathlib.Core.Path.{◌≡◌, sym, subst}
use mathlib.Core.List.{List}
use Prim.Native.Nat.{ℕ, ◌+◌, ◌<◌, ◌≤◌}
use native.Mathlib.Omega.{arith}
use lib.ListN.{get_or}
use Rattle.columns.specs.declared.NodeColumns.{NodeColumns}
use Rattle.node_linker.specs.declared.Due.{Due}
use Rattle.node_linker.specs.declared.NodeParts.{NodeParts}
use Rattle.node_linker.specs.Walking.{links_after, owners_after, guarded_after, parts_due}
use Rattle.node_linker.proofs.Turn.{Walk, walk, first_walk, walk_step, next_due, Called, turned_leaf, turned_one, turned_two}
use Rattle.node_linker.proofs.Ends.{WalkingFor, walking_first, can_walk, walk_on, walk-ended, walking_last}
use Rattle.node_linker.proofs.link_nodes.Goals as goal
use Rattle.node_linker.proofs.link_nodes.Goals.{in-Leaf, in-One, in-Two}

-- What the turn's three calls have stored and answered leads to the next node.
goes_on : (n : NodeColumns) (i : ℕ) (w r : Walk) (link : List ℕ) (guarded : ℕ) (owner : List ℕ) (parts : NodeParts)
    → (n.count ≤ 64) × WalkingFor n i w
    → i < n.count
    → link ≡ links_after (get_or n.tag i 0) (get_or n.number i 0) i (next_due w) w.owner w.link
    → guarded ≡ guarded_after (get_or n.tag i 0) (get_or n.number i 0) i (next_due w) w.guarded
    → owner ≡ owners_after (get_or n.tag i 0) i (next_due w) w.owner
    → parts ≡ parts_due (get_or n.tag i 0) i (next_due w)
    → (Called (get_or n.tag i 0) (get_or n.number i 0) i w link guarded owner parts
    → r ≡ walk_step (get_or n.tag i 0) (get_or n.number i 0) i w)
    → (n.count ≤ 64) × WalkingFor n (i + 1) r
goes_on n i w r link guarded owner parts h l link_is guarded_is owner_is parts_is turned =
    let next = turned (record { link_is = link_is; guarded_is = guarded_is; owner_is = owner_is; parts_is = parts_is }) in
    (h.0, walk_on n w r i h.1 l next)

pub loop-i-init : goal.loop-i-init
loop-i-init c =
    let n = c.args.nodes in (
      c.requires.held.nodes_fit,
      subst (λ (d : Due). WalkingFor n 0 (first_walk d)) (sym c.still_due-whole.ensures) (walking_first n),
    )

pub overflow_sub-top : goal.overflow_sub-top
overflow_sub-top c =
    let l = c.loop-i in
    let can = can_walk c.args.nodes (walk l.link l.guarded l.owner l.stack l.height) l.i l.invariant.1 c.requires c.loop-i-test.true in
    can.some_due

pub put_links-requires : goal.put_links-requires
put_links-requires c =
    let l = c.loop-i in
    let can = can_walk c.args.nodes (walk l.link l.guarded l.owner l.stack l.height) l.i l.invariant.1 c.requires c.loop-i-test.true in
    can.can_link

pub with_guarded-guarded-requires : goal.with_guarded-guarded-requires
with_guarded-guarded-requires c =
    let l = c.loop-i in
    let can = can_walk c.args.nodes (walk l.link l.guarded l.owner l.stack l.height) l.i l.invariant.1 c.requires c.loop-i-test.true in
    can.can_link

pub parts_due-requires : goal.parts_due-requires
parts_due-requires c =
    let l = c.loop-i in
    let can = can_walk c.args.nodes (walk l.link l.guarded l.owner l.stack l.height) l.i l.invariant.1 c.requires c.loop-i-test.true in
    (can.can_link.node_fits, can.can_link.depth_fits)

pub bounds-stack-height : goal.bounds-stack-height
bounds-stack-height c =
    let l = c.loop-i in
    let can = can_walk c.args.nodes (walk l.link l.guarded l.owner l.stack l.height) l.i l.invariant.1 c.requires c.loop-i-test.true in
    can.room

pub loop-i-preserved : goal.loop-i-preserved
loop-i-preserved c =
    let l = c.loop-i in
    let w = walk l.link l.guarded l.owner l.stack l.height in
    let can = can_walk c.args.nodes w l.i l.invariant.1 c.requires c.loop-i-test.true in
    goes_on c.args.nodes l.i w _ _ _ _ _ l.invariant c.loop-i-test.true
    c.put_links.ensures.link_after c.with_guarded-guarded.ensures c.put_links.ensures.owner_after c.parts_due.ensures
    (λ called. elim c.match-parts_due.branch [
      | in-Leaf b ↦ rw (b.stack-is, b.height-is) (turned_leaf called b.in-Leaf.is)
      | in-One b ↦ rw (b.stack-is, b.height-is) (turned_one called can.some_due b.in-One.is)
      | in-Two b ↦ rw (b.stack-is, b.height-is) (turned_two called can.some_due b.in-Two.is)
    ])

pub returns : goal.returns
returns c =
    let l = c.loop-i in
    let w = walk l.link l.guarded l.owner l.stack l.height in
    walking_last c.args.nodes w (walk-ended c.args.nodes w l.i l.invariant.1 (omega arith)) c.requires
