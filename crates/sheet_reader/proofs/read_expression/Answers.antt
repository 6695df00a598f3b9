use native.Mathlib.Omega.{arith}
use mathlib.Core.Path.{◌≡◌, refl, sym, ◌∙◌}
use Rattle.sheet_reader.specs.Put.{pending}
use Rattle.sheet_reader.proofs.Told.{passed_on}
use Rattle.sheet_reader.proofs.Leading.{leads_start, leads_next, leads_stop, leads_end}
use Rattle.sheet_reader.proofs.ExpressionTurns.{start_fits, node_from, nodes-whole, nodes_stop, nodes_end}
use Rattle.sheet_reader.proofs.ExpressionTurns.{node_unread, turn_room, node_again, parts-room}
use Rattle.sheet_reader.proofs.read_expression.Goals as goal

pub loop-due-init : goal.loop-due-init
loop-due-init c =
    let none = c.no_nodes-nodes in
    let whole = nodes-whole c.args.sheet.now c.args.tokens none.result _ c.args.at none.ensures refl in
    (c.requires.0, start_fits none.ensures refl, leads_start whole none.ensures)

pub bounds-opened-due : goal.bounds-opened-due
bounds-opened-due c = omega (arith, c.loop-due.invariant.1.due, c.loop-due.invariant.1.nodes)

pub returns-in_err-turn : goal.returns-in_err-turn
returns-in_err-turn c =
    let l = c.loop-due in
    let node = node_from c.args.sheet.now c.args.tokens l.nodes (pending l.due l.opened) l.place in
    let e = node_unread node (sym c.expression_turn.ensures ∙ c.in_err-turn.was) in
    let stops = nodes_stop c.args.sheet.now _ l.nodes (pending l.due l.opened) l.place c.loop-due-test.true e in
    leads_stop l.invariant.2 stops (passed_on _ c.from_residual.ensures.1)

pub bounds-nodes-count : goal.bounds-nodes-count
bounds-nodes-count c = turn_room _ _ _ _ c.expression_turn.ensures c.in_ok-turn.was

pub bounds-nodes-count-in-loop-due : goal.bounds-nodes-count-in-loop-due
bounds-nodes-count-in-loop-due c = turn_room _ _ _ _ c.expression_turn.ensures c.in_ok-turn.was

pub bounds-nodes-count-in-loop-due-2 : goal.bounds-nodes-count-in-loop-due-2
bounds-nodes-count-in-loop-due-2 c = turn_room _ _ _ _ c.expression_turn.ensures c.in_ok-turn.was

pub put_parts-due-requires : goal.put_parts-due-requires
put_parts-due-requires c =
    let l = c.loop-due in
    parts-room l.nodes (pending l.due l.opened) (turn_room _ _ _ _ c.expression_turn.ensures c.in_ok-turn.was) c.loop-due-test.true l.invariant.1

pub loop-due-smaller : goal.loop-due-smaller
loop-due-smaller c = omega (arith, turn_room _ _ _ _ c.expression_turn.ensures c.in_ok-turn.was)

pub loop-due-preserved : goal.loop-due-preserved
loop-due-preserved c =
    let l = c.loop-due in
    let told = sym c.expression_turn.ensures ∙ c.in_ok-turn.was in
    let a = node_again c.args.sheet.now _ l.nodes (pending l.due l.opened) l.place told c.loop-due-test.true l.invariant.1 c.put_parts-due.ensures in
    (a.inside, a.fits, leads_next l.invariant.2 a.rest a.put)

pub returns : goal.returns
returns c =
    let l = c.loop-due in
    let none : l.due ≡ 0 = omega (arith, c.loop-due-test.false) in
    let e = nodes_end c.args.sheet.now c.args.tokens l.nodes (pending l.due l.opened) l.place none in
    leads_end l.invariant.2 e l.invariant.0
