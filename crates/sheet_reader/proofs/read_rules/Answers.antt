-- What each arm of the match tells: `turn_acts`, `class_goes` and `plain_goes`.
use native.Mathlib.Omega.{arith}
use Rattle.sheet_reader.proofs.Told.{passed_on}
use Rattle.sheet_reader.proofs.RulesLoop.{so_far-start, turn_over, turn_stops, turn_acts, class_goes, plain_goes}
use Rattle.sheet_reader.proofs.read_rules.Goals as goal

pub loop-out-init : goal.loop-out-init
loop-out-init c = so_far-start c.args.sheet.now _ _ _ c.requires.0 c.no_rules-out.ensures

pub overflow_sub-left : goal.overflow_sub-left
overflow_sub-left c = c.loop-out.invariant.rules_few

pub returns-in_err-rule_turn : goal.returns-in_err-rule_turn
returns-in_err-rule_turn c =
    let e = passed_on _ c.from_residual.ensures.1 in
    rw e record { answers = turn_stops c.loop-out.invariant c.rule_turn.ensures c.in_err-rule_turn.was; fits = tt }

pub returns-in-Over : goal.returns-in-Over
returns-in-Over c = record {
  answers = turn_over c.loop-out.invariant c.rule_turn.ensures c.in_ok-rule_turn.was c.in-Over.is;
  fits = c.loop-out.invariant.fits;
}

pub bounds-out-rules : goal.bounds-out-rules
bounds-out-rules c =
    omega (arith, (turn_acts c.loop-out.invariant c.rule_turn.ensures c.requires.3 c.in_ok-rule_turn.was c.in-Action.is).room)

pub bounds-out-rules-in-Action : goal.bounds-out-rules-in-Action
bounds-out-rules-in-Action c =
    omega (arith, (turn_acts c.loop-out.invariant c.rule_turn.ensures c.requires.3 c.in_ok-rule_turn.was c.in-Action.is).room)

pub loop-out-smaller-in-Action : goal.loop-out-smaller-in-Action
loop-out-smaller-in-Action c =
    omega (arith, (turn_acts c.loop-out.invariant c.rule_turn.ensures c.requires.3 c.in_ok-rule_turn.was c.in-Action.is).room, c.loop-out.invariant.fits.nodes)

pub loop-out-preserved-in-Action : goal.loop-out-preserved-in-Action
loop-out-preserved-in-Action c = (turn_acts c.loop-out.invariant c.rule_turn.ensures c.requires.3 c.in_ok-rule_turn.was c.in-Action.is).goes

pub bounds-out-items : goal.bounds-out-items
bounds-out-items c = (class_goes c.loop-out.invariant c.rule_turn.ensures c.in_ok-rule_turn.was c.in-Class.is).room

pub bounds-out-classes : goal.bounds-out-classes
bounds-out-classes c = omega (arith, (class_goes c.loop-out.invariant c.rule_turn.ensures c.in_ok-rule_turn.was c.in-Class.is).class_room)

pub bounds-out-classes-in-Class : goal.bounds-out-classes-in-Class
bounds-out-classes-in-Class c = omega (arith, (class_goes c.loop-out.invariant c.rule_turn.ensures c.in_ok-rule_turn.was c.in-Class.is).class_room)

pub overflow_sub-due : goal.overflow_sub-due
overflow_sub-due c = (class_goes c.loop-out.invariant c.rule_turn.ensures c.in_ok-rule_turn.was c.in-Class.is).some_due

pub loop-out-smaller-in-Class : goal.loop-out-smaller-in-Class
loop-out-smaller-in-Class c =
    omega (arith, (class_goes c.loop-out.invariant c.rule_turn.ensures c.in_ok-rule_turn.was c.in-Class.is).room, c.loop-out.invariant.fits.rules)

pub loop-out-preserved-in-Class : goal.loop-out-preserved-in-Class
loop-out-preserved-in-Class c = (class_goes c.loop-out.invariant c.rule_turn.ensures c.in_ok-rule_turn.was c.in-Class.is).goes

pub bounds-out-items-in-Plain : goal.bounds-out-items-in-Plain
bounds-out-items-in-Plain c = (plain_goes c.loop-out.invariant c.rule_turn.ensures c.in_ok-rule_turn.was c.in-Plain.is).room

pub overflow_sub-due-in-Plain : goal.overflow_sub-due-in-Plain
overflow_sub-due-in-Plain c = (plain_goes c.loop-out.invariant c.rule_turn.ensures c.in_ok-rule_turn.was c.in-Plain.is).some_due

pub overflow_add-due : goal.overflow_add-due
overflow_add-due c =
    omega (
      arith,
      (plain_goes c.loop-out.invariant c.rule_turn.ensures c.in_ok-rule_turn.was c.in-Plain.is).due_most,
      c.loop-out.invariant.due_few,
      c.loop-out.invariant.fits.nodes,
    )

pub loop-out-smaller : goal.loop-out-smaller
loop-out-smaller c =
    omega (arith, (plain_goes c.loop-out.invariant c.rule_turn.ensures c.in_ok-rule_turn.was c.in-Plain.is).room, c.loop-out.invariant.fits.rules)

pub loop-out-preserved : goal.loop-out-preserved
loop-out-preserved c = (plain_goes c.loop-out.invariant c.rule_turn.ensures c.in_ok-rule_turn.was c.in-Plain.is).goes
