use native.Mathlib.Omega.{arith}
use Prim.Native.Nat.{◌<◌}
use Rattle.sheet.specs.Regex.{Regex}
use Rattle.sheet.specs.laws.RegexItems.{regex_items_of}
use Rattle.rule_sorter.specs.Ends.{ItemsAt}
use Rattle.rule_sorter.proofs.Ends.{Turn, class_below, due_start, due_turn, due_end}
use Rattle.rule_sorter.proofs.rule_end.Goals as goal
use Rattle.rule_sorter.proofs.rule_end.Goals.{In-loop-due}

-- What a turn finds, for a regex that stands there.
abbrev TurnAt : In-loop-due → Regex → Type 0
TurnAt c r =
    let l = c.loop-due in
    let z = c.args in
    Turn z.tag.now z.low.now z.high.now r z.item z.class l.word l.i l.c l.due

turn_at : (c : In-loop-due) (r : Regex) → let z = c.args in
    ItemsAt z.tag.now z.low.now z.high.now z.item z.class (regex_items_of r) → TurnAt c r
turn_at c r h =
    let some : 0 < c.loop-due.due = omega (arith, c.loop-due-test.true) in
    due_turn some (c.loop-due.invariant.2 r h)

-- The same for the regex that the caller knows of.
turn : (c : In-loop-due) → TurnAt c c.requires.1.0
turn c = turn_at c c.requires.1.0 c.requires.1.1

pub loop-due-init : goal.loop-due-init
loop-due-init c = (omega arith, c.requires.0, λ r h. due_start h)

pub bounds-tag-i : goal.bounds-tag-i
bounds-tag-i c = (turn c.before.before).below

pub word_item-word-requires : goal.word_item-word-requires
word_item-word-requires c = class_below (turn c.before.before.before) c.loop-due.invariant.1

pub overflow_add-c : goal.overflow_add-c
overflow_add-c c =
    let t = c.before.before.before.before in
    omega (arith, c.classes_of-c.ensures, (turn t.before).class_room t.loop-due.invariant.1)

pub overflow_add-due : goal.overflow_add-due
overflow_add-due c =
    let t = turn c.before.before.before.before.before.before in
    omega (arith, c.parts_of.ensures, t.parts_few, t.below)

pub overflow_add-i : goal.overflow_add-i
overflow_add-i c = omega (arith, (turn c.before.before.before.before.before.before).below)

pub loop-due-smaller : goal.loop-due-smaller
loop-due-smaller c = omega (arith, (turn c.before.before.before.before.before.before).below)

pub loop-due-preserved : goal.loop-due-preserved
loop-due-preserved c =
    let t = c.before.before.before.before.before in (
      omega (arith, c.parts_of.ensures, (turn t.before).parts_few),
      rw c.classes_of-c.ensures ((turn t.before).class_room t.loop-due.invariant.1),
      λ r h. rw (c.word_item-word.ensures, c.classes_of-c.ensures, c.parts_of.ensures) (turn_at t.before r h).after,
    )

pub returns : goal.returns
returns c = λ r h. due_end c.loop-due-test.false (c.loop-due.invariant.2 r h)
