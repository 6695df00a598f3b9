-- `scanner::lowest_rule` meets its contract.
use mathlib.Core.Path.{sym, ap}
use mathlib.Core.Option.{some}
use Prim.Native.Nat.{ℕ, ◌%◌}
use native.Mathlib.Omega.{arith}
use lib.Seq.{get_or-drop}
use Rattle.lexer.proofs.laws.SetWalkLaws.{members-zero, first_member-below}
use Rattle.scanner.specs.Meaning.{rule_of}
use Rattle.scanner.specs.Sets.{first_entry}
use Rattle.scanner.proofs.lowest_rule.Goals as goal

pub returns-then-ending-eq0 : goal.returns-then-ending-eq0
unfolding rule_of first_entry
returns-then-ending-eq0 c = rw (c.if-ending-eq0.true, members-zero)

pub overflow_add-word : goal.overflow_add-word
overflow_add-word c = omega (arith, first_member-below _ _ _ c.lowest_first-step.ensures)

pub offset_bounds-tables-i : goal.offset_bounds-tables-i
offset_bounds-tables-i c = omega (arith, first_member-below _ _ _ c.lowest_first-step.ensures)

pub bounds-tables-i : goal.bounds-tables-i
bounds-tables-i c = omega (arith, first_member-below _ _ _ c.lowest_first-step.ensures)

pub returns : goal.returns
unfolding rule_of first_entry
returns c =
    rw c.lowest_first-step.ensures
    (ap (λ (x : ℕ). some (x % 256)) (sym (get_or-drop 320 c.args.tables.now c.lowest_first-step.result.position 0)))
