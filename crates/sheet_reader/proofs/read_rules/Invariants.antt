-- `sheet_reader::read_rules` meets its contract. The loop's invariant says how far the rules are read: whatever answers
-- the rest, from the columns so far, answers the whole.
use Prim.Native.Nat.{◌+◌, ◌-◌}
use Rattle.sheet_reader.proofs.RulesLoop.{RulesSoFar, all_rules}
use Rattle.sheet_reader.proofs.read_rules.Given as goal

abbrev pub invariant-loop-out : goal.invariant-loop-out
invariant-loop-out l = RulesSoFar l.sheet l.tokens l.count (all_rules l.sheet l.tokens l.count l.at) l.place l.due l.out

abbrev pub decreases-loop-out : goal.decreases-loop-out
decreases-loop-out l = 288 - (l.out.items + l.out.count)
