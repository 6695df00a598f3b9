-- `rule_sorter::append_kind` meets its contract. The invariant: for all rules that the columns may hold, the first k are done.
use mathlib.Core.List.{List}
use Prim.Native.Nat.{ℕ}
use Rattle.sheet.specs.Sheet.{Rule}
use Rattle.columns.specs.Holds.{RulesOf}
use Rattle.rule_sorter.specs.Kinds.{kind_before}
use Rattle.rule_sorter.proofs.Rules.{Sorting}
use Rattle.rule_sorter.proofs.append_kind.Given as goal

abbrev pub invariant-loop-k : goal.invariant-loop-k
invariant-loop-k l =
    (held : List Rule) (places moved : List ℕ) → RulesOf l.rules held places → RulesOf l.sorted (kind_before l.words held) moved
    → Sorting l.rules (record {
      count = l.count;
      action = l.action;
      place = l.sorted.place;
      items = l.items;
      tag = l.tag;
      classes = l.classes;
      low = l.low;
      high = l.high;
    }) l.item l.class l.words held l.k
