-- `image_encoder::emit_productions` meets its contract. The loop's invariant: the productions of the rules before `rule` are
-- written and counted, and the nodes of their tails have joined.
use mathlib.Core.Path.{◌≡◌}
use mathlib.Core.List.{List}
use Prim.Native.Nat.{ℕ, ◌+◌, ◌*◌, ◌≤◌, ◌<◌}
use lib.ListN.{length}
use Rattle.basics.specs.Meeting.{meet_all}
use Rattle.sheet.specs.Expression.{Expression, size}
use Rattle.sheet.specs.Sheet.{Rule}
use Rattle.node_numbering.proofs.Reaching.{row_members}
use Rattle.node_numbering.specs.laws.Below.{concat_below}
use Rattle.node_numbering.specs.Grammar.{GrammarOf, Numbers, Within}
use Rattle.node_numbering.specs.Leads.{Leads}
use Rattle.image_encoder.proofs.Rows.{entries}
use Rattle.image_encoder.proofs.Rows.{rule_numbers}
use Rattle.image_encoder.specs.laws.Emitted.{Emitted}
use Rattle.image_encoder.proofs.emit_productions.Given as goal

abbrev pub invariant-loop-rule : goal.invariant-loop-rule
invariant-loop-rule l = record {
  near : l.next ≤ l.initial.next + 340 * l.rule;
  within : l.count ≤ l.rule;
  few : Within l.numbering;
  counted : (rs : List Rule) (e : Expression) → GrammarOf l.grammar rs e → l.node < size e
      → l.count ≡ length (concat_below (entries rs e l.node) l.rule);
  emitted : (rs : List Rule) (e : Expression) → GrammarOf l.grammar rs e → l.node < size e
      → (nodes all : List ℕ) → Numbers l.initial.numbering nodes
      → Leads nodes (concat_below (row_members rs e l.node) (length rs)) all
      → Numbers l.numbering (meet_all nodes (concat_below (row_members rs e l.node) l.rule))
      × Emitted l.initial.image l.image l.initial.next l.next (concat_below (rule_numbers all rs e l.node) l.rule);
}
