-- `image_encoder::emit_rows` meets its contract. The loop's invariant: the rows of the first i nodes met are written, and the rows
-- that are left lead to all nodes reached.
use mathlib.Core.List.{List}
use Prim.Native.Nat.{◌+◌, ◌*◌, ◌-◌, ◌≤◌}
use Rattle.sheet.specs.Expression.{Expression}
use Rattle.sheet.specs.Sheet.{Rule}
use Rattle.normal_form.specs.NormalForm.{normal_form}
use Rattle.image.specs.Fusion.{fused}
use Rattle.image.specs.Numbering.{reached}
use Rattle.node_numbering.proofs.Reaching.{Walked}
use Rattle.node_numbering.specs.laws.Below.{concat_below}
use Rattle.node_numbering.specs.Grammar.{GrammarOf, Within}
use Rattle.image_encoder.specs.laws.Emitted.{Emitted}
use Rattle.image_encoder.specs.Parts.{numbered_row_part}
use Rattle.image_encoder.proofs.emit_rows.Given as goal

abbrev pub invariant-loop-i : goal.invariant-loop-i
invariant-loop-i l = record {
  within : l.i ≤ 64;
  few : Within l.numbering;
  near : l.next ≤ l.initial.next + 10900 * l.i;
  walked : (rs : List Rule) (e : Expression) → GrammarOf l.grammar rs e → Walked rs e l.numbering l.i;
  emitted : (rs : List Rule) (e : Expression) → GrammarOf l.grammar rs e
      → Emitted l.initial.image l.image l.initial.next l.next (concat_below (numbered_row_part (reached (fused rs (normal_form e))) rs e) l.i);
}

abbrev pub decreases-loop-i : goal.decreases-loop-i
decreases-loop-i l = 64 - l.i
