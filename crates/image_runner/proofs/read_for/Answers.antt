-- `read_for` meets its contract: 12, 13, or a readable image.
use mathlib.Core.Path.{refl, sym, ap, subst, ◌∙◌}
use mathlib.Core.List.{List, []}
use Prim.Native.Nat.{ℕ}
use lib.ListN.{length, length-replicate}
use Rattle.image.proofs.laws.ReadableImages.{read-in_range}
use Rattle.class_table.specs.Holding.{Holding}
use Rattle.class_table.proofs.laws.HoldingLaws.{holding_none}
use Rattle.image_reader.specs.Tables.{Room}
use Rattle.image_reader.proofs.Whole.{room-whole}
use Rattle.machine.proofs.laws.RunsLaws.{run_long, run_stop, run_got}
use Rattle.machine_turn.specs.Steps.{answer_held}
use Rattle.image_runner.proofs.Laws.{left_alone}
use Rattle.image_runner.proofs.read_for.Goals as goal

pub returns-then-text-gt-MOST_TEXT_BYTES : goal.returns-then-text-gt-MOST_TEXT_BYTES
unfolding answer_held
returns-then-text-gt-MOST_TEXT_BYTES c =
    λ lent enough. left_alone _ _ lent 12 0 (run_long _ _ lent enough c.if-text-gt-MOST_TEXT_BYTES.true) c.answer.result (ap answer_held c.answer.ensures)

pub read_image-requires : goal.read_image-requires
read_image-requires c =
    let w = c.requires in (
      ap length w.0 ∙ length-replicate {A = ℕ} 448 0,
      subst (Holding []) (sym w.0) holding_none,
      subst (λ (l : List ℕ). Room l 0) (sym w.1) room-whole,
    )

pub returns-in-Ok : goal.returns-in-Ok
returns-in-Ok c =
    let within = c.if-text-gt-MOST_TEXT_BYTES.false in
    let readable = c.in-Ok.ensures.readable refl in record {
      image = readable.0;
      decoded = readable.2;
      in_range = (read-in_range _ (λ i. (c.type_inv.image i).fits) _ _ readable.1).0;
      within = within;
      runs = λ lent enough. run_got _ _ lent enough within readable.0 _ readable.1;
    }

pub returns-in-Err : goal.returns-in-Err
unfolding answer_held
returns-in-Err c =
    λ lent enough. left_alone _ _ lent 13 _ (run_stop _ _ lent enough c.if-text-gt-MOST_TEXT_BYTES.false 13 _ (c.in-Err.ensures.refusal refl))
    c.answer-in-Err.result (ap answer_held c.answer-in-Err.ensures)
