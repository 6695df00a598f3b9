-- `image_encoder::emit_rows` meets its contract: a place for the count, the rows, and the count in its place.
use mathlib.Core.Path.{sym, subst}
use mathlib.Core.List.{[], ◌∷◌}
use native.Mathlib.Omega.{arith}
use Rattle.normal_form.specs.NormalForm.{normal_form}
use Rattle.image.specs.Fusion.{fused}
use Rattle.image.specs.Numbering.{reached}
use Rattle.node_numbering.proofs.Reaching.{walked_start, node_reached, next_node, row_leads, walked_next, walked_end}
use Rattle.node_numbering.proofs.laws.JoinLaws.{start-met, start_within}
use Rattle.node_numbering.specs.Grammar.{Numbers, Within}
use Rattle.node_numbering.specs.declared.Numbering.{Numbering}
use Rattle.image_encoder.proofs.Writing.{nothing_yet}
use Rattle.image_encoder.proofs.Rows.{row-more, rows_emitted}
use Rattle.image_encoder.proofs.emit_rows.Goals as goal

pub loop-i-init : goal.loop-i-init
loop-i-init c =
    let started = subst (λ (n : Numbering). Numbers n (0 ∷ [])) (sym c.start-numbering.ensures) start-met in record {
      within = omega arith;
      few = subst Within (sym c.start-numbering.ensures) start_within;
      near = omega arith;
      walked = λ rs e h. walked_start _ rs e h _ started;
      emitted = λ rs e h. nothing_yet _ _ _;
    }

pub emit_row-next-requires-clause-held : goal.emit_row-next-requires-clause-held
emit_row-next-requires-clause-held c =
    let p = c.requires.held in (
      p.0,
      p.1,
      p.2,
      next_node _ p.0 p.1 p.2 _ _ (c.loop-i.invariant.walked p.0 p.1 p.2) _ c.node_at-node.ensures c.loop-i-test.true,
    )

pub loop-i-preserved : goal.loop-i-preserved
loop-i-preserved c =
    let l = c.loop-i in
    let b = c.loop-i-test.true in
    let is = c.node_at-node.ensures in
    let x = c.emit_row-next in record {
      within = omega arith;
      few = x.ensures.few;
      near = omega arith;
      walked = λ rs e h.
          let w = l.invariant.walked rs e h in
          walked_next _ rs e h _ _ w _ _ is b (x.ensures.emitted rs e h (next_node _ rs e h _ _ w _ is b) w.met (reached (fused rs (normal_form e)))
          w.numbers (row_leads _ rs e h _ _ w _ is b)).0;
      emitted = λ rs e h.
          let w = l.invariant.walked rs e h in
          row-more _ rs e l.i _ (node_reached _ rs e h _ _ w _ is b) (l.invariant.emitted rs e h)
          (x.ensures.emitted rs e h (next_node _ rs e h _ _ w _ is b) w.met (reached (fused rs (normal_form e)))
          w.numbers (row_leads _ rs e h _ _ w _ is b)).1;
    }

pub returns-clause-emitted : goal.returns-clause-emitted
returns-clause-emitted c =
    let l = c.loop-i in
    λ rs e h. rows_emitted rs e l.i l.invariant.within (walked_end _ rs e h _ _ (l.invariant.walked rs e h) c.loop-i-test.false).1
    c.emit-next.ensures.emitted (l.invariant.emitted rs e h) c.emit.ensures.emitted
