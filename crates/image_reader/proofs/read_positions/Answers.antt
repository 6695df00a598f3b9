use Rattle.std.proofs.Common.{rules, ◌≡◌, Err}
use native.Mathlib.Omega.{arith}
use mathlib.Core.Path.{ap, subst, ◌∙◌}
use mathlib.Core.List.{[]}
use Prim.Native.Nat.{ℕ, ◌<◌}
use lib.Dec.{eqb}
use Rattle.basics.proofs.laws.BitLaws.{shl_one}
use Rattle.sheet.specs.Field.{got}
use Rattle.lexer.specs.Positions.{Position}
use Rattle.class_table.proofs.laws.JoiningLaws.{holds_more}
use Rattle.image_reader.specs.Tables.{PositionsHeld}
use Rattle.image_reader.proofs.Positions.{positions-none, positions-more}
use Rattle.image_reader.proofs.Turns.{turns_start, turns_more, turns_stop, turns_end}
use Rattle.image_reader.proofs.read_positions.Goals as goal

pub loop-i-init : goal.loop-i-init
loop-i-init c = let p = c.requires in (p.3, ([], turns_start _ _ _ _ _, positions-none _ _ p.4))

pub returns-in_err-position : goal.returns-in_err-position
returns-in_err-position c =
    let up : c.from_residual.result ≡ Err c.in_err-position.field-0.0 = search rules in
    let l = c.loop-i.invariant in
    rw up (l.0, turns_stop l.1.1 (omega arith) c.in_err-position.ensures)

pub loop-i-preserved : goal.loop-i-preserved
loop-i-preserved c =
    let l = c.loop-i.invariant.1 in
    let s = l.2 in
    let position = c.in_ok-position.position in
    let one = c.in_ok-position.ensures in
    let held = c.hold_position.ensures in
    let few : c.loop-i.i < 64 = omega arith in
    let more = holds_more l.0 _ _ _ (eqb position.last 1) _ _ _ _ _ (search rules) s.size few (shl_one _ few) held s.held in (
      held.size,
      (
        _,
        turns_more l.1 (omega arith) (one.reads ∙ ap (λ (p : Position). got p position.follow.at) one.holds.values),
        positions-more _ _ _ _ _ _ l.0 _ more c.with_flag-last_ones.ensures one.holds.below one.holds.ordered s,
      ),
    )

pub returns : goal.returns
returns c =
    let l = c.loop-i.invariant in
    let whole : c.loop-i.i ≡ c.args.size.value = omega arith in (
      l.0,
      record {
        what = l.1.0;
        reads = turns_end l.1.1 (omega arith);
        holds = subst (λ (k : ℕ). PositionsHeld c.args.rules k c.loop-i.last_ones c.loop-i.tables l.1.0) whole l.1.2;
      },
    )
