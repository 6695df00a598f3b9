-- `run_rest` meets its contract: the marks hold what finding matches ahead from the state's place relies on, and no block is held yet.
use Prim.Native.Nat.{ℕ, ◌/◌}
use mathlib.Core.List.{List}
use native.Mathlib.Omega.{arith}
use Rattle.lexer.specs.Positions.{Position}
use Rattle.alive_scanner.specs.Blocks.{AliveReady, AliveHeld, MarksHold}
use Rattle.machine_loop.proofs.run_rest.Goals as goal

-- What finding matches ahead relies on, where the marks hold from the place's block on.
held_from : {ps : List Position} {last : ℕ} {tables unions text marks : List ℕ} (place : ℕ) (block : List ℕ)
    → AliveReady ps last tables unions → MarksHold ps text (place / 1024) marks
    → AliveHeld ps last tables unions text (place / 1024) marks place 0 block
held_from place block ready marked = record {
  ready = ready;
  marked = marked;
  from_mark = omega arith;
  held = λ q l m. absurd (omega (arith, m));
}

pub run_ahead-requires : goal.run_ahead-requires
run_ahead-requires c =
    let w = c.requires.1 in
    let ready : AliveReady w.0.positions _ _ _ =
    record { prepared = w.2.decoded.positions w.2.in_range.never_falling; unions_held = c.fill_unions.ensures } in
    (c.requires.0, c.mark_blocks.ensures.1, (w.0, w.1, _, w.2, w.3, held_from _ _ ready (c.mark_blocks.ensures.2 w.0.positions ready)))

pub returns : goal.returns
returns c =
    λ i whole w g.
    let ready : AliveReady i.positions _ _ _ =
    record { prepared = w.decoded.positions w.in_range.never_falling; unions_held = c.fill_unions.ensures } in
    c.run_ahead.ensures i whole _ w g (held_from _ _ ready (c.mark_blocks.ensures.2 i.positions ready))
