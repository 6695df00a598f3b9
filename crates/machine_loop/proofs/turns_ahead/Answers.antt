-- `turns_ahead` meets its contract: the matches found ahead are those that the turns are made by, and what these leave is gone on from.
use mathlib.Core.Path.{sym, subst}
use mathlib.Core.List.{List}
use Prim.Native.Nat.{ℕ, ◌+◌, ◌≤◌, ◌<◌}
use native.Mathlib.Omega.{arith}
use lib.ListN.{take}
use lib.Seq.{length-take-le}
use Rattle.image.specs.Image.{Image}
use Rattle.machine.specs.Trace.{Ended}
use Rattle.alive_scanner.specs.Ahead.{Ahead}
use Rattle.alive_scanner.specs.Blocks.{HeldBefore}
use Rattle.machine_loop.specs.declared.Machine.{Machine}
use Rattle.machine_loop.specs.Prepared.{WithTables}
use Rattle.machine_loop.specs.Turning.{TurnsLead, turn_left, AheadLead}
use Rattle.machine_loop.specs.declared.Turns.{Turns}
use Rattle.machine_loop.specs.declared.Turns.TheVariants.{Done, Reached, InVain}
use Rattle.machine_loop.proofs.ByRows.{no_rows, without_rows, same_going, same_lead}
use Rattle.machine_loop.proofs.TurningLaws.{no_walk}
use Rattle.machine_loop.proofs.turns_ahead.Goals as goal

-- What the turns leave, as it is gone on from. The matches lead to where the turns end, so that no walk is in vain before.
gone_on : (i : Image) (m : Machine) (text : List ℕ) (place : ℕ) (words : List ℕ) (stop : ℕ) (whole : Ended) (stack block : List ℕ)
    (end : ℕ) → place < stop → end ≤ stop + 1024 → HeldBefore i.positions text end block → (turned : Turns)
    → TurnsLead i m text place words stop stop whole stack turned → AheadLead i m text place whole stack block end (turn_left turned)
gone_on i m text place words stop whole stack block end ps es h (Done a) l = l.0
gone_on i m text place words stop whole stack block end ps es h (Reached s) l = (l.0, omega (arith, ps, l.1), omega (arith, es, l.1), h)
gone_on i m text place words stop whole stack block end ps es h (InVain s n) l =
    absurd (no_walk i m text place words stop whole stack (InVain s n) l)

-- The matches that were found ahead are those of the image.
of_image : (i : Image) (m : Machine) (text : List ℕ) (stop place : ℕ) (words : List ℕ) → WithTables m i
    → Ahead i.positions m.read.first text stop place words → Ahead i.positions i.first text stop place words
of_image i m text stop place words w e = subst (λ (first : ℕ). Ahead i.positions first text stop place words) w.decoded.first e

pub slice_bounds-turns_from-end : goal.slice_bounds-turns_from-end
slice_bounds-turns_from-end c =
    let ahead = c.find_ahead-ahead in
    sym (length-take-le ahead.result.count ahead.new.words (omega (arith, ahead.ensures.0, ahead.ensures.5)))

pub turns_from-turned-requires : goal.turns_from-turned-requires
turns_from-turned-requires c =
    let ahead = c.find_ahead-ahead in
    let w = c.requires.5 in
    let m = c.args.machine.now in
    let e = c.without_rows-by_sets.ensures in (
      ahead.ensures.1,
      λ some. absurd (no_rows m _ e some),
      (
        w.0,
        w.1,
        ahead.result.stop,
        without_rows m _ e w.3,
        same_going m _ e w.0 _ w.1 w.4,
        of_image w.0 m _ _ _ _ w.3 (ahead.ensures.6 w.0.positions w.2 w.5).0,
      ),
    )

pub turn_left-requires : goal.turn_left-requires
turn_left-requires c =
    let a = c.args in
    let ahead = c.find_ahead-ahead in
    let w = c.requires.5 in
    let m = a.machine.now in
    let e = c.without_rows-by_sets.ensures in
    let stop = ahead.result.stop in
    let words = take ahead.result.count ahead.new.words in
    let stack = c.turns_from-turned.new.stack in
    no_walk w.0 m _ _ _ stop w.1 _ c.turns_from-turned.result
    (same_lead m _ e w.0 a.text.now w.1 a.state.place words stop stop stack c.turns_from-turned.result
    (c.turns_from-turned.ensures w.0 w.1 _ (without_rows m _ e w.3) (same_going m _ e w.0 _ w.1 w.4)
    (of_image w.0 m _ _ _ _ w.3 (ahead.ensures.6 w.0.positions w.2 w.5).0)))

pub returns : goal.returns
returns c =
    let a = c.args in
    let ahead = c.find_ahead-ahead in
    let m = a.machine.now in
    let e = c.without_rows-by_sets.ensures in
    let stop = ahead.result.stop in
    let words = take ahead.result.count ahead.new.words in
    let stack = c.turns_from-turned.new.stack in (
      ahead.ensures.4,
      ahead.ensures.5,
      λ i whole k w g h.
          let found = ahead.ensures.6 i.positions k h in
          subst (AheadLead i m a.text.now a.state.place whole stack ahead.new.block ahead.result.end) (sym c.turn_left.ensures)
          (gone_on i m _ _ _ stop whole _ ahead.new.block ahead.result.end (ahead.ensures.2 c.requires.1) ahead.ensures.3 found.1
          c.turns_from-turned.result
          (same_lead m _ e i a.text.now whole a.state.place words stop stop stack c.turns_from-turned.result
          (c.turns_from-turned.ensures i whole _ (without_rows m _ e w) (same_going m _ e i _ whole g) (of_image i m _ _ _ _ w found.0)))),
    )
