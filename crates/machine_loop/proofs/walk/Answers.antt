-- `walk` meets its contract, by rows and by sets.
use mathlib.Core.Path.{ap, ◌∙◌}
use Prim.Native.Nat.{ℕ}
use Rattle.lexer.specs.Alive.{told}
use Rattle.scanner.specs.Meaning.{told_of}
use Rattle.machine_loop.proofs.ByRows.{rows_in, told_by-table}
use Rattle.machine_loop.proofs.walk.Goals as goal

pub walk_rows-requires : goal.walk_rows-requires
walk_rows-requires c =
    let w = c.requires.1 in
    (c.requires.0, rows_in w.0 w.1.in_range _ _ (w.1.built c.in-Some.is))

pub returns-in-Some : goal.returns-in-Some
returns-in-Some c =
    λ i w.
    told_by-table i w.in_range _ _ (w.built c.in-Some.is) _ (λ j. (c.type_inv.text j).fits)
    (told_of c.walk_rows.result) c.walk_rows.ensures

pub walk_once-requires : goal.walk_once-requires
walk_once-requires c =
    let w = c.requires.1 in
    (c.requires.0, (w.0.positions, w.1.decoded.positions w.1.in_range.never_falling))

pub returns-in-None : goal.returns-in-None
returns-in-None c =
    let text = c.args.text.now in
    λ i w.
    c.walk_once.ensures i.positions (w.decoded.positions w.in_range.never_falling)
    ∙ ap (λ (k : ℕ). told i.positions k text) w.decoded.first
