-- `scan` meets its contract, by rows and by sets.
use mathlib.Core.Path.{ap, ◌∙◌}
use Prim.Native.Nat.{ℕ}
use Rattle.lexer.specs.Walk.{longest_match}
use Rattle.machine_loop.proofs.ByRows.{rows_in, found_by_rows}
use Rattle.machine_loop.proofs.scan.Goals as goal

pub match_by_rows-requires : goal.match_by_rows-requires
match_by_rows-requires c = let w = c.requires in rows_in w.0 w.1.in_range _ _ (w.1.built c.in-Some.is)

pub returns-in-Some : goal.returns-in-Some
returns-in-Some c =
    λ i w.
    found_by_rows i w.in_range _ _ (w.built c.in-Some.is) _ (λ j. (c.type_inv.text j).fits)
    c.match_by_rows.result c.match_by_rows.ensures

pub longest_match-requires : goal.longest_match-requires
longest_match-requires c = let w = c.requires in (w.0.positions, w.1.decoded.positions w.1.in_range.never_falling)

pub returns-in-None : goal.returns-in-None
returns-in-None c =
    let text = c.args.text.now in
    λ i w.
    c.longest_match.ensures i.positions (w.decoded.positions w.in_range.never_falling)
    ∙ ap (λ (k : ℕ). longest_match i.positions k text) w.decoded.first
