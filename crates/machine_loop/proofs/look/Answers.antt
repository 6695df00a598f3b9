-- `look` meets its contract: by a word, or by one walk where no word is left.
use Rattle.std.specs.Prelude.{Ok}
use mathlib.Core.Path.{sym, ap, subst, ◌∙◌}
use mathlib.Core.Bool.{not}
use mathlib.Core.List.{List}
use Prim.Native.Nat.{ℕ, suc}
use native.Mathlib.Omega.{arith}
use lib.ListN.{length, get_or, drop, drop_of_length-le, length-drop}
use lib.Seq.{drop-cons}
use Rattle.basics.proofs.laws.Buffers.{rest_from}
use Rattle.lexer.specs.Alive.{told}
use Rattle.alive_scanner.specs.Ahead.{Ahead}
use Rattle.machine_loop.specs.Turning.{SeenBy, SeenAt}
use Rattle.machine_loop.proofs.Looking.{seen_walk, seen_word}
use Rattle.machine_loop.proofs.look.Goals as goal
use Rattle.machine_loop.proofs.look.Goals.{then-is_none+else-turn-matches, else-is_none}

pub returns-then-turn-matches : goal.returns-then-turn-matches
returns-then-turn-matches c =
    let a = c.args in
    λ i w to ahead.
    let d = drop-cons a.matches.now a.turn 0 c.if-turn-matches.true in
    subst (λ (l : List ℕ). SeenAt i a.text.now a.place l (Ok c.word_seen.result)) (sym d)
    (seen_word i a.text.now a.place to (get_or a.matches.now a.turn 0) (drop (suc a.turn) a.matches.now)
    (subst (Ahead i.positions i.first a.text.now to a.place) d ahead) c.word_seen.result c.word_seen.ensures)

pub slice_bounds-walk-start : goal.slice_bounds-walk-start
slice_bounds-walk-start c = omega (arith, c.requires.0)

pub walk-end-requires : goal.walk-end-requires
walk-end-requires c =
    let a = c.args in
    (omega (arith, c.requires.0, ap (λ (l : List ℕ). length l) (rest_from a.text.now a.place), length-drop a.place a.text.now), c.requires.2)

pub returns : goal.returns
returns c =
    let a = c.args in
    λ i w to ahead.
    let d = drop_of_length-le a.matches.now {i = a.turn}
    (elim c.if-is_none.branch [
      | then-is_none+else-turn-matches w ↦ w.if-turn-matches.false
      | else-is_none w ↦ c.requires.1 (c.is_none.ensures ∙ ap not w.if-is_none.false)
    ]) in
    let e = c.walk-end.ensures i w ∙ ap (told i.positions i.first) (rest_from a.text.now a.place) in
    subst (λ (l : List ℕ). SeenAt i a.text.now a.place l c.walk_seen.result) (sym d)
    (seen_walk i a.text.now a.place c.walk_seen.result (subst (SeenBy c.walk_seen.result) e c.walk_seen.ensures))
