use Rattle.std.proofs.Common.{rules, ◌≡◌, Err}
use native.Mathlib.Omega.{arith}
use mathlib.Core.Path.{refl, ◌∙◌}
use mathlib.Core.List.{List, []}
use Prim.Native.Nat.{ℕ, ◌+◌, ◌<◌}
use lib.ListN.{length, drop, set, length-set, length-drop}
use lib.Seq.{get_or-set_other, drop-set-add}
use Rattle.image_reader.specs.Tables.{SameBelow}
use Rattle.image_reader.proofs.Rows.{filling_none, filling_more, filling_end}
use Rattle.image_reader.proofs.Turns.{listing_start, turns_more, turns_stop, turns_end}
use Rattle.image_reader.proofs.read_rows.Goals as goal

-- A start is stored past the lexer's words.
stored : (first t : List ℕ) (i v : ℕ) → length t ≡ 448 → SameBelow 384 first t
    → (length (set t (384 + i) v) ≡ 448) × SameBelow 384 first (set t (384 + i) v)
stored first t i v h s = (length-set t (384 + i) v ∙ h, λ k l. get_or-set_other t (384 + i) k v 0 (λ e. omega arith) ∙ s k l)

pub loop-i-init : goal.loop-i-init
loop-i-init c = let p = c.requires in (p.1, (λ k h. refl), ([], listing_start _ _ _, filling_none _ _ _ _ p.2))

pub read_row-requires : goal.read_row-requires
read_row-requires c = (c.requires.0, omega arith, c.loop-i.invariant.2.2.room)

pub returns-in_err-row : goal.returns-in_err-row
returns-in_err-row c =
    let up : c.from_residual.result ≡ Err c.in_err-row.field-0.0 = search rules in
    let l = c.loop-i.invariant in
    let s = stored _ _ c.loop-i.i c.loop-i.next l.0 l.1 in
    rw up (s.0, s.1, c.in_err-row.ensures.0, turns_stop l.2.1 (omega arith) c.in_err-row.ensures.1)

pub loop-i-preserved : goal.loop-i-preserved
loop-i-preserved c =
    let l = c.loop-i.invariant in
    let s = stored _ _ c.loop-i.i c.loop-i.next l.0 l.1 in
    let row = c.in_ok-row.ensures.1 in
    let inside : c.loop-i.i < length (drop 384 c.loop-i.tables) = omega (arith, length-drop 384 c.loop-i.tables) in (
      s.0,
      s.1,
      (
        _,
        turns_more l.2.1 (omega arith) row.reads,
        rw (drop-set-add 384 c.loop-i.tables c.loop-i.i c.loop-i.next)
            (filling_more _ _ _ _ _ _ _ _ _ _ _ l.2.2 inside row.holds c.with_flag-empty.ensures),
      ),
    )

pub returns : goal.returns
returns c =
    let l = c.loop-i.invariant in
    (l.0, l.1, l.2.2.room.size, record { what = l.2.0; reads = turns_end l.2.1 (omega arith); holds = filling_end _ _ _ _ _ _ _ (omega arith) l.2.2 })
