use mathlib.Core.Path.{◌≡◌, refl, sym, ap, ◌∙◌}
use mathlib.Core.List.{List}
use mathlib.Core.Logic.{inl, inr, ⊎_elim}
use Prim.Native.Nat.{ℕ, ◌+◌, ◌%◌, ◌≤◌, ◌<◌}
use native.Mathlib.Omega.{arith}
use lib.Bits.{bit_and}
use lib.ListN.{length, get_or, drop}
use Rattle.lexer.specs.Positions.{Position}
use Rattle.lexer.specs.Walk.{follows}
use Rattle.lexer.specs.Match.{Match}
use Rattle.lexer.specs.Alive.{match_bytes, alive}
use Rattle.alive_scanner.specs.Blocks.{HeldBefore, AliveHeld}
use Rattle.alive_scanner.proofs.CutWalk.{Stops, follows-at, held-follows, cut_step, cut_found}
use Rattle.alive_scanner.proofs.longest_alive.Goals as goal
use Rattle.alive_scanner.proofs.longest_alive.Goals.{Start}
use Rattle.alive_scanner.proofs.longest_alive.Lts as lts
use Rattle.alive_scanner.proofs.longest_alive.Tie as tie
use Rattle.alive_scanner.proofs.longest_alive.Reads as reads

abbrev Lts-Joined-end-q : Type 0
Lts-Joined-end-q = lts.Joined1 tie.the-claims reads.Pre reads.Post goal.the-invariant-loop-q goal.the-decreases-loop-q

abbrev Lts-Left-loop-q : Type 0
Lts-Left-loop-q = lts.Left-loop tie.the-claims reads.Pre reads.Post goal.the-invariant-loop-q goal.the-decreases-loop-q

abbrev Held : Start → List Position → ℕ → Type 0
Held s ps k =
    let a = s.args in
    AliveHeld ps a.given.now.last a.given.now.tables.now a.given.now.unions.now a.given.now.text.now k a.marks.now a.place a.held_end a.block.now

-- What the block holds once it was looked whether the place lies in it.
block_here : (j : Lts-Joined-end-q)
    → let l = j.loop-q in
    let s = j.before.before.before.before.before in
    (l.q < j.if-end-q.end) × (j.if-end-q.end ≤ l.q + 1024) × (length j.if-end-q.block ≡ 1024)
    × ((ps : List Position) (k : ℕ) → Held s ps k → HeldBefore ps s.args.given.now.text.now j.if-end-q.end j.if-end-q.block)
block_here j =
    let l = j.loop-q in
    let s = j.before.before.before.before.before in
    ⊎_elim
    (λ w.
    let e = w.next_block-end.ensures in
    rw (w.block-is, w.end-is) (e.0, e.1, e.2, λ ps k h. e.3 ps k h.ready h.marked (omega (arith, h.from_mark, l.invariant.0))))
    (λ w. rw (w.block-is, w.end-is) (omega (arith, w.if-end-q.false), l.invariant.2, l.invariant.3, λ ps k h. (l.invariant.4 ps k h).0))
    j.if-end-q.branch-raw

pub loop-q-init : goal.loop-q-init
loop-q-init c =
    let z = c.requires in
    (omega arith, z.1, z.2, z.3, λ ps k w. (w.held, inl (refl, refl, refl)))

pub loop-q-preserved : goal.loop-q-preserved
loop-q-preserved c =
    let j = c.before.before.before.before in
    let head = j.before.before in
    let l = head.loop-q in
    let s = head.before.before in
    let a = s.args in
    let b = block_here j.before in
    let next = bit_and l.held (get_or j.if-end-q.block (l.q % 1024) 0) in
    let inside = j.loop-q-test.true in (
      omega arith,
      omega arith,
      omega (arith, b.1),
      b.2,
      λ ps k w.
          let block = b.3 ps k w in
          let old = (l.invariant.4 ps k w).1 in
          let e : next ≡ bit_and l.held (alive ps (drop l.q a.given.now.text.now)) = ap (bit_and l.held) (block l.q inside b.0 b.1) in (
            block,
            ⊎_elim
                (λ v.
                rw (v.held-is, v.kept-is)
                (cut_step ps a.given.now.first a.given.now.text.now a.place l.held l.q l.kept next _ l.invariant.0 inside e c.if-next-eq0.false
                (v.following_of-held.ensures _ w.ready.unions_held
                ∙ follows-at ps a.given.now.last a.given.now.tables.now w.ready.prepared a.given.now.text.now l.held l.q next inside e) old))
                (λ v.
                let same = v.if-next-kept.false in
                rw (v.held-is, v.kept-is, ← same)
                (cut_step ps a.given.now.first a.given.now.text.now a.place l.held l.q l.kept next l.held l.invariant.0 inside e c.if-next-eq0.false
                (held-follows ps a.given.now.first a.given.now.text.now a.place old (λ z. c.if-next-eq0.false (same ∙ z)) ∙ ap (follows ps 0) (sym same)) old))
                c.if-next-kept.branch-raw,
          ),
    )

-- The walk has come to its end: the text's, or a byte that keeps no position.
ended-here : (left : Lts-Left-loop-q)
    → let l = left.loop-q in
    let s = left.before.before.before.before in
    (left.loop-q-test.end ≤ l.q + 1024) × (length left.loop-q-test.block ≡ 1024)
    × ((ps : List Position) (k : ℕ) → Held s ps k
    → HeldBefore ps s.args.given.now.text.now left.loop-q-test.end left.loop-q-test.block × Stops ps s.args.given.now.text.now l.held l.q)
ended-here left =
    let head = left.before in
    let l = head.loop-q in
    ⊎_elim
    (λ w. rw (w.end-is, w.block-is) (l.invariant.2, l.invariant.3, λ ps k h. ((l.invariant.4 ps k h).0, inl w.loop-q-test.false)))
    (λ w.
    let j : Lts-Joined-end-q = record { before = record { before = head; loop-q-test = w.loop-q-test }; if-end-q = w.if-end-q } in
    let b = block_here j in
    rw (w.end-is, w.block-is) (
      b.1,
      b.2,
      λ ps k h.
          let block = b.3 ps k h in
          (block, inr (w.loop-q-test.true, ap (bit_and l.held) (sym (block l.q w.loop-q-test.true b.0 b.1)) ∙ w.if-next-eq0.true)),
    ))
    left.loop-q-test.branch-raw

pub returns : goal.returns
returns c =
    let left = c.before.before in
    let head = left.before in
    let l = head.loop-q in
    let s = head.before.before in
    let a = s.args in
    let stopped = ended-here left in (
      l.invariant.0,
      l.invariant.1,
      stopped.0,
      stopped.1,
      λ ps k w.
          let x = stopped.2 ps k w in
          let found = cut_found ps a.given.now.last a.given.now.tables.now w.ready.prepared a.given.now.first a.given.now.text.now a.place l.q l.held l.kept x.1
          (l.invariant.4 ps k w).1 in (
            c.found_match-found.ensures ∙ found.0,
            found.1 ∙ ap (λ (y : Match). a.place + match_bytes y) (sym c.found_match-found.ensures),
            x.0,
          ),
    )
