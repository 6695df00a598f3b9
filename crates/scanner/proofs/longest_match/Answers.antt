use mathlib.Core.Path.{◌≡◌, sym, ap, ◌∙◌}
use mathlib.Core.List.{List}
use mathlib.Core.Logic.{⊎_elim}
use mathlib.Core.Option.{Option}
use Prim.Native.Nat.{ℕ, ◌+◌, ◌^◌, ◌<◌}
use native.Mathlib.Omega.{arith}
use lib.Bits.{bit_and, and_le_r}
use lib.ListN.{length, drop, get_or}
use Rattle.lexer.specs.Match.{longer}
use Rattle.lexer.specs.Positions.{Position}
use Rattle.lexer.specs.SetWalk.{members}
use Rattle.lexer.specs.Walk.{keep, follows, longest_match}
use Rattle.scanner.specs.Meaning.{match_of, Prepared}
use Rattle.scanner.specs.Sets.{first_entry, match_by}
use Rattle.scanner.proofs.laws.ByteLaws.{kept_is, ended-kept}
use Rattle.scanner.proofs.Text.{match_new, match_old, match_latest, longer_again, so_far}
use Rattle.scanner.proofs.Text.{walk-start, walk_begun, walk-turn, walk_stops, walk_end}
use Rattle.scanner.proofs.longest_match.Goals as goal
use Rattle.scanner.proofs.longest_match.Goals.{Start}
use Rattle.scanner.proofs.longest_match.Lts as lts
use Rattle.scanner.proofs.longest_match.Tie as tie
use Rattle.scanner.proofs.longest_match.Reads as reads

abbrev Lts-Joined-next-kept : Type 0
Lts-Joined-next-kept = lts.Joined3 tie.the-claims reads.Pre reads.Post goal.the-invariant-loop-n goal.the-decreases-loop-n

abbrev Lts-Left-loop-n : Type 0
Lts-Left-loop-n = lts.Left-loop tie.the-claims reads.Pre reads.Post goal.the-invariant-loop-n goal.the-decreases-loop-n

-- Positions that the tables hold.
abbrev Held : Start → List Position → Type 0
Held s ps = Prepared ps s.args.last s.args.tables.now

-- ---- before the loop
pub returns-then-text-lt1 : goal.returns-then-text-lt1
unfolding match_of
returns-then-text-lt1 c = λ ps h.
    let s = c.before.before.before in
    walk_end ps s.args.text.now s.args.first 0 _ (omega arith) ∙ walk-start ps s.args.text.now s.args.first

pub returns-then-kept-eq0 : goal.returns-then-kept-eq0
unfolding match_of
returns-then-kept-eq0 c = λ ps h.
    let known = c.before.before.before in
    let s = known.before.before.before in
    let kept = kept_is _ _ ps h s.args.first _ (known.shared_slice_known-2-1.given 0).fits in
    walk_stops ps s.args.text.now s.args.first 0 _ (omega arith) (sym kept ∙ c.if-kept-eq0.true)
    ∙ walk-start ps s.args.text.now s.args.first

pub loop-n-init : goal.loop-n-init
loop-n-init c = (
  omega arith,
  λ ps h.
      let known = c.before.before.before.before in
      let s = known.before.before.before in
      let a = s.args in
      let b = get_or a.text.now 0 0 in
      let kept = kept_is _ _ ps h a.first b (known.shared_slice_known-2-1.given 0).fits in
      let next = (c.after_byte-begun.ensures ps h).next_held ∙ ap (follows ps 0) (sym kept) in (
        walk_begun ps (drop 320 a.tables.now) a.text.now a.first _ _ a.last (omega arith) kept next (ended-kept _ _ ps h a.first b _ kept),
        next,
      ),
)

-- ---- a turn
pub bounds-text-n : goal.bounds-text-n
bounds-text-n c = omega arith

-- What the byte keeps, and what is held after it.
step-here : (c : Lts-Joined-next-kept)
    → let head = c.before.before.before.before in
    let s = head.before.before.before.before.before.before.before in
    (ps : List Position) → Held s.before.before ps
    → (c.if-next-kept.kept ≡ keep ps 0 head.loop-n.held (get_or s.args.text.now head.loop-n.n 0))
    × (c.if-next-kept.held ≡ follows ps 0 c.if-next-kept.kept)
step-here c ps h =
    let head = c.before.before.before.before in
    let s = head.before.before.before.before.before.before.before in
    let b = get_or s.args.text.now head.loop-n.n 0 in
    let next = kept_is _ _ ps h head.loop-n.held b (c.shared_slice_known-in-loop-n-1.given head.loop-n.n).fits in
    ⊎_elim
    (λ w. (w.kept-is ∙ next, w.held-is ∙ (w.after_byte-after.ensures ps h).next_held ∙ ap (follows ps 0) (sym (w.kept-is ∙ next))))
    (λ w. (w.kept-is ∙ sym w.if-next-kept.false ∙ next, w.held-is ∙ (head.loop-n.invariant.1 ps h).1 ∙ ap (follows ps 0) (sym w.kept-is)))
    c.if-next-kept.branch-raw

-- The match so far, with the byte's.
match_here : (c : Lts-Joined-next-kept)
    → let head = c.before.before.before.before in
    let l = head.loop-n in
    let a = head.args in
    let rule = drop 320 a.tables.now in
    so_far rule a.last c.if-next-kept.kept (l.n + 1) c.if-next-kept.earlier
    ≡ longer (first_entry rule (members (bit_and c.if-next-kept.kept a.last))) (l.n + 1) (so_far rule a.last l.kept l.n l.earlier)
match_here c =
    let head = c.before.before.before.before in
    let l = head.loop-n in
    let a = head.args in
    let rule = drop 320 a.tables.now in
    let rule-here = first_entry rule (members (bit_and c.if-next-kept.kept a.last)) in
    let small : bit_and l.kept a.last < 2 ^ 64 = omega (arith, and_le_r l.kept a.last) in
    ⊎_elim
    (λ w. ap (so_far rule a.last c.if-next-kept.kept (l.n + 1)) (w.earlier-is ∙ w.latest-earlier.ensures)
    ∙ ap (longer rule-here (l.n + 1)) (match_latest rule (bit_and l.kept a.last) l.n l.earlier small))
    (λ w. ap (so_far rule a.last c.if-next-kept.kept (l.n + 1)) w.earlier-is
    ∙ longer_again rule-here l.n (l.n + 1) (match_by rule l.earlier.ending l.earlier.length)
    ∙ ap (λ (x : ℕ). longer rule-here (l.n + 1) (so_far rule a.last x l.n l.earlier)) w.kept-is)
    c.if-next-kept.branch-raw

pub loop-n-preserved : goal.loop-n-preserved
loop-n-preserved c = (
  omega arith,
  λ ps h.
      let head = c.before.before.before.before.before in
      let l = head.loop-n in
      let s = head.before.before.before.before.before.before.before in
      let old = so_far (drop 320 s.args.tables.now) s.args.last l.kept l.n l.earlier in
      let more : l.n < length s.args.text.now = c.loop-n-test.true in
      let k = (step-here c.before ps h).0 in (
        walk-turn ps s.args.text.now l.held l.n c.if-next-kept.kept c.if-next-kept.held old _ more k (step-here c.before ps h).1
            (match_here c.before ∙ ap (λ (o : Option ℕ). longer o (l.n + 1) old) (ended-kept _ _ ps h l.held _ c.if-next-kept.kept k))
            ∙ (l.invariant.1 ps h).0,
        (step-here c.before ps h).1,
      ),
)

-- ---- after the loop
-- The walk has come to its end: the text's, or a byte that keeps nothing.
ended-here : (c : Lts-Left-loop-n)
    → let l = c.loop-n in
    let s = c.before.before.before.before.before.before.before.before in
    (ps : List Position) → Held s.before ps
    → so_far (drop 320 s.args.tables.now) s.args.last l.kept l.n l.earlier ≡ longest_match ps s.args.first s.args.text.now
ended-here c ps h =
    let l = c.loop-n in
    let s = c.before.before.before.before.before.before.before.before in
    let m = so_far (drop 320 s.args.tables.now) s.args.last l.kept l.n l.earlier in
    ⊎_elim
    (λ w. walk_end ps s.args.text.now l.held l.n m w.loop-n-test.false)
    (λ w. walk_stops ps s.args.text.now l.held l.n m w.loop-n-test.true
    (sym (kept_is _ _ ps h l.held _ (w.shared_slice_known-in-loop-n-1.given l.n).fits) ∙ w.if-next-eq0.true))
    c.loop-n-test.branch-raw
    ∙ (l.invariant.1 ps h).0

pub returns-then-ending-ne0 : goal.returns-then-ending-ne0
returns-then-ending-ne0 c = λ ps h.
    let left = c.before.before.before in
    let a = left.args in
    let set = bit_and left.loop-n.kept a.last in
    let small : set < 2 ^ 64 = omega (arith, and_le_r left.loop-n.kept a.last) in
    c.found_match.ensures ∙ match_new (drop 320 a.tables.now) set _ _ c.if-ending-ne0.true small ∙ ended-here left ps h

pub returns : goal.returns
returns c = λ ps h.
    let left = c.before.before.before in
    let a = left.args in
    c.found_match-2.ensures ∙ match_old (drop 320 a.tables.now) _ _ _ c.if-ending-ne0.false ∙ ended-here left ps h
