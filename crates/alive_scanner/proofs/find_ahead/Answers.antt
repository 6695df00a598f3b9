use mathlib.Core.Path.{◌≡◌, sym, ap, ◌∙◌}
use mathlib.Core.List.{List}
use Prim.Native.Nat.{ℕ, ◌+◌, ◌≤◌}
use native.Mathlib.Omega.{arith}
use lib.ListN.{length-set, drop}
use Rattle.std.specs.Prelude.{Option, Some}
use Rattle.lexer.specs.Positions.{Position}
use Rattle.lexer.specs.Match.{Match, matched}
use Rattle.lexer.specs.Walk.{longest_match}
use Rattle.lexer.specs.Alive.{match_bytes}
use Rattle.lexer.proofs.laws.LongestMatchLaws.{match_within}
use Rattle.scanner.specs.Meaning.{match_of}
use Rattle.scanner.specs.declared.Match as code
use Rattle.alive_scanner.specs.Ahead.{word_match}
use Rattle.alive_scanner.proofs.laws.WordLaws.{word_some}
use Rattle.alive_scanner.specs.Blocks.{HeldBefore, AliveHeld}
use Rattle.alive_scanner.proofs.AheadLaws.{found_start, found_all, found_more, found_none}
use Rattle.alive_scanner.proofs.find_ahead.Goals as goal

-- What a walk from a later place relies on.
held_on : (ps : List Position) (last : ℕ) (tables unions text : List ℕ) (k : ℕ) (marks : List ℕ) (place end : ℕ) (block : List ℕ)
    → AliveHeld ps last tables unions text k marks place end block → (p end' : ℕ) (block' : List ℕ) → place ≤ p → HeldBefore ps text end' block'
    → AliveHeld ps last tables unions text k marks p end' block'
held_on ps last tables unions text k marks place end block w p end' block' h b =
    record { ready = w.ready; marked = w.marked; from_mark = omega (arith, w.from_mark); held = b }

-- A match that was found: the longest one, of so many bytes.
found_here : (ps : List Position) (first : ℕ) (text : List ℕ) (p after : ℕ) (found : Option code.Match) (m : code.Match) → found ≡ Some m
    → match_of found ≡ longest_match ps first (drop p text) → after ≡ p + match_bytes (match_of found)
    → (matched m.rule m.length ≡ longest_match ps first (drop p text)) × (after ≡ p + m.length) × (1 ≤ m.length)
unfolding match_of match_bytes
found_here ps first text p after found m is e f =
    let here : matched m.rule m.length ≡ longest_match ps first (drop p text) = ap match_of (sym is) ∙ e in (
      here,
      f ∙ ap (λ (x : Match). p + match_bytes x) (ap match_of is),
      (match_within ps first (drop p text) m.rule m.length (sym here)).0,
    )

pub loop-p-init : goal.loop-p-init
loop-p-init c =
    let a = c.args in
    let z = c.requires in
    (omega arith, omega arith, z.1, z.2, z.3, z.4, λ ps k w. (found_start ps a.given.now.first a.given.now.text.now a.place a.words.now, w.held))

pub returns-then-count-ge1024 : goal.returns-then-count-ge1024
returns-then-count-ge1024 c =
    let l = c.loop-p in
    let a = c.args in (
      l.invariant.0,
      l.invariant.2,
      λ h. omega arith,
      l.invariant.3,
      l.invariant.4,
      l.invariant.5,
      λ ps k w.
          let f = l.invariant.6 ps k w in
          (found_all ps a.given.now.first a.given.now.text.now a.place l.p l.count l.words f.0, f.1),
    )

pub returns-in_default : goal.returns-in_default
unfolding match_of match_bytes
returns-in_default c =
    let l = c.loop-p in
    let a = c.args in
    let z = c.requires.5 in
    let at = c.longest_alive-at.ensures in
    let here = at.4 z.0 z.1 (held_on _ _ _ _ _ _ _ _ _ _ z.2 l.p l.end l.block (omega (arith, l.invariant.1)) (l.invariant.6 z.0 z.1 z.2).1) in
    let none_after = here.1 ∙ ap (λ (x : Match). l.p + match_bytes x) (ap match_of c.in_default.is) in (
      omega arith,
      omega arith,
      λ h. omega arith,
      omega (arith, at.2, none_after),
      at.3,
      simp length-set l.invariant.5,
      λ ps k w.
          let f = l.invariant.6 ps k w in
          let e = at.4 ps k (held_on _ _ _ _ _ _ _ _ _ _ w l.p l.end l.block (omega (arith, l.invariant.1)) f.1) in (
            found_none ps a.given.now.first a.given.now.text.now a.place l.p l.count (l.p + 1) l.words (omega arith)
                (ap match_of (sym c.in_default.is) ∙ e.0) f.0,
            e.2,
          ),
    )

pub match_word-requires : goal.match_word-requires
match_word-requires c =
    let l = c.loop-p in
    let z = c.requires.5 in
    let at = c.longest_alive-at.ensures in
    let e = at.4 z.0 z.1 (held_on _ _ _ _ _ _ _ _ _ _ z.2 l.p l.end l.block (omega (arith, l.invariant.1)) (l.invariant.6 z.0 z.1 z.2).1) in
    let m = found_here z.0 c.args.given.now.first c.args.given.now.text.now l.p _ _ _ c.in-Some.is e.0 e.1 in
    omega (arith, m.1, at.1, c.requires.0)

pub loop-p-smaller : goal.loop-p-smaller
loop-p-smaller c =
    let l = c.loop-p in
    let z = c.requires.5 in
    let at = c.longest_alive-at.ensures in
    let e = at.4 z.0 z.1 (held_on _ _ _ _ _ _ _ _ _ _ z.2 l.p l.end l.block (omega (arith, l.invariant.1)) (l.invariant.6 z.0 z.1 z.2).1) in
    let m = found_here z.0 c.args.given.now.first c.args.given.now.text.now l.p _ _ _ c.in-Some.is e.0 e.1 in
    omega (arith, m.1, m.2, at.1)

pub loop-p-preserved : goal.loop-p-preserved
loop-p-preserved c =
    let l = c.loop-p in
    let a = c.args in
    let z = c.requires.5 in
    let at = c.longest_alive-at.ensures in
    let e = at.4 z.0 z.1 (held_on _ _ _ _ _ _ _ _ _ _ z.2 l.p l.end l.block (omega (arith, l.invariant.1)) (l.invariant.6 z.0 z.1 z.2).1) in
    let m = found_here z.0 a.given.now.first a.given.now.text.now l.p _ _ _ c.in-Some.is e.0 e.1 in (
      omega arith,
      omega (arith, m.1, m.2, l.invariant.1),
      at.1,
      at.2,
      at.3,
      simp length-set l.invariant.5,
      λ ps k w.
          let f = l.invariant.6 ps k w in
          let d = at.4 ps k (held_on _ _ _ _ _ _ _ _ _ _ w l.p l.end l.block (omega (arith, l.invariant.1)) f.1) in
          let x = found_here ps a.given.now.first a.given.now.text.now l.p _ _ _ c.in-Some.is d.0 d.1 in (
            found_more ps a.given.now.first a.given.now.text.now a.place l.p _ l.count _ _ _ l.words (omega arith)
                (ap word_match c.match_word.ensures ∙ word_some _ _ (omega arith) x.2) x.0 x.1 f.0,
            d.2,
          ),
    )

pub returns : goal.returns
returns c =
    let l = c.loop-p in
    let a = c.args in (
      l.invariant.0,
      l.invariant.2,
      λ h. omega arith,
      l.invariant.3,
      l.invariant.4,
      l.invariant.5,
      λ ps k w.
          let f = l.invariant.6 ps k w in
          (found_all ps a.given.now.first a.given.now.text.now a.place l.p l.count l.words f.0, f.1),
    )
