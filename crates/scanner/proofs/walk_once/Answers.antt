use mathlib.Core.Path.{◌≡◌, sym, ap, ◌∙◌}
use mathlib.Core.List.{List}
use mathlib.Core.Logic.{⊎_elim}
use native.Mathlib.Omega.{arith}
use lib.ListN.{get_or}
use Rattle.lexer.specs.Positions.{Position}
use Rattle.lexer.specs.Walk.{keep, follows, ended_rule}
use Rattle.scanner.specs.Meaning.{told_of, rule_of, Prepared}
use Rattle.scanner.proofs.laws.ByteLaws.{kept_is, ended-kept}
use Rattle.scanner.proofs.Once.{Stops, stops_inside, stops_at_end, begins, goes_on, tells_nothing, tells_match, tells_vain}
use Rattle.scanner.proofs.walk_once.Goals as goal
use Rattle.scanner.proofs.walk_once.Goals.{Start}
use Rattle.scanner.proofs.walk_once.Lts as lts
use Rattle.scanner.proofs.walk_once.Tie as tie
use Rattle.scanner.proofs.walk_once.Reads as reads

abbrev Lts-At-loop-walked : Type 0
Lts-At-loop-walked = lts.At-loop tie.the-claims reads.Pre reads.Post goal.the-invariant-loop-walked goal.the-decreases-loop-walked

abbrev Lts-Joined-next-kept : Type 0
Lts-Joined-next-kept = lts.Joined2 tie.the-claims reads.Pre reads.Post goal.the-invariant-loop-walked goal.the-decreases-loop-walked

abbrev Lts-Left-loop-walked : Type 0
Lts-Left-loop-walked = lts.Left-loop tie.the-claims reads.Pre reads.Post goal.the-invariant-loop-walked goal.the-decreases-loop-walked

abbrev Lts-After-lowest_rule-winner : Type 0
Lts-After-lowest_rule-winner = lts.After-lowest_rule tie.the-claims reads.Pre reads.Post goal.the-invariant-loop-walked goal.the-decreases-loop-walked

-- Positions that the tables hold.
abbrev Held : Start → List Position → Type 0
Held s ps = Prepared ps s.args.last s.args.tables.now

-- Where the loop's turn starts from.
abbrev start : Lts-At-loop-walked → Start
start c = c.before.before.before.before.before.before.before

pub returns-then-kept-eq0 : goal.returns-then-kept-eq0
unfolding told_of
returns-then-kept-eq0 c = λ ps h.
    let known = c.before.before.before in
    let a = known.args in
    let kept = kept_is _ _ ps h a.first _ (known.shared_slice_known-2-1.given 0).fits in
    tells_nothing ps a.text.now a.first (stops_inside ps a.text.now a.first 0 (omega arith) (sym kept ∙ c.if-kept-eq0.true))

pub loop-walked-init : goal.loop-walked-init
loop-walked-init c = (
  λ ps h.
      let known = c.before.before.before.before in
      let a = known.args in
      let kept = kept_is _ _ ps h a.first _ (known.shared_slice_known-2-1.given 0).fits in
      begins ps a.text.now a.first _ _ (omega arith) kept c.if-kept-eq0.false
      ((c.after_byte-begun.ensures ps h).next_held ∙ ap (follows ps 0) (sym kept)),
  omega arith,
)

-- What the byte keeps, and what is held after it.
step-here : (c : Lts-Joined-next-kept)
    → let head = c.before.before.before.before in
    (ps : List Position) → Held (start head.before) ps
    → (c.if-next-kept.kept ≡ keep ps 0 head.loop-walked.held (get_or (start head.before).args.text.now head.loop-walked.walked 0)) × (c.if-next-kept.kept ≡ 0 → ⊥)
    × (c.if-next-kept.held ≡ follows ps 0 c.if-next-kept.kept)
step-here c ps h =
    let head = c.before.before.before.before in
    let way = head.loop-walked.invariant.0 ps h in
    let next = kept_is _ _ ps h head.loop-walked.held _ (c.shared_slice_known-in-loop-walked-1.given head.loop-walked.walked).fits in
    ⊎_elim
    (λ w. (w.kept-is ∙ next, λ e. w.if-next-eq0.false (sym w.kept-is ∙ e), w.held-is ∙ (w.after_byte-after.ensures ps h).next_held ∙ ap (follows ps 0) (sym (w.kept-is ∙ next))))
    (λ w. (w.kept-is ∙ sym w.if-next-kept.false ∙ next, λ e. way.some_kept (sym w.kept-is ∙ e), w.held-is ∙ way.following ∙ ap (follows ps 0) (sym w.kept-is)))
    c.if-next-kept.branch-raw

pub loop-walked-preserved : goal.loop-walked-preserved
loop-walked-preserved c = (
  λ ps h.
      let head = c.before.before.before.before.before in
      let a = (start head.before).args in
      let step = step-here c.before ps h in
      goes_on ps a.text.now a.first (head.loop-walked.invariant.0 ps h) _ _ c.loop-walked-test.true step.0 step.1
      step.2,
  omega arith,
)

-- The walk has come to its end: the text's, or a byte that keeps nothing.
ended-here : (c : Lts-Left-loop-walked)
    → let l = c.loop-walked in
    (ps : List Position) → Held (start c.before) ps → Stops ps (start c.before).args.text.now l.held l.walked
ended-here c ps h =
    let l = c.loop-walked in
    let text = (start c.before).args.text.now in
    ⊎_elim
    (λ w. stops_at_end ps text l.held l.walked w.loop-walked-test.false)
    (λ w. stops_inside ps text l.held l.walked w.loop-walked-test.true
    (sym (kept_is _ _ ps h l.held _ (w.shared_slice_known-in-loop-walked-1.given l.walked).fits) ∙ w.if-next-eq0.true))
    c.loop-walked-test.branch-raw

-- The rule that ended with the latest byte.
rule-here : (c : Lts-After-lowest_rule-winner)
    → let at = c.before.before in
    (ps : List Position) → Held (start at) ps → rule_of c.lowest_rule-winner.result ≡ ended_rule ps 0 at.loop-walked.kept
rule-here c ps h =
    let byte = (c.loop-walked.invariant.0 ps h).by_byte in
    c.lowest_rule-winner.ensures ∙ ended-kept _ _ ps h byte.0 byte.1 _ byte.2

pub returns-in-None : goal.returns-in-None
unfolding told_of rule_of
returns-in-None c = λ ps h.
    let ended = c.before.before in
    let left = ended.before in
    let a = (start left.before).args in
    tells_vain ps a.text.now a.first (left.loop-walked.invariant.0 ps h) (ended-here left ps h)
    (ap rule_of (sym c.in-None.is) ∙ rule-here ended ps h)

pub returns-in-Some : goal.returns-in-Some
unfolding told_of rule_of
returns-in-Some c = λ ps h.
    let ended = c.before.before in
    let left = ended.before in
    let a = (start left.before).args in
    tells_match ps a.text.now a.first (left.loop-walked.invariant.0 ps h) (ended-here left ps h) _
    (ap rule_of (sym c.in-Some.is) ∙ rule-here ended ps h)
