use mathlib.Core.Path.{◌≡◌, refl, sym, ap, subst, ◌∙◌}
use mathlib.Core.List.{List, []}
use Prim.Native.Nat.{ℕ, ◌-◌, ◌≤◌}
use native.Mathlib.Omega.{arith}
use borrow.Author.Tests.{eqb-true, eqb-false}
use lib.ListN.{length}
use Rattle.image.specs.Image.{Image}
use Rattle.image_reader.specs.Decoded.{ImageTables}
use Rattle.machine.specs.Trace.{Ended}
use Rattle.machine.specs.Run.{trace}
use Rattle.machine.specs.Work.{budget}
use Rattle.machine.proofs.laws.RunLaws.{trace-some_entry}
use Rattle.machine_turn.specs.Steps.{answer_held}
use Rattle.machine_turn.proofs.laws.StackLaws.{ready_entries}
use Rattle.machine_turn.specs.laws.Going.{Going}
use Rattle.machine_turn.proofs.laws.Going.{going_first, going_ends}
use Rattle.machine_turn.specs.declared.State.{State}
use Rattle.machine_turn.specs.declared.RunAnswer.{RunAnswer}
use Rattle.machine_loop.specs.declared.Turns.{Turns}
use Rattle.machine_loop.specs.declared.Turns.TheVariants.{Reached}
use Rattle.machine_loop.specs.Prepared.{tables_in, WithTables}
use Rattle.machine_loop.specs.Turning.{ChargedAt, Charged, RoundLead}
use Rattle.machine_loop.proofs.TurningLaws.{charged_at}
use Rattle.machine_loop.proofs.Ending.{run_no_entry}
use Rattle.machine_loop.proofs.Charging.{end_place, none-at_end, charged_first}
use Rattle.machine_loop.proofs.run_plain.Goals as goal
use Rattle.machine_loop.proofs.run_plain.Goals.{Start}
use Rattle.machine_loop.proofs.run_plain.Lts as lts
use Rattle.machine_loop.proofs.run_plain.Tie as tie
use Rattle.machine_loop.proofs.run_plain.Reads as reads

abbrev Lts-At-loop-done : Type 0
Lts-At-loop-done = lts.At-loop tie.the-claims reads.Pre reads.Post goal.the-invariant-loop-done goal.the-decreases-loop-done

abbrev Lts-After-turns_by_walks-round : Type 0
Lts-After-turns_by_walks-round = lts.After-turns_by_walks tie.the-claims reads.Pre reads.Post goal.the-invariant-loop-done goal.the-decreases-loop-done

abbrev Lts-In-Reached : Type 0
Lts-In-Reached = lts.Past-After-known_told3 tie.the-claims reads.Pre reads.Post goal.the-invariant-loop-done goal.the-decreases-loop-done

-- The start, from the head of the loop, and the head, from what the turns leave.
abbrev start_of : Lts-At-loop-done → Start
start_of head = head.before.before.before.before.before.before.before

abbrev head_of : Lts-After-turns_by_walks-round → Lts-At-loop-done
head_of c = c.before.before

abbrev tables-here : Start → ImageTables
tables-here s = let a = s.args in tables_in a.machine.now

abbrev Held : Start → Image → Type 0
Held s i =
    let a = s.args in
    WithTables a.machine.now i

-- The end of the whole run.
abbrev whole : Start → Image → Ended
whole s i = let a = s.args in trace i (length a.stack.now) a.text.now

abbrev stack-left : Lts-After-turns_by_walks-round → List ℕ
stack-left c = c.turns_by_walks-round.new.stack

-- What the turns leave, for any image that the tables hold.
abbrev Led : Lts-After-turns_by_walks-round → Image → Turns → Type 0
Led c i =
    let s = start_of (head_of c) in
    let a = s.args in
    RoundLead i a.machine.now a.text.now (head_of c).loop-done.state.place (whole s i) (stack-left c) c.turns_by_walks-round.result.left

led : (c : Lts-After-turns_by_walks-round) (i : Image) → Held (start_of (head_of c)) i → Led c i c.turns_by_walks-round.result.turned
led c i w = let h = (head_of c).loop-done.invariant.1 i w in c.turns_by_walks-round.ensures i _ w h.0 h.1

kept_here : (c : Lts-After-turns_by_walks-round) → length (stack-left c) ≡ length (start_of (head_of c)).args.stack.now
kept_here c = c.turns_by_walks-round.auto.stack ∙ (head_of c).loop-done.invariant.0

pub returns-then-is_empty : goal.returns-then-is_empty
unfolding answer_held
returns-then-is_empty c =
    let none = eqb-true _ 0 (sym c.is_empty.ensures ∙ c.if-is_empty.true) in
    λ i w. (
      ap answer_held c.answer.ensures ∙ run_no_entry i _ c.args.text.now (omega (arith, none)),
      λ h. absurd (omega (arith, h, none)),
    )

pub loop-done-init : goal.loop-done-init
unfolding budget
loop-done-init c =
    let a = c.args in
    let room : 1 ≤ length a.stack.now = omega (arith, eqb-false _ 0 (sym c.is_empty.ensures ∙ c.if-is_empty.false)) in (
      refl,
      λ i w. (
        subst (Going i a.machine.now.image.now (tables_in a.machine.now) a.text.now a.stack.now _)
            (sym (trace-some_entry i (length a.stack.now) a.text.now room))
            (going_first i _ _ w.decoded _ _ c.first_state-state.ensures room),
        (
          omega (arith, c.max-left.ensures),
          subst (λ (p : ℕ). Charged i a.text.now p [] (budget a.text.now - c.max-left.result))
              (sym (ap (λ (s : State). s.place) c.first_state-state.ensures))
              (subst (λ (v : ℕ). Charged i a.text.now 0 [] (budget a.text.now - v)) (sym c.max-left.ensures) (charged_first i a.text.now)),
        ),
      ),
    )

pub turns_by_walks-round-requires : goal.turns_by_walks-round-requires
turns_by_walks-round-requires c =
    let head = c.before.before in
    let s = start_of head in
    let w = s.requires.1 in
    let h = head.loop-done.invariant.1 w.0 w.1 in
    (s.requires.0, (w.0, whole s w.0, w.1, h.0, h.1))

pub shape_of-stack-in-Done : goal.shape_of-stack-in-Done
shape_of-stack-in-Done c = kept_here c.before.before.before.before

pub returns-in-Done : goal.returns-in-Done
returns-in-Done c =
    let turns = c.before.before.before.before in
    λ i w. let x = subst (Led turns i) c.in-Done.is (led turns i w) in (x.0, λ h. x.1)

pub shape_of-stack-in-InVain : goal.shape_of-stack-in-InVain
shape_of-stack-in-InVain c = kept_here c.before.before.before.before

pub returns-in-InVain : goal.returns-in-InVain
returns-in-InVain c =
    let turns = c.before.before.before.before in
    λ i w. subst (Led turns i) c.in-InVain.is (led turns i w)

abbrev turns-of : Lts-In-Reached → Lts-After-turns_by_walks-round
turns-of t = t.before.before.before

abbrev state-of : Lts-In-Reached → State
state-of t = t.in-Reached.s

-- The state that is gone on from, or the one at the text's end.
reached-here : (t : Lts-In-Reached) (i : Image) → Held (start_of (head_of (turns-of t))) i → Led (turns-of t) i (Reached (state-of t))
reached-here t i w = subst (Led (turns-of t) i) t.in-Reached.is (led (turns-of t) i w)

pub at_end-requires : goal.at_end-requires
at_end-requires c =
    let t = c.before.before.before in
    let w = (start_of (head_of (turns-of t))).requires.1 in
    ready_entries (reached-here t w.0 w.1).0.ready

pub shape_of-stack-then-text-s : goal.shape_of-stack-then-text-s
shape_of-stack-then-text-s c = kept_here (turns-of c.before.before.before.before)

pub returns-then-text-s : goal.returns-then-text-s
returns-then-text-s c =
    let t = c.before.before.before.before in
    let turns = turns-of t in
    let s = start_of (head_of turns) in
    let a = s.args in
    let at = state-of t in
    let end = c.if-text-s.true in
    λ i w.
    let x = reached-here t i w in
    let y = charged_at i a.text.now [] at.place (budget a.text.now - turns.turns_by_walks-round.result.left) []
    (λ e. none-at_end i a.text.now at.place end) x.2.1 in (
      ap answer_held c.at_end.ensures
          ∙ going_ends i a.machine.now.image.now (tables-here s) w.decoded a.text.now _ _ (whole s i) x.0 end,
      λ h. subst (λ (q : ℕ). ChargedAt i a.text.now q (budget a.text.now))
          (sym (ap (λ (r : RunAnswer). r.place) c.at_end.ensures ∙ end_place _ _ at.place at.count))
          (y.0, y.1, y.2, y.3, omega (arith, y.4)),
    )

pub loop-done-smaller : goal.loop-done-smaller
loop-done-smaller c =
    let t = c.before.before.before in
    let w = (start_of (head_of (turns-of t))).requires.1 in
    let x = reached-here t w.0 w.1 in
    let later = x.1 (omega (arith, c.if-text-s.false)) in
    omega (arith, later, c.if-text-s.false)

pub loop-done-preserved : goal.loop-done-preserved
loop-done-preserved c =
    let t = c.before.before.before in
    (kept_here (turns-of t), λ i w. let x = reached-here t i w in (x.0, x.2))
