use Rattle.std.specs.Prelude.{Result, Ok}
use mathlib.Core.Path.{◌≡◌, refl, ap, subst, ◌∙◌}
use mathlib.Core.List.{List}
use Prim.Native.Nat.{ℕ, ◌+◌, ◌≤◌, ◌<◌}
use native.Mathlib.Omega.{arith}
use lib.ListN.{length}
use Rattle.image.specs.Image.{Image}
use Rattle.image_reader.specs.Decoded.{ImageTables}
use Rattle.machine.specs.Trace.{Ended}
use Rattle.machine_turn.specs.Steps.{answer_held}
use Rattle.machine_turn.specs.declared.State.{State}
use Rattle.machine_turn.specs.declared.RunAnswer.{RunAnswer}
use Rattle.machine_turn.proofs.laws.StackLaws.{ready_entries}
use Rattle.machine_turn.specs.laws.Going.{Going}
use Rattle.machine_turn.proofs.laws.Going.{going_ends}
use Rattle.alive_scanner.specs.Blocks.{AliveHeld}
use Rattle.machine_loop.specs.Prepared.{tables_in, WithTables}
use Rattle.machine_loop.specs.Turning.{AheadLead}
use Rattle.machine_loop.proofs.run_ahead.Invariants.{RestAt}
use Rattle.machine_loop.proofs.run_ahead.Goals as goal
use Rattle.machine_loop.proofs.run_ahead.Goals.{Start}
use Rattle.machine_loop.proofs.run_ahead.Lts as lts
use Rattle.machine_loop.proofs.run_ahead.Tie as tie
use Rattle.machine_loop.proofs.run_ahead.Reads as reads

abbrev Lts-At-loop-state : Type 0
Lts-At-loop-state = lts.At-loop tie.the-claims reads.Pre reads.Post goal.the-invariant-loop-state goal.the-decreases-loop-state

abbrev Lts-After-turns_ahead-ahead : Type 0
Lts-After-turns_ahead-ahead = lts.After-turns_ahead tie.the-claims reads.Pre reads.Post goal.the-invariant-loop-state goal.the-decreases-loop-state

abbrev Lts-In-Ok : Type 0
Lts-In-Ok = lts.Past-After-known_told2 tie.the-claims reads.Pre reads.Post goal.the-invariant-loop-state goal.the-decreases-loop-state

-- The start, from the head of the loop, and the head, from what the turns leave.
abbrev start_of : Lts-At-loop-state → Start
start_of head = head.before.before.before

abbrev turns-head : Lts-After-turns_ahead-ahead → Lts-At-loop-state
turns-head c = c.before.before.before.before.before.before

-- The machine's tables, and what the turns from the first state rely on.
abbrev tables-here : Start → ImageTables
tables-here s = let a = s.args in tables_in a.machine.now

abbrev Held : Start → Image → Ended → ℕ → Type 0
Held s i whole k =
    let a = s.args in
    WithTables a.machine.now i
    × Going i a.machine.now.image.now (tables-here s) a.text.now a.stack.now a.from whole
    × AliveHeld i.positions a.machine.now.read.last a.machine.now.tables.now a.unions.now a.text.now k a.marks.now a.from.place 0 a.block.now

rest-here : (head : Lts-At-loop-state) (i : Image) (whole : Ended) (k : ℕ) → Held (start_of head) i whole k
    → let a = (start_of head).args in
    let l = head.loop-state in
    RestAt i a.machine.now a.text.now a.unions.now a.marks.now k l.stack l.block
    l.state l.end whole
rest-here head i whole k w = head.loop-state.invariant.4 i whole k w.0 w.1 w.2

-- ---- what the turns lead to, for any image that the tables hold
abbrev stack-left : Lts-After-turns_ahead-ahead → List ℕ
stack-left c = c.turns_ahead-ahead.new.stack

abbrev block-left : Lts-After-turns_ahead-ahead → List ℕ
block-left c = c.turns_ahead-ahead.new.block

abbrev Led : Lts-After-turns_ahead-ahead → Image → Ended → Result State RunAnswer → Type 0
Led c i whole =
    let head = turns-head c in
    let a = (start_of head).args in
    AheadLead i a.machine.now a.text.now head.loop-state.state.place whole (stack-left c) (block-left c)
    c.turns_ahead-ahead.result.end

led : (c : Lts-After-turns_ahead-ahead) (i : Image) (whole : Ended) (k : ℕ) → Held (start_of (turns-head c)) i whole k
    → Led c i whole c.turns_ahead-ahead.result.turned
led c i whole k w =
    let rest = rest-here (turns-head c) i whole k w in
    c.turns_ahead-ahead.ensures.2 i whole k w.0 rest.going rest.held

-- The stack keeps its length.
kept_here : (c : Lts-After-turns_ahead-ahead) → length (stack-left c) ≡ length (start_of (turns-head c)).args.stack.now
kept_here c = c.turns_ahead-ahead.auto.stack ∙ (turns-head c).loop-state.invariant.0

abbrev turns_next : Lts-In-Ok → Lts-After-turns_ahead-ahead
turns_next c = c.before.before.before

-- The state that goes on.
next_here : (c : Lts-In-Ok) (i : Image) (whole : Ended) (k : ℕ)
    → Held (start_of (turns-head (turns_next c))) i whole k → Led (turns_next c) i whole (Ok c.in-Ok.s)
next_here c i whole k w = subst (Led (turns_next c) i whole) c.in-Ok.is (led (turns_next c) i whole k w)

-- The place rises to it.
rises : (c : Lts-In-Ok)
    → let turns = turns_next c in
    let head = turns-head turns in
    let s = c.in-Ok.s in
    (head.loop-state.state.place < s.place) × (s.place ≤ length (start_of head).args.text.now)
    × (turns.turns_ahead-ahead.result.end ≤ s.place + 1024)
rises c =
    let w = (start_of (turns-head (turns_next c))).requires.2 in
    let t = next_here c w.0 w.1 w.2 (w.3, w.4, w.5) in
    (t.1, t.0.within, t.2)

pub loop-state-init : goal.loop-state-init
loop-state-init c =
    (refl, c.requires.1, refl, omega arith, λ i whole k w g h. record { going = g; held = h })

pub turns_ahead-ahead-requires : goal.turns_ahead-ahead-requires
turns_ahead-ahead-requires c =
    let head = c.before.before.before.before.before.before in
    let l = head.loop-state in
    let s = start_of head in
    let w = s.requires.2 in
    let rest = rest-here head w.0 w.1 w.2 (w.3, w.4, w.5) in (
      s.requires.0,
      c.loop-state-test.true,
      l.invariant.3,
      l.invariant.1,
      l.invariant.2,
      (w.0, w.1, w.2, w.3, rest.going, rest.held),
    )

pub shape_of-stack-in-Err : goal.shape_of-stack-in-Err
shape_of-stack-in-Err c = kept_here c.before.before.before.before

pub returns-in-Err : goal.returns-in-Err
returns-in-Err c =
    let turns = c.before.before.before.before in
    λ i whole k w g h. subst (Led turns i whole) c.in-Err.is (led turns i whole k (w, g, h))

pub loop-state-smaller : goal.loop-state-smaller
loop-state-smaller c = let r = rises c.before in omega (arith, r.0, r.1)

pub loop-state-preserved : goal.loop-state-preserved
loop-state-preserved c =
    let turns = turns_next c.before in
    let r = rises c.before in (
      kept_here turns,
      turns.turns_ahead-ahead.ensures.0,
      turns.turns_ahead-ahead.ensures.1,
      r.2,
      λ i whole k w g h.
          let old = (rest-here (turns-head turns) i whole k (w, g, h)).held in
          let t = next_here c.before i whole k (w, g, h) in
          record {
            going = t.0;
            held = record {
              ready = old.ready;
              marked = old.marked;
              from_mark = omega (arith, old.from_mark, r.0);
              held = t.3;
            };
          },
    )

pub at_end-requires : goal.at_end-requires
at_end-requires c =
    let head = c.before.before.before in
    let w = (start_of head).requires.2 in
    ready_entries (rest-here head w.0 w.1 w.2 (w.3, w.4, w.5)).going.ready

pub shape_of-stack : goal.shape_of-stack
shape_of-stack c = c.loop-state.invariant.0

pub returns : goal.returns
returns c =
    let head = c.before.before.before.before in
    let l = head.loop-state in
    let a = (start_of head).args in
    λ i whole k w g h.
    ap answer_held c.at_end.ensures
    ∙ going_ends i a.machine.now.image.now (tables-here (start_of head)) w.decoded a.text.now l.stack l.state whole
    (rest-here head i whole k (w, g, h)).going (omega arith)
