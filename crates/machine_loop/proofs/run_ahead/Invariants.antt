-- `run_ahead` meets its contract. The loop's invariant: the turns from the present state lead to the end of every run that those from the
-- first state lead to, and the marks and the block hold what finding matches ahead from its place relies on.
use mathlib.Core.Path.{◌≡◌}
use mathlib.Core.List.{List}
use Prim.Native.Nat.{ℕ, ◌+◌, ◌-◌, ◌≤◌}
use lib.ListN.{length}
use Rattle.image.specs.Image.{Image}
use Rattle.machine.specs.Trace.{Ended}
use Rattle.machine_turn.specs.declared.State.{State}
use Rattle.machine_turn.specs.laws.Going.{Going}
use Rattle.alive_scanner.specs.Blocks.{AliveHeld}
use Rattle.machine_loop.specs.Prepared.{tables_in, WithTables}
use Rattle.machine_loop.specs.declared.Machine.{Machine}
use Rattle.machine_loop.proofs.run_ahead.Given as goal

-- What holds of a state, for an image and a run that the turns lead to; k is the first block that is marked.
pub record RestAt (i : Image) (m : Machine) (text unions marks : List ℕ) (k : ℕ) (stack block : List ℕ) (state : State) (end : ℕ) (whole : Ended)
    : Type 0 where
  pub going : Going i m.image.now (tables_in m) text stack state whole
  pub held : AliveHeld i.positions m.read.last m.tables.now unions text k marks state.place end block

abbrev pub invariant-loop-state : goal.invariant-loop-state
invariant-loop-state l =
    (length l.stack ≡ length l.initial.stack) × (length l.block ≡ 1024) × (length l.words ≡ 1024) × (l.end ≤ l.state.place + 1024)
    × ((i : Image) (whole : Ended) (k : ℕ) → WithTables l.machine i
    → Going i l.machine.image.now (tables_in l.machine) l.text l.initial.stack l.initial.state whole
    → AliveHeld i.positions l.machine.read.last l.machine.tables.now l.unions l.text k l.marks l.initial.state.place 0 l.initial.block
    → RestAt i l.machine l.text l.unions l.marks k l.stack l.block l.state l.end whole)

abbrev pub decreases-loop-state : goal.decreases-loop-state
decreases-loop-state l =
    length l.text - l.state.place
