-- `run_turns` meets its contract. The loop's invariant: the turns from the present state lead to the end of every run that those from the
-- first state lead to, the matches found ahead that are left are those from its place on, and so much was charged as before.
use mathlib.Core.Path.{◌≡◌}
use mathlib.Core.List.{List}
use Prim.Native.Nat.{ℕ, ◌+◌, ◌-◌, ◌≤◌}
use lib.ListN.{length, drop}
use Rattle.image.specs.Image.{Image}
use Rattle.machine.specs.Trace.{Ended}
use Rattle.machine_turn.specs.declared.State.{State}
use Rattle.machine_turn.specs.laws.Going.{Going}
use Rattle.alive_scanner.specs.Ahead.{Ahead}
use Rattle.machine_loop.specs.Prepared.{tables_in, WithTables}
use Rattle.machine_loop.specs.declared.Machine.{Machine}
use Rattle.machine_loop.specs.declared.Machine.{Machine}
use Rattle.machine_loop.specs.Turning.{Charged}
use Rattle.machine_loop.proofs.run_turns.Given as goal

-- What holds of a state, for an image and a run that the turns lead to.
pub record TurnedTo (i : Image) (m : Machine) (text matches : List ℕ) (start to : ℕ) (stack : List ℕ) (state : State) (turn : ℕ) (whole : Ended)
    : Type 0 where
  pub going : Going i m.image.now (tables_in m) text stack state whole
  pub left_ahead : Ahead i.positions i.first text to state.place (drop turn matches)
  pub charged : (v : ℕ) → Charged i text start matches v → Charged i text state.place (drop turn matches) v

abbrev pub invariant-loop-state : goal.invariant-loop-state
invariant-loop-state l =
    (length l.stack ≡ length l.initial.stack) × (l.initial.state.place + l.turn ≤ l.state.place) × (l.turn ≡ 0 → l.state.place ≡ l.initial.state.place)
    × ((i : Image) (whole : Ended) (to : ℕ) → WithTables l.machine i
    → Going i l.machine.image.now (tables_in l.machine) l.text l.initial.stack l.initial.state whole → Ahead i.positions i.first l.text to l.initial.state.place l.matches
    → TurnedTo i l.machine l.text l.matches l.initial.state.place to l.stack l.state l.turn whole)

abbrev pub decreases-loop-state : goal.decreases-loop-state
decreases-loop-state l = length l.text - l.state.place
