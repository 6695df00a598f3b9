-- The turns of a run in code: the state that the loop of turns keeps, and what a turn and the end of the text make of it. The loop itself is
-- not here: whoever goes on by turns, all of them or one, lives on these laws.
use Rattle.std.specs.Prelude.{◌≡◌, List, ℕ, ◌+◌, ◌≤◌, length, drop}
use Rattle.image.specs.Image.{Image}
use Rattle.image_reader.specs.Decoded.{ImageTables}
use Rattle.machine.specs.Trace.{Take, Ended}
use Rattle.machine.specs.Run.{trace_from}
use Rattle.machine_turn.specs.Stack.{Ready}
use Rattle.machine_turn.specs.Steps.{state_held}
use Rattle.machine_turn.specs.declared.State.{State}

-- The turns from the present state, with these takes before it, lead to the end of the whole run.
pub record Going (i : Image) (bytes : List ℕ) (t : ImageTables) (text stack : List ℕ) (s : State) (whole : Ended) : Type 0 where
  pub takes : List Take
  pub kept : length takes ≡ s.count
  pub turns : ℕ
  pub enough : length text ≤ s.place + turns
  pub within : s.place ≤ length text
  pub counted : s.count ≤ s.place
  pub same : trace_from i (length stack) text turns (state_held takes stack s) ≡ whole
  pub ready : Ready bytes (drop 384 t.tables) t.productions t.empty i.rows t.nonterminals stack s.depth s.first
