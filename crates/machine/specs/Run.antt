-- Running as a function, which the code's contracts cite: one turn, turns in a row, and a run with all that it is lent. What it gives is
-- what the relation says, and nothing else (RunsLaws: `runs_iff`).
use Rattle.std.specs.Prelude.{Bool, false, ◌||◌, cond, List, [], ◌∷◌, ◌++◌, ℕ, zero, suc, ◌+◌, length, get_or, ltb}
use Rattle.std.proofs.Math.Option.{Option, none, some}
use Rattle.sheet.specs.Field.{Reading, stop, got}
use Rattle.normal_form.specs.Productions.{Taking}
use Rattle.lexer.specs.Match.{Match, no_match, matched}
use Rattle.lexer.specs.Table.{most_rows}
use Rattle.image.specs.Image.{Image}
use Rattle.image.specs.ImageReading.{read_image}
use Rattle.machine.specs.Trace.{match_at, taking, all_nullable, take_of, State, state, start_state, Ended, ended}
use Rattle.machine.specs.Lent.{most_text_bytes, lent_entries, Scanner, Lent, Ran, rows_of, turned_away, finished}

-- What a turn leads to: a state, or the run's number. A run that ends, ends in the state that it was in.
pub data Turn : Type 0 where
  goes_on : State → Turn
  ends : ℕ → Turn

-- After a match of n bytes whose rule does not skip, by who takes it.
unfoldable pub after_taking : ℕ → ℕ → ℕ → State → Option Taking → Turn
after_taking entries rule n s none = ends 15
after_taking entries rule n s (some t) =
    cond (ltb entries (length t.pending)) (ends 17)
    (goes_on (state (s.place + n) t.pending (s.takes ++ (take_of s.place n rule t.taker ∷ []))))

-- One turn, with a stack of so many entries, by what matches at the state's place.
unfoldable pub turn : Image → ℕ → Match → State → Turn
turn image entries no_match s = ends 14
turn image entries (matched rule n) s =
    cond (get_or image.skips rule false)
    (goes_on (state (s.place + n) s.pending s.takes))
    (after_taking entries rule n s (taking image.rows s.pending rule))

-- At the text's end: 0 or 16.
unfoldable pub end_number : Image → State → ℕ
end_number image s = cond (all_nullable image.rows s.pending) 0 16

-- The turn at the state's place in a text.
unfoldable pub text_turn : Image → ℕ → List ℕ → State → Turn
text_turn image entries text s =
    cond (ltb s.place (length text)) (turn image entries (match_at image text s.place) s) (ends (end_number image s))

-- So many turns from a state on. Each match takes a byte at least, so that as many turns as the rest has bytes are enough.
unfoldable pub trace_from : Image → ℕ → List ℕ → ℕ → State → Ended
trace_from image entries text zero s = ended (end_number image s) s
trace_from image entries text (suc turns) s =
    elim (text_turn image entries text s) [
      | goes_on next ↦ trace_from image entries text turns next
      | ends number ↦ ended number s
    ]

-- From the start, where a stack without an entry gives 17.
unfoldable pub trace : Image → ℕ → List ℕ → Ended
trace image entries text = cond (ltb entries 1) (ended 17 start_state) (trace_from image entries text (length text) start_state)

-- ---- with all that is lent

unfoldable pub is_short : Option Scanner → Bool
is_short none = false
is_short (some s) = ltb (length s.table) lent_entries || ltb (length s.winners) most_rows

unfoldable pub has_many_rows : Option Scanner → Image → Bool
has_many_rows none image = false
has_many_rows (some s) image = ltb most_rows (length (rows_of image))

unfoldable pub run_image : Image → List ℕ → Lent → Ran
run_image image text lent =
    cond (has_many_rows lent.scanner image) (turned_away 19 0 lent) (finished image lent (trace image (length lent.stack) text))

unfoldable pub run_reading : Reading Image → List ℕ → Lent → Ran
run_reading (stop question place) text lent = turned_away question place lent
run_reading (got image end) text lent = run_image image text lent

-- Running an image's bytes over a text.
unfoldable pub run : List ℕ → List ℕ → Lent → Ran
run bytes text lent =
    cond (is_short lent.scanner) (turned_away 18 0 lent)
    (cond (ltb most_text_bytes (length text)) (turned_away 12 0 lent) (run_reading (read_image bytes) text lent))
