-- What running does, as relations: a turn goes on or the run stops, one case for a skip, a take, acceptance and each of the questions 14 to
-- 17; and a run with all that it is lent, one case for each question before the text is read. It names neither the reader of images nor
-- turns that are counted; it has one answer, and `run` gives it (RunsLaws: `runs_iff`).
use Rattle.std.specs.Prelude.{◌≡◌, Bool, true, false, List, [], ◌∷◌, ◌++◌, ◌⊎◌, ℕ, ◌+◌, ◌≤◌, ◌<◌, length, get_or}
use Rattle.std.proofs.Math.Option.{Option, none, some}
use Rattle.normal_form.specs.Productions.{Taking}
use Rattle.lexer.specs.Match.{no_match, matched}
use Rattle.lexer.specs.Table.{most_rows}
use Rattle.image.specs.Image.{Image}
use Rattle.image.specs.ImageFormat.{ReadableAs, FirstOffence}
use Rattle.machine.specs.Trace.{match_at, taking, all_nullable, take_of, State, state, start_state, Ended, ended}
use Rattle.machine.specs.Lent.{most_text_bytes, lent_entries, Scanner, Lent, Ran, rows_of, turned_away, finished}

-- What matches at the state's place: "The longest match over all R rules wins". Whether the rule skips is given.
pub record Matches (image : Image) (text : List ℕ) (s : State) (rule n : ℕ) (skips : Bool) : Type 0 where
  pub before_end : s.place < length text
  pub longest : match_at image text s.place ≡ matched rule n
  pub skipping : get_or image.skips rule false ≡ skips

-- Turns in a row from a state, with a stack of so many entries, to the state in which the run stops.
pub data Traces (image : Image) (text : List ℕ) (entries : ℕ) : State → Ended → Type 0 where
  -- "A skip moves on."
  rule_skipped : {s : State} {e : Ended} (rule n : ℕ) → Matches image text s rule n true
      → Traces image text entries (state (s.place + n) s.pending s.takes) e → Traces image text entries s e
  -- "One with a production for that rule takes it, its tail replaces it, and the text moves on."
  rule_taken : {s : State} {e : Ended} (rule n : ℕ) (t : Taking) → Matches image text s rule n false → taking image.rows s.pending rule ≡ some t
      → length t.pending ≤ entries
      → Traces image text entries (state (s.place + n) t.pending (s.takes ++ (take_of s.place n rule t.taker ∷ []))) e
      → Traces image text entries s e
  -- "Does a rule match here? No: 14."
  nothing_matched : {s : State} → s.place < length text → match_at image text s.place ≡ no_match → Traces image text entries s (ended 14 s)
  -- "Does a pending nonterminal take it? No: 15."
  rule_untaken : {s : State} (rule n : ℕ) → Matches image text s rule n false → taking image.rows s.pending rule ≡ none
      → Traces image text entries s (ended 15 s)
  -- "Does the stack hold all pending nonterminals .. after each take? No: 17, at .. that token's start."
  stack_overflowed : {s : State} (rule n : ℕ) (t : Taking) → Matches image text s rule n false → taking image.rows s.pending rule ≡ some t
      → entries < length t.pending → Traces image text entries s (ended 17 s)
  -- "At the end, are the pending ones nullable? No: 16, at the text's length."
  nullable_at_end : {s : State} → s.place ≡ length text → all_nullable image.rows s.pending ≡ true → Traces image text entries s (ended 0 s)
  pending_at_end : {s : State} → s.place ≡ length text → all_nullable image.rows s.pending ≡ false → Traces image text entries s (ended 16 s)

-- "a short table or rule buffer"
abbrev pub Short : Option Scanner → Type 0
Short none = ⊥
Short (some s) = (length s.table < lent_entries) ⊎ (length s.winners < most_rows)

-- "over 256 rows"
abbrev pub ManyRows : Option Scanner → Image → Type 0
ManyRows none image = ⊥
ManyRows (some s) image = most_rows < length (rows_of image)

-- Neither 18 nor 12, 13 or 19 is given: the run begins, with this image.
pub record Begins (bytes text : List ℕ) (lent : Lent) (image : Image) : Type 0 where
  pub not_short : Short lent.scanner → ⊥
  pub within : length text ≤ most_text_bytes
  pub readable : ReadableAs bytes image
  pub few_rows : ManyRows lent.scanner image → ⊥

-- Running an image's bytes over a text.
pub data Runs (bytes text : List ℕ) (lent : Lent) : Ran → Type 0 where
  -- "a short table or rule buffer is 18, before 12"
  short : Short lent.scanner → Runs bytes text lent (turned_away 18 0 lent)
  -- "Is the text within 1,048,576 bytes? No: 12."
  long_text : (Short lent.scanner → ⊥) → most_text_bytes < length text → Runs bytes text lent (turned_away 12 0 lent)
  -- "Is the image readable? No: 13, at the first offending number or leftover byte."
  unreadable : (p : ℕ) → (Short lent.scanner → ⊥) → length text ≤ most_text_bytes → (((i : Image) × ReadableAs bytes i) → ⊥) → FirstOffence bytes p
      → Runs bytes text lent (turned_away 13 p lent)
  -- "over 256 rows is 19, after 13"
  many_rows : (image : Image) → (Short lent.scanner → ⊥) → length text ≤ most_text_bytes → ReadableAs bytes image
      → ManyRows lent.scanner image → Runs bytes text lent (turned_away 19 0 lent)
  -- "Does the stack hold all pending nonterminals, at the start ..? No: 17, at place 0"
  no_entry : (image : Image) → Begins bytes text lent image → length lent.stack < 1
      → Runs bytes text lent (finished image lent (ended 17 start_state))
  started : (image : Image) (e : Ended) → Begins bytes text lent image → 1 ≤ length lent.stack
      → Traces image text (length lent.stack) start_state e → Runs bytes text lent (finished image lent e)
