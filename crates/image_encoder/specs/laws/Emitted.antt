-- What writing numbers one after the other leaves: the cursor moves past their bytes in any case, and where they fit, the buffer
-- holds them. So the same code measures and writes.
use Rattle.std.specs.Prelude.{◌≡◌, List, ℕ, ◌+◌, ◌≤◌, length}
use Rattle.number.specs.Number.{splice}
use Rattle.sheet.specs.Spelling.{spell}

-- From a cursor on, so many numbers into a buffer of any length.
pub record Emitted (entry exit : List ℕ) (at next : ℕ) (ns : List ℕ) : Type 0 where
  pub cursor : next ≡ at + length (spell ns)
  pub same_length : length exit ≡ length entry
  pub bytes : at + length (spell ns) ≤ length entry → exit ≡ splice entry at (spell ns)
