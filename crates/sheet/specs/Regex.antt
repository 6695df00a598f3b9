-- A lexer rule's regex, in the forms that document 01 lists ("The sheet"). Its words are defined by the lexer, not here.
use Rattle.std.specs.Prelude.{ℕ, ◌+◌}

-- Each form's tag in a sheet stands beside it.
pub data Regex : Type 0 where
  -- 0: the empty word
  empty : Regex
  -- 1: a byte class, with its low and its high byte
  class : ℕ → ℕ → Regex
  -- 2: document 01's sequence
  concat : Regex → Regex → Regex
  -- 3: document 01's alternative
  union : Regex → Regex → Regex
  -- 4: star
  star : Regex → Regex

-- How many nodes a regex has: "At most 64 byte classes and 256 regex nodes over all rules".
unfoldable pub regex_nodes : Regex → ℕ
regex_nodes empty = 1
regex_nodes (class low high) = 1
regex_nodes (concat r s) = 1 + (regex_nodes r + regex_nodes s)
regex_nodes (union r s) = 1 + (regex_nodes r + regex_nodes s)
regex_nodes (star r) = 1 + regex_nodes r

-- How many byte classes it has: its positions.
unfoldable pub class_count : Regex → ℕ
class_count empty = 0
class_count (class low high) = 1
class_count (concat r s) = class_count r + class_count s
class_count (union r s) = class_count r + class_count s
class_count (star r) = class_count r
