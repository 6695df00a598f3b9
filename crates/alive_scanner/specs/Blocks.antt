-- What is kept of the alive positions while a text is read with them: those of one block of 1,024 places, and for each block those just
-- after it. A place's set stands in its block's word at the place's remainder. How the sets are found is not said here.
use Rattle.std.specs.Prelude.{◌≡◌, List, ℕ, ◌+◌, ◌*◌, ◌%◌, ◌≤◌, ◌<◌, length, get_or, drop}
use Rattle.lexer.specs.Positions.{Position}
use Rattle.lexer.specs.Alive.{alive}
use Rattle.scanner.specs.Meaning.{Prepared}
use Rattle.leading_sets.specs.Leading.{Unions}

-- The tables hold the positions, and what leads to each set of them and follows it.
pub record AliveReady (ps : List Position) (last : ℕ) (tables unions : List ℕ) : Type 0 where
  pub prepared : Prepared ps last tables
  pub unions_held : Unions (drop 256 tables) unions

-- The places from one to another have their sets in the block.
abbrev pub BlockHolds : List Position → List ℕ → ℕ → ℕ → List ℕ → Type 0
BlockHolds ps text from to block = (q : ℕ) → from ≤ q → q < to → get_or block (q % 1024) 0 ≡ alive ps (drop q text)

-- The block that ends before a place, as far as the text goes.
abbrev pub HeldBefore : List Position → List ℕ → ℕ → List ℕ → Type 0
HeldBefore ps text end block =
    (q : ℕ) → q < length text → q < end → end ≤ q + 1024 → get_or block (q % 1024) 0 ≡ alive ps (drop q text)

-- For each block, from block k on, the positions that are alive after it.
abbrev pub MarksHold : List Position → List ℕ → ℕ → List ℕ → Type 0
MarksHold ps text k marks = (j : ℕ) → k ≤ j → j * 1024 < length text → get_or marks j 0 ≡ alive ps (drop (j * 1024 + 1024) text)

-- All that a walk from a place relies on, where the block that is held ends before `end`, or earlier than the place.
pub record AliveHeld (ps : List Position) (last : ℕ) (tables unions text : List ℕ) (k : ℕ) (marks : List ℕ) (place end : ℕ) (block : List ℕ)
    : Type 0 where
  pub ready : AliveReady ps last tables unions
  pub marked : MarksHold ps text k marks
  pub from_mark : k * 1024 ≤ place
  pub held : HeldBefore ps text end block
