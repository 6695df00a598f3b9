-- What matching at a place finds: a rule and how many bytes it takes, or nothing.
use Rattle.std.proofs.Math.Option.{Option, none, some}
use Rattle.std.specs.Prelude.{ℕ}

pub data Match : Type 0 where
  no_match : Match
  matched : ℕ → ℕ → Match

-- Of two matches a longer one wins: a rule that ends a match after so many bytes replaces what was found before it.
unfoldable pub longer : Option ℕ → ℕ → Match → Match
longer none n m = m
longer (some rule) n m = matched rule n
