-- How code holds the pending nonterminals: the first one apart, the others on a stack, from entry 1 on, the second of all on top. What the
-- machine does with them is not said here.
use Rattle.std.specs.Prelude.{List, [], ◌∷◌, ℕ, zero, suc, ◌+◌, ◌≤◌, ◌<◌, length, get_or, set}
use Rattle.basics.specs.Lists.{All}
use Rattle.normal_form.specs.Productions.{Row}
use Rattle.image_reader.specs.Tables.{RowsHeld}

-- So many nonterminals on a stack.
unfoldable pub stacked : List ℕ → ℕ → List ℕ
stacked stack zero = []
stacked stack (suc size) = get_or stack (suc size) 0 ∷ stacked stack size

-- So many pending nonterminals, the first of which is given.
unfoldable pub pending : List ℕ → ℕ → ℕ → List ℕ
pending stack zero first = []
pending stack (suc below) first = first ∷ stacked stack below

-- The stack with a tail from an entry on, its first member on top.
unfoldable pub pushed : List ℕ → ℕ → List ℕ → List ℕ
pushed stack base [] = stack
pushed stack base (n ∷ tail) = set (pushed stack base tail) (base + length tail) n

-- The tables hold these rows, and the pending ones are nonterminals.
pub record Ready (bytes starts productions : List ℕ) (empty : ℕ) (rows : List Row) (nonterminals : ℕ) (stack : List ℕ) (depth first : ℕ)
    : Type 0 where
  pub held : RowsHeld bytes nonterminals starts productions empty rows
  pub most : nonterminals ≤ 64
  pub inside : depth ≤ length stack
  pub below : All (λ m. m < nonterminals) (pending stack depth first)
