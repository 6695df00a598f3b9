-- A sheet and its padded twin: the same numbers, each written in any way. Definitions only; that both are read alike is in TwinLaws.
use Rattle.std.specs.Prelude.{◌≡◌, List, ℕ, drop}
use Rattle.sheet.specs.Spelling.{NumberAt, NumbersAt}

-- From a place of the one and a place of the other on, the same numbers stand, one after the other, each written in any way; and then the
-- same bytes. A sheet that is numbers to its end has no bytes left then.
pub data SameNumbers (a b : List ℕ) : ℕ → ℕ → Type 0 where
  same_rest : {i j : ℕ} → drop i a ≡ drop j b → SameNumbers a b i j
  same_number : {i j n next other : ℕ} → NumberAt a i n next → NumberAt b j n other → SameNumbers a b next other → SameNumbers a b i j

abbrev pub Twins : List ℕ → List ℕ → Type 0
Twins a b = SameNumbers a b 0 0

-- A place of the one and a place of the other: the same numbers stand before them.
abbrev pub SamePlace : List ℕ → List ℕ → ℕ → ℕ → Type 0
SamePlace a b p q = (ns : List ℕ) × NumbersAt a 0 ns p × NumbersAt b 0 ns q
