-- The lists that a function gives for the numbers below n, joined in order: what a loop over an index makes.
-- Nothing here speaks of grammars or of images.
use Rattle.std.specs.Prelude.{List, [], ◌++◌, ℕ, zero, suc}

unfoldable pub concat_below : (ℕ → List ℕ) → ℕ → List ℕ
concat_below f zero = []
concat_below f (suc n) = concat_below f n ++ f n
