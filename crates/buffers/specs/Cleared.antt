-- A buffer whose front is filled with zeros. The definition only: its laws are in `laws`.
use Rattle.std.specs.Prelude.{List, ◌++◌, ℕ, min, length, drop, replicate}

-- The first n bytes as zeros, or all of them where there are no more; then the rest.
unfoldable pub cleared : ℕ → List ℕ → List ℕ
cleared n d = replicate (min n (length d)) 0 ++ drop n d
