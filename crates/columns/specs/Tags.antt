-- What the tag of a regex node tells: how many parts it has. Which tag a node has is the sheet's to say.
use Rattle.std.specs.Prelude.{cond, ℕ, ltb}

unfoldable pub parts_of : ℕ → ℕ
parts_of tag = cond (ltb tag 2) 0 (cond (ltb tag 4) 2 1)
