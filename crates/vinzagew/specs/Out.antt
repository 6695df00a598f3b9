-- What the exported functions leave: the three numbers of an answer at the front of `out`; where `out` is shorter, nothing changes.
use Rattle.std.specs.Prelude.{cond, List, [], ◌∷◌, ◌++◌, ℕ, ltb, length, drop}
use Rattle.vinzagew.specs.declared.Numbers.{Numbers}

-- The three numbers, one after the other.
unfoldable pub numbers_held : Numbers → List ℕ
numbers_held n = n.number ∷ n.place ∷ n.amount ∷ []

-- `out` after three numbers were put there.
unfoldable pub out_after : List ℕ → List ℕ → List ℕ
out_after numbers out = cond (ltb (length out) 3) out (numbers ++ drop 3 out)

-- What was lent, after a call that does something only if `out` has room.
unfoldable pub if_room : {A : Type 0} → List ℕ → A → A → A
if_room out after lent = cond (ltb (length out) 3) lent after
