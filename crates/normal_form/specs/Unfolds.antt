-- What rows unfold to: the expansion relation of the flap paper (Definition 1), from the left. Pending nonterminals unfold to a sequence of the
-- symbols that productions begin with: tokens in a normal form, rules in an image. It does not say which step to take.
use Rattle.std.specs.Prelude.{◌≡◌, ℕ}
use Rattle.std.proofs.Math.Bool.{true}
use mathlib.Core.List.{List, [], ◌∷◌, ◌++◌, Memᴰ}
use Rattle.normal_form.specs.Productions.{Production, Row, row_of}

pub data Unfolds (rows : List Row) : List ℕ → List ℕ → Type 0 where
  none_pending : Unfolds rows [] []
  unfold_epsilon : {n : ℕ} {pending symbols : List ℕ}
      → (row_of rows n).has_epsilon ≡ true → Unfolds rows pending symbols → Unfolds rows (n ∷ pending) symbols
  unfold_production : {n : ℕ} {pending symbols : List ℕ} {p : Production}
      → Memᴰ p (row_of rows n).productions → Unfolds rows (p.tail ++ pending) symbols
      → Unfolds rows (n ∷ pending) (p.head ∷ symbols)
