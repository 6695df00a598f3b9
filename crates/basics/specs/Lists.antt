-- Lists: what holds of every member, and sums over the members; the members that pass a test; the first answer of two; a buffer written over. The laws of
-- lists themselves are the library's.
use Rattle.std.specs.Prelude.{Bool, true, false, not, List, [], ◌∷◌, ◌++◌, ℕ, ◌+◌, length, drop}
use Rattle.std.proofs.Math.Option.{Option, none, some}

-- Every member of the list is so.
abbrev pub All : {A : Type 0} → (A → Type 0) → List A → Type 0
All P [] = Unit
All P (a ∷ l) = P a × All P l

-- The sum of what a function gives for each member.
abbrev pub sum : {A : Type 0} → (A → ℕ) → List A → ℕ
sum f [] = 0
sum f (a ∷ l) = f a + sum f l

-- The members that pass a test, in their order.
unfoldable pub filter : {A : Type 0} → (A → Bool) → List A → List A
filter p [] = []
filter p (a ∷ l) = elim (p a) [ true ↦ a ∷ filter p l | false ↦ filter p l ]

-- A stable partition: the members that pass a test, then the others, both in their order.
unfoldable pub partition : {A : Type 0} → (A → Bool) → List A → List A
partition p l = filter p l ++ filter (λ a. not (p a)) l

-- The first answer, or the second where there is none.
abbrev pub or_else : {A : Type 0} → Option A → Option A → Option A
or_else none b = b
or_else (some a) b = some a

-- A buffer over whose front a list is written: the rest keeps what it held.
unfoldable pub written_over : List ℕ → List ℕ → List ℕ
written_over new buffer = new ++ drop (length new) buffer
