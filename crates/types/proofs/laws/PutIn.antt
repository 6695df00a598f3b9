-- A list with one more member at some place, as the lists of open fixed points have it where an expression is raised.
use Rattle.std.specs.Prelude.{List, ◌∷◌, map, ℕ, zero, suc}

-- The second list is the first with x put in at place n.
pub data PutIn {ℓ} {A : Type ℓ} (x : A) : ℕ → List A → List A → Type ℓ where
  in_front : {l : List A} → PutIn x zero l (x ∷ l)
  further_in : {y : A} {n : ℕ} {l m : List A} → PutIn x n l m → PutIn x (suc n) (y ∷ l) (y ∷ m)

pub put_in_map : {A B : Type 0} (f : A → B) {x : A} {n : ℕ} {l m : List A} → PutIn x n l m → PutIn (f x) n (map f l) (map f m)
put_in_map f in_front = in_front
put_in_map f (further_in s) = further_in (put_in_map f s)
