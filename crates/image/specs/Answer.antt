-- What checking, writing, running and recognising return, and what the sheet's own answer is: a number, a place and an amount. Which
-- answer is given when is said elsewhere.
use Rattle.std.specs.Prelude.{List, [], ◌∷◌, ℕ}

-- The number is 0, or that of the first question that fails. The amount is the "length" of writing, the "tokens taken" of running, the
-- "count of tokens written" of recognising; 0 of checking, which is "answered by number and place".
pub record Answer : Type 0 where
  pub number : ℕ
  pub place : ℕ
  pub amount : ℕ

abbrev pub answer : ℕ → ℕ → ℕ → Answer
answer number place amount = record { number = number; place = place; amount = amount }

-- The three numbers, one after the other.
unfoldable pub numbers_of : Answer → List ℕ
numbers_of a = a.number ∷ a.place ∷ a.amount ∷ []
