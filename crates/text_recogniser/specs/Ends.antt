-- What the recogniser's answer is in the terms of the page, what a descent's number tells, and what is left in the lent list.
use Rattle.std.specs.Prelude.{◌≡◌, List, ℕ, ◌+◌, ◌*◌, ◌≤◌, length}
use Rattle.basics.specs.Lists.{written_over}
use Rattle.image.specs.Answer.{Answer, answer}
use Rattle.recogniser.specs.Descends.{Descent, left, stuck}
use Rattle.recogniser.specs.Recognise.{Ending}
use Rattle.text_recogniser.specs.declared.Recognition.{Recognition}

unfoldable pub answer_held : Recognition → Answer
answer_held r = answer r.number r.place r.count

-- Of so many tokens, how many are left: their number twice, and one more where the descent is stuck.
pub data Told (count : ℕ) : ℕ → Descent → Type 0 where
  leaves : (rest : List ℕ) → length rest ≤ count → Told count (length rest * 2) (left rest)
  sticks : (rest : List ℕ) → length rest ≤ count → Told count (length rest * 2 + 1) (stuck rest)

-- The answer is that of the ending, whose tokens are written over the list.
pub record EndsAs (e : Ending) (r : Recognition) (list list' : List ℕ) : Type 0 where
  pub answered : answer_held r ≡ e.answer
  pub written : list' ≡ written_over e.tokens list
