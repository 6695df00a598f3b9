-- A recogniser's answer gives its three numbers.
use mathlib.Core.Path.{ap, ◌∙◌}
use mathlib.Core.List.{◌∷◌, []}
use Prim.Native.Nat.{ℕ}
use Rattle.text_recogniser.specs.Ends.{answer_held}
use Rattle.image.specs.Answer.{numbers_of}
use Rattle.vinzagew.proofs.NumbersFromRecognition.from.Goals as goal

pub returns : goal.returns
unfolding answer_held numbers_of
returns c = c.three.ensures ∙ ap (λ (n : ℕ). n ∷ c.args.told.place ∷ c.args.told.count ∷ []) c.from.ensures
