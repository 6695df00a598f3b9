-- A run's answer gives its three numbers.
use mathlib.Core.Path.{ap, ◌∙◌}
use mathlib.Core.List.{◌∷◌, []}
use Prim.Native.Nat.{ℕ}
use Rattle.machine_turn.specs.Steps.{answer_held}
use Rattle.image.specs.Answer.{numbers_of}
use Rattle.vinzagew.proofs.NumbersFromRunAnswer.from.Goals as goal

pub returns : goal.returns
unfolding answer_held numbers_of
returns c = c.three.ensures ∙ ap (λ (n : ℕ). n ∷ c.args.ran.place ∷ c.args.ran.count ∷ []) c.from.ensures
