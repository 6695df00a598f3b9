-- `vinzagew::three` meets its contract.
use mathlib.Core.Path.{refl}
use Rattle.vinzagew.specs.Out.{numbers_held}
use Rattle.vinzagew.proofs.three.Goals as goal

pub returns : goal.returns
unfolding numbers_held
returns c = refl
