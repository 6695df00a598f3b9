-- A few walks, computed from the definitions. Tokens N = 0 and S = 1.
use Rattle.std.specs.Prelude.{◌≡◌, refl, List, [], ◌∷◌, ℕ}
use Rattle.std.proofs.Math.Option.{Option, some}
use Rattle.sheet.specs.Expression.{Expression, epsilon, bottom, sequence, alternative, fixed_point, variable, size}
use Rattle.normal_form.specs.laws.Computing.{computing_normal_form}
use Rattle.normal_form.proofs.laws.Examples.{N, S}
use Rattle.normal_form.specs.ProductionWalk.{walk_step, walk, walk_of}

-- The walk with a step for each node.
abbrev from_node : Expression → ℕ → ℕ → Option (List ℕ)
from_node e t n = walk_of e t (size e) n []

-- (S·μβ.(ε ∨ N·β))·S: the node remembered first is the last of the tail. Through β the walk comes to the fixed point.
abbrev list_then_slash : Expression
list_then_slash = sequence (sequence S (fixed_point (alternative epsilon (sequence N (variable 0))))) S

pub last_remembered_first : from_node list_then_slash 1 0 ≡ some (3 ∷ 9 ∷ [])
unfolding computing_normal_form walk_step walk
last_remembered_first = refl

pub through_variable : from_node list_then_slash 0 8 ≡ some (8 ∷ [])
unfolding computing_normal_form walk_step walk
through_variable = refl

-- N·⊥ ∨ N: the left part, which denotes nothing, begins with no token, so that the walk leads into the right one.
pub unfinished-not-entered : from_node (alternative (sequence N bottom) N) 0 0 ≡ some []
unfolding computing_normal_form walk_step walk
unfinished-not-entered = refl
