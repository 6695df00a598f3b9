-- Repetitions and their forms, worked out.
use Rattle.std.specs.Prelude.{◌≡◌, refl}
use Rattle.std.proofs.Math.Option.{some}
use Rattle.basics.specs.Settle.{settle, same_all, least_solution}
use Rattle.sheet.specs.Expression.{Expression, epsilon, token, sequence, alternative, fixed_point, variable, repetition, size}
use Rattle.types.specs.Types.{epsilon_type, bottom_type, flap_sequence_type, is_bottom, sequence_type, alternative_type}
use Rattle.types.specs.Nodes.{nodes_from, nodes}
use Rattle.types.specs.LeastTypes.{node_type_with, same_type, types_of, least_types}
use Rattle.types.specs.Questions.{separable, apart, unless, node_fault, first_fault, type_fault}
use Rattle.types.specs.SpelledOut.{spelled_out}

-- The two tokens of sheet D.
abbrev N : Expression
N = token 0

abbrev S : Expression
S = token 1

-- N·(S·N)*: sheet D's expression, but for the sequence S·N·β, which is (S·N)·β here and S·(N·β) there.
separated : spelled_out (sequence N (repetition (sequence S N)))
    ≡ sequence N (fixed_point (alternative epsilon (sequence (sequence S N) (variable 0))))
separated = refl

-- μα.(N·α)*: there is no fixed point between α and its own under the repetition, and in the form there is one.
counts_past : spelled_out (fixed_point (repetition (sequence N (variable 0))))
    ≡ fixed_point (fixed_point (alternative epsilon (sequence (sequence N (variable 1)) (variable 0))))
counts_past = refl

-- ((N)*)*: the inner form has its own variable, which stays.
twice : spelled_out (repetition (repetition N))
    ≡ fixed_point (alternative epsilon (sequence (fixed_point (alternative epsilon (sequence N (variable 0)))) (variable 0)))
twice = refl

-- (ε)*: both are refused, but not by the same question. The repetition is asked 9 alone (`Examples`); its form is asked first whether ε
-- and ε·β are apart.
form_asked : type_fault (spelled_out (repetition epsilon)) ≡ some (record { number = 10; node = 1 })
unfolding type_fault first_fault node_fault unless separable apart least_types types_of least_solution settle same_all node_type_with same_type
    nodes nodes_from size epsilon_type bottom_type flap_sequence_type is_bottom sequence_type alternative_type
form_asked = refl
