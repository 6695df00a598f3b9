-- The expressions of document 01's table and of requests [1] and [8], and what questions 8 to 10 answer of each: one table with one theorem.
use Rattle.std.specs.Prelude.{◌≡◌, refl, List, [], ◌∷◌, map, ℕ}
use Rattle.std.proofs.Math.Option.{Option, none, some}
use Rattle.basics.specs.Settle.{settle, same_all, least_solution}
use Rattle.sheet.specs.Expression.{Expression, epsilon, bottom, token, sequence, alternative, fixed_point, variable, repetition, size}
use Rattle.types.specs.Types.{epsilon_type, bottom_type, token_type, flap_sequence_type, is_bottom, sequence_type, alternative_type, repetition_type_with}
use Rattle.types.specs.Nodes.{nodes_from, nodes}
use Rattle.types.specs.LeastTypes.{node_type_with, same_type, types_of, least_types}
use Rattle.types.specs.Questions.{Fault, separable, apart, unless, node_fault, first_fault, type_fault}

record Example : Type 0 where
  expression : Expression
  answer : Option Fault

-- The two tokens of sheet D.
abbrev N : Expression
N = token 0

abbrev S : Expression
S = token 1

abbrev at : ℕ → ℕ → Option Fault
at number node = some (record { number = number; node = node })

abbrev examples : List Example
examples =
    -- D's own, N·μβ.(ε ∨ S·(N·β))
    record { expression = sequence N (fixed_point (alternative epsilon (sequence S (sequence N (variable 0))))); answer = none }
    -- N ∨ N
    ∷ record { expression = alternative N N; answer = at 10 0 }
    -- (ε ∨ N)·S
    ∷ record { expression = sequence (alternative epsilon N) S; answer = at 9 0 }
    -- μα.α
    ∷ record { expression = fixed_point (variable 0); answer = at 8 1 }
    -- μα.(α ∨ (N ∨ N)): 10 before 8
    ∷ record { expression = fixed_point (alternative (variable 0) (alternative N N)); answer = at 10 1 }
    -- μα.N·α
    ∷ record { expression = fixed_point (sequence N (variable 0)); answer = none }
    -- (S·μβ.(ε ∨ N·β))·N, and with S last
    ∷ record { expression = sequence (sequence S (fixed_point (alternative epsilon (sequence N (variable 0))))) N; answer = at 9 0 }
    ∷ record { expression = sequence (sequence S (fixed_point (alternative epsilon (sequence N (variable 0))))) S; answer = none }
    -- unfinished branches, request [8] (more in `Unfinished`): N·⊥ ∨ N·⊥, (S·(N·⊥ ∨ ε))·N
    ∷ record { expression = alternative (sequence N bottom) (sequence N bottom); answer = none }
    ∷ record { expression = sequence (sequence S (alternative (sequence N bottom) epsilon)) N; answer = none }
    -- ⊥·N, (N·⊥)*, ⊥·N ∨ N, and (⊥·(N ∨ ε))·N, where N does not follow either
    ∷ record { expression = sequence bottom N; answer = none }
    ∷ record { expression = repetition (sequence N bottom); answer = none }
    ∷ record { expression = alternative (sequence bottom N) N; answer = none }
    ∷ record { expression = sequence (sequence bottom (alternative N epsilon)) N; answer = none }
    -- side conditions are unchanged: ε·⊥, (N·⊥ ∨ ε)·N, and N·(N·⊥ ∨ ε) ∨ N, whose first branch denotes N
    ∷ record { expression = sequence epsilon bottom; answer = at 9 0 }
    ∷ record { expression = sequence (alternative (sequence N bottom) epsilon) N; answer = at 9 0 }
    ∷ record { expression = alternative (sequence N (alternative (sequence N bottom) epsilon)) N; answer = at 10 0 }
    -- repetitions that have a type: (N)*, N·(S·N)*, (⊥)*, (N·(S)*)*
    ∷ record { expression = repetition N; answer = none }
    ∷ record { expression = sequence N (repetition (sequence S N)); answer = none }
    ∷ record { expression = repetition bottom; answer = none }
    ∷ record { expression = repetition (sequence N (repetition S)); answer = none }
    -- (ε)*, (ε ∨ N)*, ((N)*)*, (N·(N)*)*
    ∷ record { expression = repetition epsilon; answer = at 9 0 }
    ∷ record { expression = repetition (alternative epsilon N); answer = at 9 0 }
    ∷ record { expression = repetition (repetition N); answer = at 9 0 }
    ∷ record { expression = repetition (sequence N (repetition N)); answer = at 9 0 }
    -- (N·(S)*)·S, (N ∨ N)*
    ∷ record { expression = sequence (sequence N (repetition S)) S; answer = at 9 0 }
    ∷ record { expression = repetition (alternative N N); answer = at 10 1 }
    -- μα.(α)*: 9 at the repetition, before 8 at its part
    ∷ record { expression = fixed_point (repetition (variable 0)); answer = at 9 1 }
    -- μα.N·(S·α)*
    ∷ record { expression = fixed_point (sequence N (repetition (sequence S (variable 0)))); answer = at 9 3 }
    -- μα.(N ∨ S·((S·α)·N)*): the variable counts past the repetition
    ∷ record { expression = fixed_point (alternative N (sequence S (repetition (sequence (sequence S (variable 0)) N)))); answer = none }
    ∷ []

examples_answered : map (λ x. type_fault x.expression) examples ≡ map (λ x. x.answer) examples
unfolding type_fault first_fault node_fault unless separable apart least_types types_of least_solution settle same_all node_type_with same_type
    nodes nodes_from size epsilon_type bottom_type token_type flap_sequence_type is_bottom sequence_type alternative_type repetition_type_with
examples_answered = refl
