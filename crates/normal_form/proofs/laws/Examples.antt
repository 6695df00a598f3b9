-- Normal forms of a few expressions, computed from the definitions. Tokens N = 0 and S = 1.
use Rattle.std.specs.Prelude.{◌≡◌, refl, true, false, List, [], ◌∷◌, ℕ}
use Rattle.basics.specs.Rounds.{rounds}
use Rattle.basics.specs.Lists.{All, filter}
use Rattle.sheet.specs.Expression.{Expression, epsilon, bottom, token, sequence, alternative, fixed_point, variable, repetition}
use Rattle.types.specs.Nodes.{nodes_from, nodes}
use Rattle.normal_form.specs.Productions.{Production, Row, ended_by, node_row, rows}
use Rattle.normal_form.specs.Derives.{node_derives, derives}
use Rattle.normal_form.specs.NormalForm.{all_derive, normal_form}

pub record Example : Type 0 where
  pub expression : Expression
  pub expected : List Row

abbrev pub N : Expression
N = token 0

abbrev pub S : Expression
S = token 1

abbrev pub goes : ℕ → List ℕ → Production
goes t tail = record { head = t; tail = tail }

abbrev pub row : List Production → Row
row ps = record { has_epsilon = false; productions = ps }

abbrev pub nullable_row : List Production → Row
nullable_row ps = record { has_epsilon = true; productions = ps }

abbrev pub examples : List Example
examples =
    -- (S·μβ.(ε ∨ N·β))·S: the right node comes at the end of a tail.
    record {
      expression = sequence (sequence S (fixed_point (alternative epsilon (sequence N (variable 0))))) S;
      expected =
          row (goes 1 (3 ∷ 9 ∷ []) ∷ []) ∷ row (goes 1 (3 ∷ []) ∷ []) ∷ row (goes 1 [] ∷ [])
          ∷ nullable_row (goes 0 (8 ∷ []) ∷ []) ∷ nullable_row (goes 0 (8 ∷ []) ∷ []) ∷ nullable_row [] ∷ row (goes 0 (8 ∷ []) ∷ [])
          ∷ row (goes 0 [] ∷ []) ∷ nullable_row (goes 0 (8 ∷ []) ∷ []) ∷ row (goes 1 [] ∷ []) ∷ [];
    }
    -- N·⊥ ∨ S: the production with the dead tail goes.
    ∷ record {
      expression = alternative (sequence N bottom) S;
      expected = row (goes 1 [] ∷ []) ∷ row [] ∷ row (goes 0 [] ∷ []) ∷ row [] ∷ row (goes 1 [] ∷ []) ∷ [];
    }
    -- μα.N·α denotes nothing: its row is bare.
    ∷ record {
      expression = fixed_point (sequence N (variable 0));
      expected = row [] ∷ row [] ∷ row (goes 0 [] ∷ []) ∷ row [] ∷ [];
    }
    -- Sheet D's, N·μβ.(ε ∨ S·(N·β)).
    ∷ record {
      expression = sequence N (fixed_point (alternative epsilon (sequence S (sequence N (variable 0)))));
      expected =
          row (goes 0 (2 ∷ []) ∷ []) ∷ row (goes 0 [] ∷ []) ∷ nullable_row (goes 1 (7 ∷ []) ∷ []) ∷ nullable_row (goes 1 (7 ∷ []) ∷ [])
          ∷ nullable_row [] ∷ row (goes 1 (7 ∷ []) ∷ []) ∷ row (goes 1 [] ∷ []) ∷ row (goes 0 (9 ∷ []) ∷ []) ∷ row (goes 0 [] ∷ [])
          ∷ nullable_row (goes 1 (7 ∷ []) ∷ []) ∷ [];
    }
    -- N·(S·N)*: the repetition, node 2, comes at the end of its part's tails.
    ∷ record {
      expression = sequence N (repetition (sequence S N));
      expected =
          row (goes 0 (2 ∷ []) ∷ []) ∷ row (goes 0 [] ∷ []) ∷ nullable_row (goes 1 (5 ∷ 2 ∷ []) ∷ []) ∷ row (goes 1 (5 ∷ []) ∷ [])
          ∷ row (goes 1 [] ∷ []) ∷ row (goes 0 [] ∷ []) ∷ [];
    }
    -- (N)* names itself, the start; (⊥)* has ε alone.
    ∷ record { expression = repetition N; expected = nullable_row (goes 0 (0 ∷ []) ∷ []) ∷ row (goes 0 [] ∷ []) ∷ [] }
    ∷ record { expression = repetition bottom; expected = nullable_row [] ∷ row [] ∷ [] }
    ∷ []

pub examples_hold : All (λ (x : Example). normal_form x.expression ≡ x.expected) examples
unfolding normal_form filter all_derive rows node_row ended_by derives node_derives nodes nodes_from rounds
examples_hold = (refl, (refl, (refl, (refl, (refl, (refl, (refl, tt)))))))
