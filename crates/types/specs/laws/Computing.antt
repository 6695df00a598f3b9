-- One name that opens every definition of this crate and of those below it, for theorems that compute.
use Rattle.types.specs.Types.{epsilon_type, bottom_type, token_type, flap_sequence_type, is_bottom, sequence_type, alternative_type, repetition_type_with}
use Rattle.types.specs.Nodes.{nodes_from, nodes}
use Rattle.types.specs.LeastTypes.{node_type_with, same_type, types_of, least_types}
use Rattle.types.specs.Questions.{separable, apart, unless, node_fault, first_fault, type_fault}
use Rattle.sheet.specs.laws.Computing.{computing_sheet}
use Rattle.basics.specs.laws.Computing.{computing_laws}

unfoldable pub computing_types : Unit {0}
unfolding epsilon_type bottom_type token_type flap_sequence_type is_bottom sequence_type alternative_type repetition_type_with nodes_from nodes node_type_with same_type types_of least_types separable apart unless node_fault first_fault type_fault computing_sheet computing_laws
computing_types = tt
