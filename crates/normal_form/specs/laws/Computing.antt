-- One name that opens every definition of this crate and of those below it, for theorems that compute.
use Rattle.basics.specs.Rounds.{rounds}
use Rattle.normal_form.specs.Productions.{production_of, ended_by, node_row, rows}
use Rattle.normal_form.specs.Derives.{node_derives, derives}
use Rattle.basics.specs.Lists.{filter}
use Rattle.normal_form.specs.NormalForm.{all_derive, normal_form}
use Rattle.types.specs.laws.Computing.{computing_types}

unfoldable pub computing_normal_form : Unit {0}
unfolding production_of ended_by node_row rows node_derives derives all_derive filter normal_form computing_types rounds
computing_normal_form = tt
