-- A name for a variable's node, as the proofs speak of it.
use Rattle.types.specs.Nodes.{Node, variable_node, Binder}

abbrev pub variable_of : Binder → Node
variable_of b = variable_node b.node b.guarded
