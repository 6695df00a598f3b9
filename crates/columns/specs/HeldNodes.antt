-- The nodes and the types that columns hold. Entries past the count are not spoken of.
use Rattle.std.specs.Prelude.{Bool, cond, List, ℕ, suc, eqb, get_or}
use Rattle.basics.specs.Bits.{bit}
use Rattle.types.specs.Types.{LanguageType}
use Rattle.types.specs.Nodes.{Node, epsilon_node, bottom_node, token_node, sequence_node, alternative_node, fixed_point_node, variable_node, repetition_node}
use Rattle.columns.specs.Tabulate.{tabulate}
use Rattle.columns.specs.declared.NodeLinks.{NodeLinks}
use Rattle.columns.specs.declared.TypeColumns.{TypeColumns}

-- Node i from its tag, its link and whether it is in the set of guarded variables. A number that is no tag is a node that has no
-- productions and no words, as ⊥ has none.
unfoldable pub node_of : ℕ → ℕ → Bool → ℕ → Node
node_of tag link guarded i =
    cond (eqb tag 0) epsilon_node
    (cond (eqb tag 1) bottom_node
    (cond (eqb tag 2) (token_node link)
    (cond (eqb tag 3) (sequence_node (suc i) link)
    (cond (eqb tag 4) (alternative_node (suc i) link)
    (cond (eqb tag 5) (fixed_point_node (suc i))
    (cond (eqb tag 6) (variable_node link guarded)
    (cond (eqb tag 7) (repetition_node (suc i) link) bottom_node)))))))

-- Node i of columns of tags and links, and a set.
unfoldable pub held_node : List ℕ → List ℕ → ℕ → ℕ → Node
held_node tag link guarded i = node_of (get_or tag i 0) (get_or link i 0) (bit guarded i) i

unfoldable pub held_nodes : NodeLinks → List Node
held_nodes c = tabulate (held_node c.tag c.link c.guarded) 0 c.count

-- The type of node i, from the nullable nodes and the columns of both sets.
unfoldable pub held_type : ℕ → List ℕ → List ℕ → ℕ → LanguageType
held_type null first flast i = record { null = bit null i; first = get_or first i 0; flast = get_or flast i 0 }

-- The types of so many nodes.
unfoldable pub held_types : ℕ → TypeColumns → List LanguageType
held_types count c = tabulate (held_type c.null c.first c.flast) 0 count
