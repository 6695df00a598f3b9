-- Names for solutions of Figure 2's equations, as the proofs speak of them.
use Rattle.std.specs.Prelude.{◌≡◌, List, map, ℕ}
use Rattle.types.specs.Types.{LanguageType}
use Rattle.types.specs.Nodes.{Node}
use Rattle.types.specs.LeastTypes.{type_of, node_type}
use Rattle.types.specs.LeastSolution.{◌⊑◌}

-- All equations at once.
abbrev pub next_types : List Node → List LanguageType → List LanguageType
next_types ns types = map (node_type types) ns

-- At every node.
abbrev pub AllBelow : List LanguageType → List LanguageType → Type 0
AllBelow xs ys = (n : ℕ) → type_of xs n ⊑ type_of ys n

-- One equation a node.
abbrev pub Solves : List Node → List LanguageType → Type 0
Solves ns types = types ≡ next_types ns types
