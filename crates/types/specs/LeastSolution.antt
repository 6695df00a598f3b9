-- "Each expression node has the least type (nullable, first set, follow-last set) that solves Figure 2's equations over the whole
-- expression". Least by inclusion; how such types are found is not said here.
use Rattle.std.specs.Prelude.{◌≡◌, true, List, map, ℕ}
use Rattle.basics.specs.Bits.{◌∈◌}
use Rattle.types.specs.Types.{LanguageType}
use Rattle.types.specs.Nodes.{Node}
use Rattle.types.specs.LeastTypes.{type_of, node_type}

-- a ⊑ b: whatever a has, b has.
infix 30 ◌⊑◌
pub record ◌⊑◌ (a b : LanguageType) : Type 0 where
  pub null_rises : a.null ≡ true → b.null ≡ true
  pub first_rises : (t : ℕ) → t ∈ a.first → t ∈ b.first
  pub flast_rises : (t : ℕ) → t ∈ a.flast → t ∈ b.flast

-- The types solve Figure 2's equations, one a node, and lie below every solution.
pub record LeastSolution (ns : List Node) (types : List LanguageType) : Type 0 where
  pub solves : types ≡ map (node_type types) ns
  pub below : (others : List LanguageType) → others ≡ map (node_type others) ns → (n : ℕ) → type_of types n ⊑ type_of others n
