-- The nodes, the types and the positions that columns hold, by place.
use Rattle.std.specs.Prelude.{◌≡◌}
use Rattle.std.proofs.Math.Path.{refl, sym, ap}
use Rattle.std.proofs.Common.{◌∙◌, arith}
use mathlib.Core.List.{List}
use Prim.Native.Nat.{ℕ, zero, suc, ◌+◌, ◌<◌}
use Rattle.std.proofs.Math.ListN.{length, get_or}
use Rattle.lexer.specs.Positions.{Position}
use Rattle.types.specs.Types.{LanguageType, bottom_type}
use Rattle.types.specs.LeastTypes.{type_of}
use Rattle.types.specs.Nodes.{Node, bottom_node, node_at}
use Rattle.columns.proofs.laws.TabulateLaws.{tabulate-length, tabulate-at}
use Rattle.columns.specs.HeldNodes.{held_node, held_nodes, held_type, held_types}
use Rattle.columns.specs.HeldPositions.{held_position, held_from, held_positions}
use Rattle.columns.specs.declared.NodeLinks.{NodeLinks}
use Rattle.columns.specs.declared.PositionColumns.{PositionColumns}
use Rattle.columns.specs.declared.TypeColumns.{TypeColumns}

module _ (links : NodeLinks) (ns : List Node) (held : held_nodes links ≡ ns) where
  pub nodes-counted : length ns ≡ links.count
  unfolding held_nodes
  nodes-counted = ap length (sym held) ∙ tabulate-length (held_node links.tag links.link links.guarded) 0 links.count

  pub node_held : (i : ℕ) → i < links.count → held_node links.tag links.link links.guarded i ≡ node_at ns i
  unfolding held_nodes
  node_held i l =
      let f = held_node links.tag links.link links.guarded in
      ap f (omega arith) ∙ sym (tabulate-at f bottom_node 0 links.count i l) ∙ ap (λ (xs : List Node). node_at xs i) held

module _ (count : ℕ) (c : TypeColumns) (types : List LanguageType) (held : held_types count c ≡ types) where
  pub type_held : (i : ℕ) → i < count → held_type c.null c.first c.flast i ≡ type_of types i
  unfolding held_types
  type_held i l =
      let f = held_type c.null c.first c.flast in
      ap f (omega arith) ∙ sym (tabulate-at f bottom_type 0 count i l) ∙ ap (λ (ts : List LanguageType). type_of ts i) held

module _ (low high rule follow : List ℕ) (last : ℕ) where
  held_length : (i n : ℕ) → length (held_from low high rule follow last i n) ≡ n
  unfolding held_from
  held_length i zero = refl
  held_length i (suc n) = ap suc (held_length (suc i) n)

  held_at : (i n k : ℕ) (other : Position) → k < n
      → get_or (held_from low high rule follow last i n) k other ≡ held_position low high rule follow last (i + k)
  unfolding held_from
  held_at i zero k other l = absurd (omega arith)
  held_at i (suc n) zero other l = ap (held_position low high rule follow last) (omega arith)
  held_at i (suc n) (suc k) other l = held_at (suc i) n k other (omega arith) ∙ ap (held_position low high rule follow last) (omega arith)

module _ (p : PositionColumns) (ps : List Position) (held : held_positions p ≡ ps) where
  pub positions-counted : length ps ≡ p.count
  unfolding held_positions
  positions-counted = ap length (sym held) ∙ held_length p.low p.high p.rule p.follow p.last 0 p.count

  pub position-held : (i : ℕ) (other : Position) → i < p.count
      → held_position p.low p.high p.rule p.follow p.last i ≡ get_or ps i other
  unfolding held_positions
  position-held i other l =
      ap (held_position p.low p.high p.rule p.follow p.last) (omega arith)
      ∙ sym (held_at p.low p.high p.rule p.follow p.last 0 p.count i other l)
      ∙ ap (λ (xs : List Position). get_or xs i other) held
