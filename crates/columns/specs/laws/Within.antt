-- Columns of the links of a sheet's expression: every node's token and links are in range, so they need no test before they are used.
use Rattle.std.specs.Prelude.{ℕ, ◌≤◌, ◌<◌}
use Rattle.sheet.specs.Limits.{most_tokens}
use Rattle.types.specs.laws.NodeRanges.{NodeInRange}
use Rattle.columns.specs.HeldNodes.{held_node}
use Rattle.columns.specs.declared.NodeLinks.{NodeLinks}

pub record LinksFit (links : NodeLinks) : Type 0 where
  pub count_fits : links.count ≤ 64
  pub all_within : (q : ℕ) → q < links.count
      → NodeInRange most_tokens links.count (held_node links.tag links.link links.guarded q)
