-- Laws of fusion: which production a rule has, that rules rise, and where each fused production comes from.
-- Nothing here speaks of numbering or of an image.
use mathlib.Core.List.{List}
use Rattle.sheet.specs.Sheet.{Rule}
use Rattle.normal_form.specs.Productions.{Row}
use Rattle.image.specs.Fusion.{fused_from}

abbrev pub fused_row : List Rule → Row → Row
fused_row rules row = record { has_epsilon = row.has_epsilon; productions = fused_from rules 0 row.productions }
