-- `class_table::toggle_class` meets its contract.
-- The high byte is not the last one, or it is and has no entry just past it.
use native.Mathlib.Omega.{arith}
use Rattle.class_table.proofs.Toggling.{class_toggled, class_toggled_low}
use Rattle.class_table.proofs.toggle_class.Goals as goal

pub returns-then-past-lt256 : goal.returns-then-past-lt256
returns-then-past-lt256 c = class_toggled _ _ _ _ c.requires (omega arith) c.if-past-lt256.true

pub returns-else-past-lt256 : goal.returns-else-past-lt256
returns-else-past-lt256 c = class_toggled_low _ _ _ _ c.requires (omega arith) c.if-past-lt256.false
