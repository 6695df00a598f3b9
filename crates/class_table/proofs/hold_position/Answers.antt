-- `class_table::hold_position` meets its contract.
use Rattle.class_table.proofs.Toggling.{joined}
use Rattle.class_table.proofs.hold_position.Goals as goal

pub returns : goal.returns
returns c = joined _ _ _ _ _ _ _ _ c.requires.1 c.toggle_class.ensures
