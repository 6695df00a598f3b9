-- `production_finder::begins` meets its contract.
use Rattle.production_finder.proofs.Walking.{begins_past}
use Rattle.production_finder.proofs.begins.Goals as goal

pub returns-then-n-ge64 : goal.returns-then-n-ge64
returns-then-n-ge64 c = begins_past _ _ _ c.if-n-ge64.true
