-- `scanner::after_byte` meets its contract: the class table gives the kept positions, and the rest goes by these.
use native.Mathlib.Omega.{arith}
use lib.Bits.{and_le_l}
use lib.ListN.{get_or}
use Rattle.scanner.proofs.laws.ByteLaws.{leads_to}
use Rattle.scanner.proofs.after_byte.Goals as goal

pub returns : goal.returns
returns c = λ ps h.
    let a = c.args in
    leads_to _ _ ps h a.held a.byte _ _ (omega arith)
    (omega (arith, and_le_l a.held (get_or a.tables.now a.byte 0))) c.follow_sets-next.ensures c.lowest_rule-ended.ensures
