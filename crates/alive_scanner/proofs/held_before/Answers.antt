-- `held_before` meets its contract.
use mathlib.Core.Path.{ap}
use lib.Bits.{bit_or}
use Rattle.alive_scanner.proofs.held_before.Goals as goal

pub returns : goal.returns
returns c = λ follow h. ap (bit_or c.args.last) (c.leading_of.ensures follow h)
