-- `lines::put_byte` meets its contract.
use mathlib.Core.Path.{refl}
use Rattle.lines.proofs.Writing.{byte_put}
use Rattle.lines.proofs.put_byte.Goals as goal

pub returns : goal.returns
returns c =
    (refl, byte_put c.args.buffer.now c.args.at c.args.byte c.requires)
