-- `buffers::clear_front` meets its contract.
use Rattle.buffers.proofs.Filling.{filled}
use Rattle.buffers.proofs.clear_front.Goals as goal

pub returns : goal.returns
returns c = filled c.args.count c.args.buffer.now c.min-stop.ensures (c.fill.ensures.after (λ y h. h))
