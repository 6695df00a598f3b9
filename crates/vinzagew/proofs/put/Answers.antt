-- `vinzagew::put` meets its contract: three stores.
use Rattle.vinzagew.specs.Out.{numbers_held}
use Rattle.vinzagew.proofs.Laws.{out_long}
use Rattle.vinzagew.proofs.put.Goals as goal

pub returns : goal.returns
unfolding numbers_held
returns c = out_long c.args.out.now _ _ _ c.requires
