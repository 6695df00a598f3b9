-- `lines::put_word` meets its contract: the word is copied over the front.
use mathlib.Core.Path.{refl}
use native.Mathlib.Nat.{zero-add}
use lib.ListN.{length}
use Rattle.number.specs.Number.{splice}
use Rattle.lines.proofs.put_word.Goals as goal

pub returns : goal.returns
unfolding splice
returns c = (refl, rw (zero-add (length c.args.word.now), c.copy_from_slice.ensures.after) refl)
