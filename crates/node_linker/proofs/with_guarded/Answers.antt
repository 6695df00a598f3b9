-- `node_linker::with_guarded` meets its contract: a variable that is not guarded joins nothing.
use lib.Bits.{or_zero_r}
use borrow.Author.Tests.{le-ltb}
use Rattle.node_linker.specs.Walking.{place_of, guarded_after}
use Rattle.node_linker.proofs.with_guarded.Goals as goal

pub returns : goal.returns
unfolding guarded_after
returns c =
    let a = c.args in
    let not-in-set = le-ltb (place_of a.number a.d) a.d.guarded c.if-place-d.false in
    rw (c.if-tag-ne6.false, not-in-set, or_zero_r a.guarded)
