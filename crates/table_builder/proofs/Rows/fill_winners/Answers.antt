use borrow.Author.Rules.{rules}
use mathlib.Core.Path.{refl, ◌∙◌}
use Prim.Native.Nat.{◌+◌}
use native.Mathlib.Omega.{arith}
use lib.ListN.{length-set}
use Rattle.table_builder.proofs.Filling.{first_winner, next_winner, all-winners}
use Rattle.table_builder.proofs.Rows.fill_winners.Goals as goal

pub loop-i-preserved : goal.loop-i-preserved
loop-i-preserved c =
    let l = c.loop-i in
    let more = c.loop-i-test.true in (
      length-set l.winners (l.i + 1) c.winner.result ∙ l.invariant.0,
      λ ps h k buffer room w. next_winner ps _ c.args.first _ h _ _ k (search rules) buffer l.winners _ l.i c.winner.result more
          (omega (arith, room, more)) c.winner.ensures (l.invariant.1 ps h k buffer room w) refl,
    )

pub returns : goal.returns
returns c = λ ps h k.
    let l = c.loop-i in
    let winners = c.args.winners.now in
    all-winners ps _ c.args.first _ h _ _ k (search rules) winners l.winners l.i (omega arith) c.loop-i-test.false
    (l.invariant.1 ps h k winners (omega (arith, k.few, c.requires.1))
    (first_winner ps _ c.args.first _ h _ _ k (search rules) winners _ (omega (arith, c.requires.1)) refl))
