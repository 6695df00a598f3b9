use borrow.Author.Rules.{rules}
use native.Mathlib.Omega.{arith}
use lib.ListN.{drop}
use Rattle.leading_sets.specs.Leading.{leading_and_following, set_of_word}
use Rattle.leading_sets.proofs.Entries.{entry_more}
use Rattle.leading_sets.proofs.fill_unions.Goals as goal

pub loop-k-init : goal.loop-k-init
loop-k-init c = record { whole = search rules; done = λ z l. absurd (omega arith) }

pub loop-k-preserved : goal.loop-k-preserved
loop-k-preserved c =
    let l = c.loop-k in
    let s = c.singles_of-singles in
    let f = drop 256 c.args.tables.now in
    entry_more (λ z. leading_and_following f (set_of_word z)) 4096 l.k _ l.unions (omega arith)
    (c.word_of.ensures f s.ensures l.invariant.done) l.invariant

pub returns : goal.returns
returns c = λ k h. c.loop-k.invariant.done k (omega arith)
