use borrow.Author.Rules.{rules}
use native.Mathlib.Omega.{arith}
use Rattle.leading_sets.proofs.singles_of.Goals as goal

pub loop-y-init : goal.loop-y-init
loop-y-init c = record { whole = search rules; done = λ z l. absurd (omega arith) }

pub returns : goal.returns
returns c = λ y h. c.loop-y.invariant.done y (omega arith)
