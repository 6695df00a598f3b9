-- `Rows::meet_set` meets its contract: the set has been met, there are too many rows already, or it joins at the end.
use borrow.Author.Rules.{rules}
use mathlib.Core.Path.{subst}
use Prim.Native.Nat.{ℕ, ◌≤◌, ◌<◌}
use Rattle.table_builder.proofs.Meeting.{met_before, met_over, met_new}
use Rattle.table_builder.proofs.Rows.meet_set.Goals as goal

pub returns-then-place-count : goal.returns-then-place-count
returns-then-place-count c = λ start met below held.
    let s = c.args.self.now in
    met_before s.sets s.count c.args.set start met below (search rules) held
    (subst (λ (k : ℕ). k < s.count) c.place_of-place.ensures c.if-place-count.true)

pub returns-then-count-ge256 : goal.returns-then-count-ge256
returns-then-count-ge256 c = λ start met below held.
    let s = c.args.self.now in
    met_over s.sets s.count c.args.set start met below (search rules) held c.if-count-ge256.true

pub returns : goal.returns
returns c = λ start met below held.
    let s = c.args.self.now in
    met_new s.sets s.count c.args.set start met below (search rules) held
    (subst (λ (k : ℕ). s.count ≤ k) c.place_of-place.ensures c.if-place-count.false) c.if-count-ge256.false (search rules)
