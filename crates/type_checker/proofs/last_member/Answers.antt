-- `type_checker::last_member` meets its contract: the zeros above the last member tell its place.
use mathlib.Core.Path.{◌≡◌}
use Prim.Native.Nat.{◌-◌, ◌^◌, ◌<◌}
use native.Mathlib.Omega.{arith}
use lib.Count.{count_leading_zeros}
use borrow.Author.Rules.{rules}
use Rattle.type_checker.proofs.Sets.{last_place}
use Rattle.type_checker.proofs.last_member.Goals as goal
use Rattle.type_checker.proofs.last_member.Goals.{Start}

small : (c : Start) → c.args.s < 2 ^ 64
small c = search rules

pub returns : goal.returns
returns c =
    let p = last_place c.args.s c.requires (small c) in
    let e : 63 - count_leading_zeros 64 c.args.s ≡ p.0 = omega (arith, p.1) in
    rw e (omega (arith, p.1), p.2, p.3)
