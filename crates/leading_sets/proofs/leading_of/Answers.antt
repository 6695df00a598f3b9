-- `leading_sets::leading_of` meets its contract.
use mathlib.Core.Path.{◌≡◌, ap, ◌∙◌}
use Prim.Native.Nat.{◌*◌}
use native.Mathlib.Omega.{arith}
use Rattle.leading_sets.specs.Leading.{leading_and_following}
use Rattle.leading_sets.proofs.laws.LeadingLaws.{both_lower}
use Rattle.leading_sets.proofs.leading_of.Goals as goal

pub returns : goal.returns
returns c = λ follow u.
    let set = c.args.set in
    let one : set * 1 ≡ set = omega arith in
    c.union_of.ensures follow u ∙ ap (leading_and_following follow) one ∙ both_lower follow set (omega arith)
