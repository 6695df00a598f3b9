-- `leading_sets::single_of` meets its contract.
use mathlib.Core.Path.{◌≡◌, sym, ap, ◌∙◌}
use mathlib.Core.List.{List}
use Prim.Native.Nat.{ℕ, ◌+◌, ◌-◌, ◌*◌, ◌%◌, ◌^◌, ◌≤◌, ◌<◌}
use native.Mathlib.Omega.{arith}
use lib.ListN.{get_or, drop}
use lib.Pow.{pow-add, pow-lt}
use lib.Seq.{get_or-drop}
use Rattle.basics.proofs.laws.BitLaws.{shl_one}
use Rattle.leading_sets.specs.Leading.{leading, leading_and_following}
use Rattle.leading_sets.proofs.laws.LeadingLaws.{both_lower, both_upper, following_one}
use Rattle.leading_sets.proofs.single_of.Goals as goal

-- A position of the lower set.
lower_single : (follow : List ℕ) (y : ℕ) → y < 64 → leading follow ((1 * 2 ^ y) % 2 ^ 64) ≡ leading_and_following follow (2 ^ y)
lower_single follow y h = ap (leading follow) (shl_one y h) ∙ sym (both_lower follow (2 ^ y) (pow-lt {i = y} {j = 64} h))

-- A position of the upper set.
upper_single : (tables : List ℕ) (y : ℕ) → 64 ≤ y → y < 128 → get_or tables (256 + (y - 64)) 0 ≡ leading_and_following (drop 256 tables) (2 ^ y)
upper_single tables y l h =
    let e : y - 64 + 64 ≡ y = omega arith in
    sym (get_or-drop 256 tables (y - 64) 0)
    ∙ sym (following_one (drop 256 tables) (y - 64) (omega arith))
    ∙ sym (both_upper (drop 256 tables) (2 ^ (y - 64)))
    ∙ ap (leading_and_following (drop 256 tables)) (sym (pow-add 2 (y - 64) 64) ∙ ap (λ (x : ℕ). 2 ^ x) e)

pub returns-then-y-lt64 : goal.returns-then-y-lt64
returns-then-y-lt64 c =
    let a = c.args in
    c.leading_to.ensures ∙ lower_single (drop 256 a.tables.now) a.y c.if-y-lt64.true

pub returns : goal.returns
returns c =
    let a = c.args in
    upper_single a.tables.now a.y c.if-y-lt64.false c.requires
