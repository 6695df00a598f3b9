-- A part of a column, and how it is appended. Which parts are wanted is not asked here.
use mathlib.Core.Path.{◌≡◌, refl, sym, ap, ◌∙◌}
use mathlib.Core.Bool.{Bool, true, false, not, beq, cond, false≢true}
use mathlib.Core.List.{List, [], ◌++◌}
use Prim.Native.Nat.{ℕ, ◌+◌, ◌-◌, ◌≤◌}
use native.Mathlib.Omega.{arith}
use lib.ListN.{length, take, drop, length-drop}
use lib.Seq.{length-take-le}
use borrow.Rule.Slice.PartMut.{put_mid}
use Rattle.std.proofs.lemmas.Slice.{take-put_mid}
use Rattle.rule_sorter.specs.Kinds.{part}

pub part_unwanted : (wanted : Bool) (begin end : ℕ) (l : List ℕ) → not wanted ≡ true → part wanted begin end l ≡ []
unfolding part
part_unwanted true begin end l e = absurd (false≢true e)
part_unwanted false begin end l e = refl

pub part_wanted : (wanted : Bool) (begin end : ℕ) (l : List ℕ) → not wanted ≡ false
    → part wanted begin end l ≡ take (end - begin) (drop begin l)
unfolding part
part_wanted true begin end l e = refl
part_wanted false begin end l e = absurd (false≢true (sym e))

pub part-length : (wanted : Bool) (begin end : ℕ) (l : List ℕ) → not wanted ≡ false → begin ≤ end → end ≤ length l
    → length (part wanted begin end l) ≡ end - begin
part-length wanted begin end l e h k =
    ap length (part_wanted wanted begin end l e) ∙ length-take-le (end - begin) (drop begin l) (omega (arith, length-drop begin l))

-- The column in which the part has been copied behind what it held.
pub appended : (begin end at : ℕ) (from to copy : List ℕ) → begin ≤ end → end ≤ length from → at ≤ length to
    → copy ≡ take (end - begin) (drop begin from)
    → take (at + (end - begin)) (put_mid at (at + (end - begin) - at) to copy) ≡ take at to ++ take (end - begin) (drop begin from)
appended begin end at from to copy h k room e =
    let long : length (take (end - begin) (drop begin from)) ≡ end - begin =
    length-take-le (end - begin) (drop begin from) (omega (arith, length-drop begin from)) in
    take-put_mid at _ to copy (at + (end - begin)) (omega (arith, ap length e)) room ∙ ap (λ (l : List ℕ). take at to ++ l) e

-- The code's test of a rule's kind.
pub kind_test : (words word : Bool) → beq words word ≡ cond words word (not word)
kind_test true true = refl
kind_test true false = refl
kind_test false true = refl
kind_test false false = refl
