-- What is left in `out` and in a buffer: where `out` is short, all as it was; else three stores, and what the inner function leaves.
use mathlib.Core.Path.{◌≡◌, refl}
use mathlib.Core.List.{List, [], ◌∷◌}
use Prim.Native.Nat.{ℕ, ◌≤◌, ◌<◌}
use native.Mathlib.Omega.{arith}
use lib.ListN.{length, drop, set}
use borrow.Author.Tests.{lt-ltb, le-ltb}
use Rattle.std.specs.Prelude.{Result, Ok, Err}
use Rattle.image.specs.Answer.{numbers_of}
use Rattle.sheet_checker.specs.Answer as checker
use Rattle.sheet_reader.specs.declared.Refusal.{Refusal}
use Rattle.image_writer.specs.Answer as compiler
use Rattle.image_writer.specs.declared.WriteError.{WriteError}
use Rattle.image_writer.specs.declared.WriteError.TheVariants.{TooLong, Refused}
use Rattle.vinzagew.specs.Out.{out_after, if_room}

three_stored : (l : List ℕ) (a b c : ℕ) → 3 ≤ length l → set (set (set l 0 a) 1 b) 2 c ≡ a ∷ b ∷ c ∷ drop 3 l
three_stored [] a b c h = absurd (omega arith)
three_stored (x ∷ []) a b c h = absurd (omega arith)
three_stored (x ∷ y ∷ []) a b c h = absurd (omega arith)
three_stored (x ∷ y ∷ z ∷ l) a b c h = refl

module _ (out : List ℕ) where
  pub out_short : (numbers : List ℕ) → length out < 3 → out ≡ out_after numbers out
  unfolding out_after
  out_short numbers h = rw (lt-ltb (length out) 3 h)

  pub out_long : (a b c : ℕ) → 3 ≤ length out → set (set (set out 0 a) 1 b) 2 c ≡ out_after (a ∷ b ∷ c ∷ []) out
  unfolding out_after
  out_long a b c h = rw (le-ltb (length out) 3 h) (three_stored out a b c h)

  pub same_short : {A : Type 0} (after lent : A) → length out < 3 → lent ≡ if_room out after lent
  unfolding if_room
  same_short after lent h = rw (lt-ltb (length out) 3 h)

  pub after_long : {A : Type 0} (after lent : A) → 3 ≤ length out → after ≡ if_room out after lent
  unfolding if_room
  after_long after lent h = rw (le-ltb (length out) 3 h)

-- The numbers of each case.
pub told_passed : (c : Result Unit Refusal) → c ≡ Ok tt → 0 ∷ 0 ∷ 0 ∷ [] ≡ numbers_of (checker.answer_of c)
unfolding numbers_of checker.answer_of
told_passed c e = rw e refl

pub told_failed : (c : Result Unit Refusal) (refusal : Refusal) → c ≡ Err refusal
    → refusal.question ∷ refusal.place ∷ 0 ∷ [] ≡ numbers_of (checker.answer_of c)
unfolding numbers_of checker.answer_of
told_failed c refusal e = rw e refl

module _ (w : Result ℕ WriteError) where
  pub told_done : (length : ℕ) → w ≡ Ok length → 0 ∷ 0 ∷ length ∷ [] ≡ numbers_of (compiler.answer_of w)
  unfolding numbers_of compiler.answer_of
  told_done length e = rw e refl

  pub told_long : (needed : ℕ) → w ≡ Err (TooLong needed) → 11 ∷ 0 ∷ needed ∷ [] ≡ numbers_of (compiler.answer_of w)
  unfolding numbers_of compiler.answer_of
  told_long needed e = rw e refl

  pub told_refused : (refusal : Refusal) → w ≡ Err (Refused refusal)
      → refusal.question ∷ refusal.place ∷ 0 ∷ [] ≡ numbers_of (compiler.answer_of w)
  unfolding numbers_of compiler.answer_of
  told_refused refusal e = rw e refl
