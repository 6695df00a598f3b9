-- What follows from single claims of `Requests`: that twins give one image, that an image has its bytes, and that the recogniser gives the
-- machine's number and place.
use Rattle.std.specs.Prelude.{◌≡◌, ◌↔◌, ◌≤◌}
use Rattle.std.proofs.Common.{sym, arith}
use Rattle.std.proofs.Math.Path.{ap, subst}
use mathlib.Core.List.{List}
use Prim.Native.Nat.{ℕ}
use Rattle.std.proofs.Math.ListN.{length}
use Rattle.sheet.specs.Limits.{most_sheet_bytes}
use Rattle.sheet.specs.Sheet.{Sheet}
use Rattle.sheet.specs.SheetFormat.{Spells}
use Rattle.sheet.specs.Spelling.{Bytes}
use Rattle.sheet.specs.Twins.{Twins}
use Rattle.sheet.proofs.laws.TwinLaws.{twins_back}
use Rattle.lexer.specs.RuleOrder.{WordsAbove}
use Rattle.image.specs.Image.{plain_image, image_of, image_bytes}
use Rattle.image.proofs.laws.ReadableImages.{readable_written}
use Rattle.image.specs.Write.{Wrote}
use Rattle.machine.specs.Lent.{long_enough, Lent}
use Rattle.machine.specs.Runs.{Short, ManyRows}
use Rattle.recogniser.specs.Recognises.{most_recognised_bytes, Recognised}
use Rattle.recogniser.specs.ReadingStops.{MatchedThroughout}
use Rattle.demands.specs.Demands.{Functions, Accepts, Demand1, Demand3}
use Rattle.demands.proofs.laws.Corollaries.{own}
use Rattle.demands.proofs.laws.Requests.{Passes, some_buffer, twins_pass, same_numbering, as_own}

module _ (f : Functions) (demand : Demand1 f) where
  -- ---- [3] "A sheet and its padded twin of at most 4,096 bytes give the same image"

  -- Both ways: with every work area and every image buffer both are accepted, with one image, or neither is.
  twin_accepted : (a b : List ℕ) → Bytes a → Bytes b → Twins a b → length a ≤ most_sheet_bytes → length b ≤ most_sheet_bytes
      → (work buffer : List ℕ) → Accepts f a work buffer → Accepts f b work buffer × (f.write b work buffer ≡ f.write a work buffer)
  twin_accepted a b bytes other_bytes twins short other_short work buffer h =
      let passes = (some_buffer f demand a work bytes).1 (buffer, h) in
      let same = (twins_pass f demand a b bytes other_bytes twins short other_short work passes).1 buffer in
      (subst (λ (r : Wrote). r.answer.number ≡ 0) (sym same) h, same)

  pub same_image : (a b : List ℕ) → Bytes a → Bytes b → Twins a b → length a ≤ most_sheet_bytes → length b ≤ most_sheet_bytes
      → (work buffer : List ℕ) → (Accepts f a work buffer ↔ Accepts f b work buffer)
      × (Accepts f a work buffer → (f.write b work buffer).part ≡ (f.write a work buffer).part)
  same_image a b bytes other_bytes twins short other_short work buffer =
      let there = twin_accepted a b bytes other_bytes twins short other_short work buffer in
      let back = twin_accepted b a other_bytes bytes (twins_back twins) other_short short work buffer in
      (((λ h. (there h).0), λ h. (back h).0), λ h. ap (λ (r : Wrote). r.part) (there h).1)

  -- ---- [4] "a word rule .. now wins over any other"

  -- Byte for byte, since an image has one spelling.
  pub same_bytes : (sheet work buffer : List ℕ) → Bytes sheet → Accepts f sheet work buffer → (s : Sheet) → Spells sheet s
      → WordsAbove s.rules → (f.write sheet work buffer).part ≡ image_bytes (plain_image s)
  same_bytes sheet work buffer bytes h s spells above =
      readable_written (f.write sheet work buffer).part (plain_image s) (same_numbering f demand sheet work buffer bytes h s spells above)

module _ (f : Functions) (demand : Demand1 f) (sheet text work list : List ℕ) (bytes : Bytes sheet) where
  abbrev recognition : Recognised
  recognition = f.recognise sheet text work list

  module _ (passes : Passes f sheet work) (s : Sheet) (spells : Spells sheet s) (within : length text ≤ most_recognised_bytes)
      (list_holds : length text ≤ length list) where
    -- "it gets the machine's number and place on a long enough stack", with a table that fits or without one.
    pub as_machine : MatchedThroughout s text → Demand3 f → (other buffer : List ℕ) → Accepts f sheet other buffer
        → (lent : Lent) → long_enough text ≤ length lent.stack → (Short lent.scanner → ⊥)
        → (ManyRows lent.scanner (image_of s) → ⊥)
        → let a = (f.run (f.write sheet other buffer).part text lent).answer in
        (recognition.answer.number ≡ a.number) × (recognition.answer.place ≡ a.place)
    as_machine throughout demand_3 other buffer accepted lent long not_short few =
        as_own f demand sheet text work list bytes passes s spells within list_holds throughout _ (own f demand_3 sheet other buffer bytes accepted s spells text lent (omega (arith, within)) long not_short few)
