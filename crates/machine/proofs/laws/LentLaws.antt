-- What a run leaves of what it is lent, in the page's sentences: which numbers leave all of it untouched, what it holds otherwise, and that a
-- run with a table is the run without one unless 18 or 19 is given. Of the relation alone.
use Rattle.std.specs.Prelude.{◌≡◌, Bool, true, false, ◌||◌, List, ◌++◌, ℕ, length, drop, replicate, eqb}
use Rattle.std.proofs.Math.Path.{refl, ap}
use Rattle.std.proofs.Common.{sym, subst, ◌∙◌, true≢false, arith}
use Rattle.std.proofs.Math.Option.{some}
use Rattle.sheet.proofs.laws.FieldLaws.{Bytes}
use Rattle.basics.specs.Lists.{written_over}
use Rattle.image.specs.Image.{Image}
use Rattle.image.proofs.laws.ReadableImages.{readable_one}
use Rattle.machine.specs.Trace.{State, Ended, answer_of}
use Rattle.machine.specs.Lent.{Lent, stack_alone, Ran, entries_of, winners_of, built, turned_away, finished}
use Rattle.machine.specs.Runs.{Traces, rule_skipped, rule_taken, nothing_matched, rule_untaken, stack_overflowed, nullable_at_end}
use Rattle.machine.specs.Runs.{pending_at_end, ManyRows, Begins, Runs, short, long_text, unreadable, many_rows, no_entry, started}
use Rattle.machine.proofs.laws.RunsLaws.{runs_one}

-- "Entries past the last row keep what they held."
pub rest-kept : (image : Image) (table winners : List ℕ) → built image (some (record { table = table; winners = winners }))
    ≡ some (record {
      table = entries_of image ++ drop (length (entries_of image)) table;
      winners = winners_of image ++ drop (length (winners_of image)) winners;
    })
unfolding built written_over
rest-kept image table winners = refl

-- The numbers by which a run is turned away before it reads the text.
abbrev pub turns_away : ℕ → Bool
turns_away n = (eqb n 12 || eqb n 13) || (eqb n 18 || eqb n 19)

traces_number : {image : Image} {text : List ℕ} {entries : ℕ} {s : State} {e : Ended} → Traces image text entries s e → turns_away e.number ≡ false
traces_number (rule_skipped rule n w r) = traces_number r
traces_number (rule_taken rule n t w k o r) = traces_number r
traces_number (nothing_matched l m) = refl
traces_number (rule_untaken rule n w k) = refl
traces_number (stack_overflowed rule n t w k o) = refl
traces_number (nullable_at_end e n) = refl
traces_number (pending_at_end e n) = refl

-- What a run that has begun leaves.
abbrev left_of : Lent → Image → Lent
left_of lent i = record { stack = replicate (length lent.stack) 0; scanner = built i lent.scanner }

module _ (bytes text : List ℕ) (lent : Lent) where
  abbrev pub Left : Image → Ran → Type 0
  Left i r = Begins bytes text lent i × (r.left ≡ left_of lent i)

  -- A run is turned away and leaves all that it was lent, or it has begun.
  data Ways (r : Ran) : Type 0 where
    away : turns_away r.answer.number ≡ true → r.left ≡ lent → Ways r
    begun : turns_away r.answer.number ≡ false → (i : Image) → Left i r → Ways r

  ways : {r : Ran} → Runs bytes text lent r → Ways r
  unfolding turned_away finished answer_of
  ways (short h) = away refl refl
  ways (long_text h l) = away refl refl
  ways (unreadable p h l n o) = away refl refl
  ways (many_rows image h l x m) = away refl refl
  ways (no_entry image x z) = begun refl image (x, refl)
  ways (started image e x z t) = begun (traces_number t) image (x, refl)

  -- "untouched after 12 and 13", "after these [18 and 19], 12 and 13 the stack and both buffers are untouched"
  pub untouched : {r : Ran} → Runs bytes text lent r → turns_away r.answer.number ≡ true → r.left ≡ lent
  untouched {r} x t = go (ways x)
    where
      go : Ways r → r.left ≡ lent
      go (away u e) = e
      go (begun u i e) = absurd (true≢false (sym t ∙ u))

  -- "The stack ends all zero", and the table is built.
  pub begins_left : {r : Ran} → Runs bytes text lent r → turns_away r.answer.number ≡ false → (i : Image) × Left i r
  begins_left {r} x t = go (ways x)
    where
      go : Ways r → (i : Image) × Left i r
      go (away u e) = absurd (true≢false (sym u ∙ t))
      go (begun u i e) = (i, e)

  -- The same of a run that begins with a given image: bytes are one image at most.
  pub begun_left : {r : Ran} → Runs bytes text lent r → (i : Image) → Begins bytes text lent i
      → r.left ≡ record { stack = replicate (length lent.stack) 0; scanner = built i lent.scanner }
  unfolding turned_away finished
  begun_left (short h) i b = absurd (b.not_short h)
  begun_left (long_text h l) i b = absurd (omega (arith, l, b.within))
  begun_left (unreadable p h l n o) i b = absurd (n (i, b.readable))
  begun_left (many_rows j h l x m) i b = absurd (b.few_rows (subst (ManyRows lent.scanner) (readable_one bytes j i x b.readable) m))
  begun_left (no_entry j x z) i b = ap (left_of lent) (readable_one bytes j i x.readable b.readable)
  begun_left (started j e x z t) i b = ap (left_of lent) (readable_one bytes j i x.readable b.readable)

  -- ---- with a table and without

  record AsAlone (r : Ran) : Type 0 where
    alone : Ran
    runs : Runs bytes text (stack_alone lent.stack) alone
    same_answer : r.answer ≡ alone.answer
    same_stack : r.left.stack ≡ alone.left.stack

  begins_alone : {image : Image} → Begins bytes text lent image → Begins bytes text (stack_alone lent.stack) image
  begins_alone x = record { not_short = λ h. h; within = x.within; readable = x.readable; few_rows = λ h. h }

  as_alone : {r : Ran} → Runs bytes text lent r → (r.answer.number ≡ 18 → ⊥) → (r.answer.number ≡ 19 → ⊥) → AsAlone r
  unfolding turned_away finished answer_of
  as_alone (short h) m n = absurd (m refl)
  as_alone (long_text h l) m n = record { alone = _; runs = long_text (λ x. x) l; same_answer = refl; same_stack = refl }
  as_alone (unreadable p h l u o) m n = record { alone = _; runs = unreadable p (λ x. x) l u o; same_answer = refl; same_stack = refl }
  as_alone (many_rows image h l x k) m n = absurd (n refl)
  as_alone (no_entry image x z) m n = record { alone = _; runs = no_entry image (begins_alone x) z; same_answer = refl; same_stack = refl }
  as_alone (started image e x z t) m n =
      record { alone = _; runs = started image e (begins_alone x) z t; same_answer = refl; same_stack = refl }

  -- "Unless 18 or 19 is given, the answer and the final stack are those of a run without a table."
  pub as_without_table : Bytes bytes → {r q : Ran} → Runs bytes text lent r → Runs bytes text (stack_alone lent.stack) q
      → (r.answer.number ≡ 18 → ⊥) → (r.answer.number ≡ 19 → ⊥) → (r.answer ≡ q.answer) × (r.left.stack ≡ q.left.stack)
  as_without_table b {r} {q} x y m n =
      let a = as_alone x m n in
      let same = runs_one bytes text (stack_alone lent.stack) b a.runs y in
      (a.same_answer ∙ ap (λ (z : Ran). z.answer) same, a.same_stack ∙ ap (λ (z : Ran). z.left.stack) same)
