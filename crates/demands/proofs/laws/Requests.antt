-- What the requests claim of checking, writing, running and recognising, request by request: of any functions that meet the demands.
-- Request [5] changed no answer and claims nothing here. What follows for single texts, and that demand 1 leaves no choice of the
-- functions, is in `Corollaries`.
use Rattle.std.specs.Prelude.{◌≡◌, refl, true, false, ◌↔◌, ◌⊎◌, ℕ, suc, ◌-◌, ◌≤◌, ◌<◌, drop, get_or, replicate}
use Rattle.std.proofs.Common.{sym, ◌∙◌, arith}
use Rattle.std.proofs.Math.Path.{ap, subst}
use mathlib.Core.List.{List, [], ◌∷◌}
use Rattle.std.proofs.Math.Logic.{inl, inr, ⊎_map}
use Rattle.std.proofs.Math.ListN.{length, take, length-append, length-drop}
use Rattle.std.proofs.lemmas.List.{length-replicate, length-map}
use Rattle.std.proofs.Math.Seq.{take_at}
use Rattle.basics.specs.Lists.{written_over}
use Rattle.sheet.specs.Expression.{Expression, bottom, token, sequence, alternative}
use Rattle.basics.specs.Bits.{◌∈◌}
use Rattle.sheet.specs.Limits.{most_sheet_bytes}
use Rattle.sheet.specs.Sheet.{Rule, Sheet}
use Rattle.sheet.specs.SheetD.{sheet_D, bytes_of_D}
use Rattle.sheet.specs.SheetFormat.{Spells}
use Rattle.sheet.proofs.laws.Examples.{d_spelled}
use Rattle.sheet.proofs.laws.ReadingLaws.{spelled_limits, spelled_once}
use Rattle.sheet.specs.Spelling.{Bytes}
use Rattle.sheet.specs.WellFormed.{WithinLimits}
use Rattle.sheet.specs.Twins.{Twins, SamePlace}
use Rattle.types.specs.Denotation.{Denotes}
use Rattle.types.specs.Languages as languages
use Rattle.types.specs.Languages.{HasWord}
use Rattle.types.specs.NodeLanguages.{language_of}
use Rattle.types.specs.Types.{LanguageType, bottom_type, HasType}
use Rattle.types.specs.Nodes.{nodes}
use Rattle.types.specs.LeastTypes.{type_of}
use Rattle.types.specs.LeastSolution.{LeastSolution}
use Rattle.types.proofs.laws.Passed.{has_type_still}
use Rattle.types.proofs.laws.Unfinished as unfinished_laws
use Rattle.types.proofs.laws.Unfinished.{D_had_type}
use Rattle.types.specs.SpelledOut.{spelled_out, spelled_out_sheet}
use Rattle.types.proofs.laws.SpelledOutDenotation.{spelled_out_denotes}
use Rattle.types.proofs.laws.SpelledOutTyping.{spelled_out_has_type}
use Rattle.normal_form.specs.Unfolds.{Unfolds}
use Rattle.normal_form.proofs.laws.TypesExact.{sheet_null_exact, sheet_first_exact, sheet_bottom_exact}
use Rattle.lexer.proofs.laws.EmptyWord.{none_empty}
use Rattle.lexer.specs.Words.{NoEmptyRule}
use Rattle.lexer.specs.RuleOrder.{by_number, by_kind, WordsAbove, image_sheet}
use Rattle.lexer.specs.LongestMatch.{LongestMatch, NonWordAbove}
use Rattle.lexer.proofs.laws.OrderedMatches.{match_changes_only}
use Rattle.image.specs.Answer.{Answer, answer}
use Rattle.image.specs.Image.{Image, plain_image, image_of, image_bytes}
use Rattle.image.specs.ImageFormat.{ReadableAs}
use Rattle.image.specs.laws.Computing.{computing_image}
use Rattle.image.proofs.laws.ImageLaws.{numbering_kept}
use Rattle.image.proofs.laws.ImageLength.{image_fits}
use Rattle.image.proofs.laws.ReadableImages.{readable_written}
use Rattle.image.specs.Unfolding.{DenotedRules}
use Rattle.image.specs.Check.{work_bytes, Verdict, failed, passed, check, check_answer, work_after, Checked}
use Rattle.image.specs.Checks.{Passable, Checks}
use Rattle.image.proofs.laws.CheckQuestions.{checks_only, failed_by, failed_numbered, passable_passes, passed_passable}
use Rattle.image.specs.Write.{Written, refused, too_long, written, write, write_answer, written_part, Wrote, wrote_with}
use Rattle.image.proofs.laws.WriteLaws as writing
use Rattle.image.proofs.laws.WriteQuestions.{written_iff}
use Rattle.image.proofs.laws.TwinAnswers.{twins_refused, twins_written}
use Rattle.machine.specs.Lent.{most_text_bytes, long_enough, Lent, stack_alone, Ran, built}
use Rattle.machine.specs.Runs.{Short, ManyRows, Begins, Runs}
use Rattle.machine.proofs.laws.LentLaws as lent_laws
use Rattle.machine.proofs.laws.LentLaws.{turns_away, begins_left, begun_left}
use Rattle.machine.specs.OwnAnswer.{OwnAnswer, OwnAnswerByNumber}
use Rattle.machine.specs.Lexes.{Lexeme, tokens_of, Lexes, ReadingChanges}
use Rattle.machine.proofs.laws.OrderedAnswers.{answer_changes_only}
use Rattle.machine.proofs.laws.FaithfulImage.{answered_by_number}
use Rattle.machine.proofs.laws.SpelledOutAnswers.{spelled_out-own-answer}
use Rattle.recogniser.specs.Recognises as recogniser
use Rattle.recogniser.specs.Recognises.{most_recognised_bytes, Recognises, not_passed, long_text, short_list, Recognised}
use Rattle.recogniser.specs.Descends.{Descent, left, stuck, Enters, DescendsFromStart, not_entered, rest_of, number_for, place_for}
use Rattle.recogniser.specs.ReadingStops.{starts_of, Unmatched, MatchedThroughout, TurnedAway, TextRead, TokensFound}
use Rattle.recogniser.proofs.laws.ListingLaws.{list_tokens_reads, matched_read_to_end}
use Rattle.recogniser.proofs.laws.Reading.{read_to_end_matched}
use Rattle.recogniser.proofs.laws.RecognisesNumbers.{not_both_ways, recognises_ways, refused_checks, tokens_counted, tokens_fit, number_12, number_20}
use Rattle.recogniser.proofs.laws.DescentAnswers.{descent_own-answer}
use Rattle.recogniser.proofs.laws.DescentRuns.{entered_denotes}
use Rattle.recogniser.proofs.laws.RecognisesLaws as recogniser_laws
use Rattle.recogniser.proofs.laws.RecognisesLaws.{one_descent, recognises_one, no_rule-first, as_own-answer, unless_15}
use Rattle.demands.specs.Demands.{Functions, Accepts, Demand1, Demand3}
use Rattle.demands.specs.Before.{PassedBefore, Demand2Before}
use Rattle.demands.proofs.laws.Proofs.{written_exactly, accepted_normal_form, unfolds_exactly}
use Rattle.demands.proofs.laws.Corollaries.{one_check, one_write, own}

-- Of any functions that meet demand 1, the sheet is accepted by checking: it passes.
abbrev pub Passes : Functions → List ℕ → List ℕ → Type 0
Passes f sheet work = (f.check sheet work).answer.number ≡ 0

-- ---- what passes, and what is written, by the ways in which checking and writing end

passed_by : (sheet : List ℕ) → Bytes sheet → (work : ℕ) → (check_answer (check sheet work)).number ≡ 0
    → (s : Sheet) × (check sheet work ≡ passed s)
unfolding check_answer
passed_by sheet bytes work h = go (check sheet work) refl h
  where
    go : (v : Verdict) → check sheet work ≡ v → (check_answer v).number ≡ 0 → (s : Sheet) × (check sheet work ≡ passed s)
    go (failed question place) e h = let n = failed_numbered sheet bytes work question place e in absurd (omega (arith, n.0, h))
    go (passed s) e h = (s, e)

refused_by : (sheet : List ℕ) (work room question place : ℕ) → 1 ≤ question → question ≤ 10
    → write_answer (write sheet work room) ≡ answer question place 0 → write sheet work room ≡ refused question place
unfolding write_answer
refused_by sheet work room question place some few h = go (write sheet work room) refl h
  where
    go : (w : Written) → write sheet work room ≡ w → write_answer w ≡ answer question place 0 → w ≡ refused question place
    go (refused q p) e h =
        let same_question : q ≡ question = ap (λ (a : Answer). a.number) h in
        let same_place : p ≡ place = ap (λ (a : Answer). a.place) h in
        rw (same_question, same_place)
    go (too_long n) e h = let z = ap (λ (a : Answer). a.number) h in absurd (omega (arith, z, few))
    go (written image) e h = let z = ap (λ (a : Answer). a.number) h in absurd (omega (arith, z, some))

module _ (f : Functions) (demand : Demand1 f) where
  passes_by : (sheet work : List ℕ) → Bytes sheet → Passes f sheet work ↔ ((s : Sheet) × (check sheet (length work) ≡ passed s))
  unfolding check_answer
  passes_by sheet work bytes =
      let same = one_check f demand sheet work bytes in (
        λ h. passed_by sheet bytes (length work) (subst (λ (r : Checked). r.answer.number ≡ 0) same h),
        λ h. subst (λ (r : Checked). r.answer.number ≡ 0) (sym same) (ap (λ (v : Verdict). (check_answer v).number) h.1),
      )

  accepts_by : (sheet work buffer : List ℕ) → Bytes sheet
      → Accepts f sheet work buffer ↔ (write sheet (length work) (length buffer) ≡ written (f.write sheet work buffer).part)
  accepts_by sheet work buffer bytes =
      let same = one_write f demand sheet work buffer bytes in
      subst (λ (r : Wrote). (r.answer.number ≡ 0) ↔ (write sheet (length work) (length buffer) ≡ written r.part)) (sym same)
      (written_iff sheet bytes (length work) (length buffer))

  -- Written is accepted, and the part that is handed back is the image.
  accepted_as : (sheet work buffer image : List ℕ) → Bytes sheet → write sheet (length work) (length buffer) ≡ written image
      → Accepts f sheet work buffer
  unfolding written_part write_answer
  accepted_as sheet work buffer image bytes e =
      subst (λ (r : Wrote). r.answer.number ≡ 0) (sym (one_write f demand sheet work buffer bytes))
      (ap (λ (w : Written). (write_answer w).number) e)

  -- Checking asks what demand 2 asks, but that the image fits.
  pub passed_exactly : (sheet work : List ℕ) → Bytes sheet → work_bytes ≤ length work → Passes f sheet work ↔ ((s : Sheet) × Passable sheet s)
  passed_exactly sheet work bytes enough =
      let by = passes_by sheet work bytes in (
        λ h. let p = by.0 h in (p.0, (passed_passable sheet bytes (length work) p.0 p.1).1),
        λ h. by.1 (h.0, passable_passes sheet (length work) enough h.0 h.1),
      )

  -- ---- [1] "tag 7, repetition": with every repetition spelled out, typing and denotation are the published ones alone

  -- "its expression has a type under the published typing rules", which know no repetition: spelled out it has the published forms alone
  -- (`spelled_out_published`).
  pub spelled_out_passes : (sheet work : List ℕ) → Bytes sheet → work_bytes ≤ length work
      → Passes f sheet work ↔ ((s : Sheet) × Spells sheet s × NoEmptyRule s.rules × HasType (spelled_out s.expression))
  spelled_out_passes sheet work bytes enough =
      let exactly = passed_exactly sheet work bytes enough in (
        λ h. let x = exactly.0 h in
            let p = x.1 in
            (x.0, p.well_formed, p.no_empty_text, (spelled_out_has_type x.0.expression).0 p.has_type),
        λ x. exactly.1 (
          x.0,
          record { well_formed = x.1; no_empty_text = x.2; has_type = (spelled_out_has_type x.0.expression).1 x.3 },
        ),
      )

  pub spelled_out_accepted : (sheet work buffer : List ℕ) → Bytes sheet → work_bytes ≤ length work
      → Accepts f sheet work buffer
      ↔ ((s : Sheet) × Spells sheet s × NoEmptyRule s.rules × HasType (spelled_out s.expression)
      × ((image : List ℕ) × ReadableAs image (image_of s) × (length image ≤ length buffer)))
  spelled_out_accepted sheet work buffer bytes enough =
      let exactly = written_exactly sheet bytes (length work) (length buffer) enough in (
        λ h. let x = exactly.0 (_, (accepts_by sheet work buffer bytes).0 h) in
            let p = x.1.passable in
            (x.0, p.well_formed, p.no_empty_text, (spelled_out_has_type x.0.expression).0 p.has_type, x.1.fits),
        λ x. let w = exactly.1 (
          x.0,
          record {
            passable = record { well_formed = x.1; no_empty_text = x.2; has_type = (spelled_out_has_type x.0.expression).1 x.3 };
            fits = x.4;
          },
        ) in
            accepted_as sheet work buffer w.0 bytes w.1,
      )

  -- Its start unfolds to exactly the rule sequences that spell what the spelled_out expression denotes.
  pub spelled_out_unfolds : (sheet work buffer : List ℕ) → Bytes sheet → Accepts f sheet work buffer → (s : Sheet) → Spells sheet s
      → (rules : List ℕ) → Unfolds (image_of s).rows (0 ∷ []) rules ↔ DenotedRules (spelled_out_sheet s) rules
  unfolding image_sheet
  spelled_out_unfolds sheet work buffer bytes h s spells rules =
      let e = (accepts_by sheet work buffer bytes).0 h in
      let exactly = unfolds_exactly sheet bytes (length work) (length buffer) _ e s spells rules in
      let denotes = spelled_out_denotes s.expression in (
        λ u. let x = exactly.0 u in (x.0, (denotes x.0).0 x.1, x.2),
        λ x. exactly.1 (x.0, (denotes x.0).1 x.1, x.2),
      )

  -- ---- [2] "checking (questions 1 to 10 ..) and writing, which checks again and then puts 11"

  -- "A sheet passes checking exactly if some image buffer is long enough for writing it."
  pub some_buffer : (sheet work : List ℕ) → Bytes sheet → Passes f sheet work ↔ ((buffer : List ℕ) × Accepts f sheet work buffer)
  some_buffer sheet work bytes = (
    λ h. let p = (passes_by sheet work bytes).0 h in
        let image = image_bytes (image_of p.0) in
        let buffer : List ℕ = replicate (length image) 0 in
        let room = length-replicate {A = ℕ} (length image) 0 in
        let e = writing.passed_written sheet (length work) p.0 p.1 (length buffer) (omega (arith, room)) in
        (buffer, accepted_as sheet work buffer image bytes e),
    λ h. let p = writing.written_passed sheet (length work) (length h.0) _ ((accepts_by sheet work h.0 bytes).0 h.1) in
        (passes_by sheet work bytes).1 (p.0, p.1),
  )

  -- Long enough are those from the image's own length on, and no others; all get the same image.
  pub long_buffers : (sheet work buffer : List ℕ) → Bytes sheet → Accepts f sheet work buffer
      → (other : List ℕ) → (Accepts f sheet work other × ((f.write sheet work other).part ≡ (f.write sheet work buffer).part))
      ↔ (length (f.write sheet work buffer).part ≤ length other)
  long_buffers sheet work buffer bytes h other =
      let e = (accepts_by sheet work buffer bytes).0 h in
      let p = writing.written_passed sheet (length work) (length buffer) _ e in (
        λ k. let q = writing.written_passed sheet (length work) (length other) _ ((accepts_by sheet work other bytes).0 k.0) in
            let same : q.0 ≡ p.0 = let z = sym q.1 ∙ p.1 in cc in
            let long = subst (λ (s : Sheet). (f.write sheet work other).part ≡ image_bytes (image_of s)) same q.2 in
            omega (arith, q.3, ap length p.2, ap length long),
        λ l. let w = (writing.written_from sheet (length work) (length buffer) _ e (length other)).1 l in
            let accepted = accepted_as sheet work other _ bytes w in
            (accepted, let z = sym ((accepts_by sheet work other bytes).0 accepted) ∙ w in cc),
      )

  -- "writing, which checks again": it refuses by the question that checking names, whatever the image buffer.
  pub checks_again : (sheet work buffer : List ℕ) → Bytes sheet → (question place : ℕ) → 1 ≤ question → question ≤ 10
      → ((f.write sheet work buffer).answer ≡ answer question place 0) ↔ ((f.check sheet work).answer ≡ answer question place 0)
  unfolding check_answer write_answer
  checks_again sheet work buffer bytes question place some few =
      let check_same = one_check f demand sheet work bytes in
      let write_same = one_write f demand sheet work buffer bytes in
      let again = writing.refused_exactly sheet (length work) (length buffer) question place in (
        λ h. let w = ap (λ (r : Wrote). r.answer) (sym write_same) ∙ h in
            ap (λ (r : Checked). r.answer) check_same
            ∙ ap check_answer (again.0 (refused_by sheet (length work) (length buffer) question place some few w)),
        λ h. let c = ap (λ (r : Checked). r.answer) (sym check_same) ∙ h in
            ap (λ (r : Wrote). r.answer) write_same
            ∙ ap write_answer (again.1 (failed_by (check sheet (length work)) question place some c)),
      )

  -- 65,536 bytes are a buffer that is long enough for every sheet that passes.
  pub written_in_65536 : (sheet work buffer : List ℕ) → Bytes sheet → Passes f sheet work → 65536 ≤ length buffer → Accepts f sheet work buffer
  written_in_65536 sheet work buffer bytes h enough =
      let q = (passes_by sheet work bytes).0 h in
      let s = q.0 in
      let p = (passed_passable sheet bytes (length work) s q.1).1 in
      let few = image_fits s (spelled_limits sheet s p.well_formed) ((none_empty s.rules).1 p.no_empty_text) p.has_type.1 in
      accepted_as sheet work buffer _ bytes (writing.passed_written sheet (length work) s q.1 (length buffer) (omega (arith, few, enough)))

  -- ---- [3] "A sheet and its padded twin of at most 4,096 bytes give the same image"

  module _ (a b : List ℕ) (bytes : Bytes a) (other_bytes : Bytes b) (twins : Twins a b) (short : length a ≤ most_sheet_bytes)
      (other_short : length b ≤ most_sheet_bytes) (work : List ℕ) where
    -- If the one passes, so does the other, and writing gives the same, whatever the image buffer: answer, part and buffers.
    pub twins_pass : Passes f a work → Passes f b work × ((buffer : List ℕ) → f.write b work buffer ≡ f.write a work buffer)
    twins_pass h =
        let p = (passes_by a work bytes).0 h in
        let both = twins_written a b bytes other_bytes twins short other_short (length work) p.0 p.1 in (
          (passes_by b work other_bytes).1 (p.0, both.0),
          λ buffer. one_write f demand b work buffer other_bytes
              ∙ (ap (wrote_with buffer work) (both.1 (length buffer)) ∙ sym (one_write f demand a work buffer bytes)),
        )

    -- If a question from 1 to 10 but 2 fails of the one, it fails of the other, and the same numbers stand before the two places. They are
    -- those of the same number; with 3 and 6, where no number need stand, those after the same numbers, and with 1 both are 0. Writing
    -- refuses alike, by `checks_again`.
    pub twins_fail : (question place : ℕ) → 1 ≤ question → (f.check a work).answer ≡ answer question place 0
        → (other : ℕ) × ((f.check b work).answer ≡ answer question other 0) × SamePlace a b place other
    unfolding check_answer
    twins_fail question place some h =
        let c = ap (λ (r : Checked). r.answer) (sym (one_check f demand a work bytes)) ∙ h in
        let e = failed_by (check a (length work)) question place some c in
        let r = twins_refused a b bytes other_bytes twins short other_short (length work) question place e in
        (r.0, ap (λ (x : Checked). x.answer) (one_check f demand b work other_bytes) ∙ ap check_answer r.1, r.2)

  -- ---- [4] "a word rule .. now wins over any other"

  -- Where no other rule stands above a word rule, the image is the one with the rules numbered as they stand, as it was before.
  pub same_numbering : (sheet work buffer : List ℕ) → Bytes sheet → Accepts f sheet work buffer → (s : Sheet) → Spells sheet s
      → WordsAbove s.rules → ReadableAs (f.write sheet work buffer).part (plain_image s)
  same_numbering sheet work buffer bytes h s spells above =
      let e = (accepts_by sheet work buffer bytes).0 h in
      subst (ReadableAs (f.write sheet work buffer).part) (numbering_kept s above)
      (accepted_normal_form sheet bytes (length work) (length buffer) _ e s spells)

-- ---- [1] and [4], of what is read

-- What running answers is the own answer of the sheet with every repetition spelled out, of any functions that meet demand 3.
pub spelled_out_answered : (f : Functions) → Demand3 f → (sheet work buffer : List ℕ) → Bytes sheet → Accepts f sheet work buffer
    → (s : Sheet) → Spells sheet s → (text : List ℕ) (lent : Lent) → length text ≤ most_text_bytes → long_enough text ≤ length lent.stack
    → (Short lent.scanner → ⊥) → (ManyRows lent.scanner (image_of s) → ⊥)
    → (a : Answer) → ((f.run (f.write sheet work buffer).part text lent).answer ≡ a) ↔ OwnAnswer (spelled_out_sheet s) text a
spelled_out_answered f demand sheet work buffer bytes h s spells text lent within long not_short few a =
    let own = demand.own_answer sheet work buffer bytes h s spells text lent within long not_short few a in
    let out = spelled_out-own-answer s text a in
    ((λ e. out.0 (own.0 e)), λ o. own.1 (out.1 o))

-- "A reading changes only where a non-word rule stood above a word rule and both matched equally far": at every place the match by number,
-- as it was, and the match by kind are equally long, and their rules differ only so.
pub changes_only : (rules : List Rule) (rest : List ℕ) (old new n m : ℕ) → LongestMatch by_number rules rest old n
    → LongestMatch by_kind rules rest new m → (n ≡ m) × ((old ≡ new) ⊎ NonWordAbove rules rest old new n)
changes_only rules rest old new n m = match_changes_only rules

-- Of whole texts: a sheet that passes has an own answer by number, as it was, to every text, and its own answer is the same or a place is
-- reached where the reading changes.
pub text_changes_only : (sheet : List ℕ) (s : Sheet) → Passable sheet s → (text : List ℕ) (b : Answer) → OwnAnswer s text b
    → (a : Answer) × OwnAnswerByNumber s text a × ((a ≡ b) ⊎ ReadingChanges s text)
text_changes_only sheet s p text b own =
    let no_empty = (none_empty s.rules).1 p.no_empty_text in
    let old = answered_by_number s (spelled_limits sheet s p.well_formed) p.has_type.1 no_empty text in
    (_, old, answer_changes_only s text no_empty _ b old own)

-- ---- [6] "a scanner table", lent by the caller

-- Of any functions that meet demand 1, what running leaves of all that it is lent, whatever the image, the text and the buffers hold.
module _ (f : Functions) (demand : Demand1 f) (image text : List ℕ) (bytes : Bytes image) (lent : Lent) where
  abbrev ran : Ran
  ran = f.run image text lent

  runs : Runs image text lent ran
  runs = (demand.running image text bytes lent ran).0 refl

  -- "untouched after 12 and 13"; "after these [18 and 19], 12 and 13 the stack and both buffers are untouched"
  pub untouched : turns_away ran.answer.number ≡ true → ran.left ≡ lent
  untouched = lent_laws.untouched image text lent runs

  -- Any other run: "The stack ends all zero", and "Each run builds the table before it reads the text. Entries past the last row keep what
  -- they held.", for the one image that the bytes are.
  pub worked : turns_away ran.answer.number ≡ false
      → (i : Image)
      × (Begins image text lent i × (ran.left ≡ record { stack = replicate (length lent.stack) 0; scanner = built i lent.scanner }))
  worked = begins_left image text lent runs

  -- The same from the page's conditions: a run that begins, with this image, leaves so, whatever it answers.
  pub worked_when_begun : (i : Image) → Begins image text lent i
      → ran.left ≡ record { stack = replicate (length lent.stack) 0; scanner = built i lent.scanner }
  worked_when_begun i = begun_left image text lent runs i

  -- "Unless 18 or 19 is given, the answer and the final stack are those of a run without a table", for every image, readable or not.
  pub as_without_table : (ran.answer.number ≡ 18 → ⊥) → (ran.answer.number ≡ 19 → ⊥)
      → let alone = f.run image text (stack_alone lent.stack) in (ran.answer ≡ alone.answer) × (ran.left.stack ≡ alone.left.stack)
  as_without_table =
      let alone = stack_alone lent.stack in
      lent_laws.as_without_table image text lent bytes runs ((demand.running image text bytes alone _).0 refl)

-- ---- [7] "document 001's recogniser as a yardstick"

-- Of any functions that meet demand 1, whatever the sheet, the text, the work area and the list hold.
module _ (f : Functions) (demand : Demand1 f) (sheet text work list : List ℕ) (bytes : Bytes sheet) where
  abbrev recognition : Recognised
  recognition = f.recognise sheet text work list

  fixed_by : Recognises sheet text (length work) (length list) recognition.answer recognition.tokens
      × (recognition.list ≡ written_over recognition.tokens list) × (recognition.work ≡ work_after work)
  fixed_by = (demand.recognising sheet text work list bytes recognition).0 refl

  -- "put after questions 1 to 10": with these it answers as checking does.
  pub questions_first : (question place : ℕ) → 1 ≤ question → question ≤ 10
      → (recognition.answer ≡ answer question place 0) ↔ ((f.check sheet work).answer ≡ answer question place 0)
  questions_first question place some few =
      let checks = ((demand.checking sheet work bytes (f.check sheet work)).0 refl).0 in (
        λ h. let z : recognition.answer.number ≡ question = ap (λ (a : Answer). a.number) h in
            let same = refused_checks fixed_by.0 (omega (arith, z, some), omega (arith, z, few)) in
            sym (checks_only bytes checks) ∙ (checks_only bytes same ∙ h),
        λ h. (recognises_one sheet text (length work) (length list) bytes fixed_by.0
            (not_passed (answer question place 0) (subst (Checks sheet (length work)) h checks) some)).0,
      )

  -- "The work area ends as after checking."
  pub work_as_checking : recognition.work ≡ (f.check sheet work).work
  work_as_checking = fixed_by.2 ∙ sym ((demand.checking sheet work bytes (f.check sheet work)).0 refl).1

  -- "with the count of tokens written", and they fit in the list, which keeps its length.
  pub counted : recognition.answer.amount ≡ length recognition.tokens
  counted = tokens_counted fixed_by.0

  pub list_length-kept : length recognition.list ≡ length list
  unfolding written_over
  list_length-kept =
      let tokens = recognition.tokens in
      let fits = (tokens_fit fixed_by.0).1 in
      ap (λ (l : List ℕ). length l) fixed_by.1
      ∙ omega (arith, fits, length-append tokens (drop (length tokens) list), length-drop (length tokens) list)

  -- The tokens stand at the list's front, as many as are counted.
  pub tokens_in_list : take recognition.answer.amount recognition.list ≡ recognition.tokens
  unfolding written_over
  tokens_in_list =
      let tokens = recognition.tokens in
      ap (λ (n : ℕ). take n recognition.list) counted
      ∙ (ap (take (length tokens)) fixed_by.1 ∙ take_at tokens (drop (length tokens) list) (length tokens) refl)

  -- There are these numbers and no others.
  pub recognition-numbers : TurnedAway recognition.answer.number ⊎ TextRead recognition.answer.number
  recognition-numbers = ⊎_map (λ h. h.0) (λ h. h.0) (recognises_ways sheet text (length work) (length list) fixed_by.0)

  -- "after it [20] and all before it the list is untouched": 1 to 10, 12 and 20.
  pub list_untouched : TurnedAway recognition.answer.number → recognition.list ≡ list
  unfolding written_over
  list_untouched away = elim (recognises_ways sheet text (length work) (length list) fixed_by.0) [
    | inl h ↦ fixed_by.1 ∙ ap (λ (tokens : List ℕ). written_over tokens list) h.1
    | inr h ↦ absurd (not_both_ways away h.0)
  ]

  -- Else, with 0, 14, 15 and 16, the list has the tokens that longest match finds, "one an entry, the rest of the list unchanged".
  pub tokens_written : TextRead recognition.answer.number
      → (found : TokensFound sheet text (length work) (length list) recognition.tokens)
      × (recognition.list ≡ written_over (tokens_of found.lexemes) list) × (recognition.answer.amount ≡ length found.lexemes)
  tokens_written read = elim (recognises_ways sheet text (length work) (length list) fixed_by.0) [
    | inl h ↦ absurd (not_both_ways h.0 read)
    | inr h ↦ let r = h.1 in (
      r,
      fixed_by.1 ∙ ap (λ (tokens : List ℕ). written_over tokens list) r.tokens_are,
      counted ∙ (ap (λ (tokens : List ℕ). length tokens) r.tokens_are ∙ length-map r.lexemes (λ l. l.token)),
    )
  ]

  module _ (passes : Passes f sheet work) (s : Sheet) (spells : Spells sheet s) where
    enough : work_bytes ≤ length work
    enough = let p = (passes_by f demand sheet work bytes).0 passes in (passed_passable sheet bytes (length work) p.0 p.1).0

    passable : Passable sheet s
    passable =
        let p = (passes_by f demand sheet work bytes).0 passes in
        let q = passed_passable sheet bytes (length work) p.0 p.1 in
        subst (Passable sheet) (spelled_once sheet p.0 s q.1.well_formed spells) q.1

    -- "Texts over 2,048 bytes are 12"
    pub text_too_long : (recognition.answer ≡ answer 12 0 0) ↔ (most_recognised_bytes < length text)
    text_too_long = (
      (λ h. number_12 fixed_by.0 (ap (λ (a : Answer). a.number) h)),
      λ l. (recognises_one sheet text (length work) (length list) bytes fixed_by.0 (long_text s enough passable l)).0,
    )

    -- "a list shorter than the text is 20, after 12"
    pub list_too_short : (recognition.answer ≡ answer 20 0 0) ↔ ((length text ≤ most_recognised_bytes) × (length list < length text))
    list_too_short = (
      (λ h. number_20 fixed_by.0 (ap (λ (a : Answer). a.number) h)),
      λ l. (recognises_one sheet text (length work) (length list) bytes fixed_by.0 (short_list s enough passable l.0 l.1)).0,
    )

  -- "On every sheet that passes, a text that meets neither 12 nor 20":
  module _ (passes : Passes f sheet work) (s : Sheet) (spells : Spells sheet s) (within : length text ≤ most_recognised_bytes)
      (list_holds : length text ≤ length list) where
    read_by : recogniser.NotTurnedAway sheet text (length work) (length list) s
    read_by = record {
      enough_work = enough passes s spells;
      passable = passable passes s spells;
      within = within;
      list_holds = list_holds;
    }

    -- It "gets 14 at the first place where no rule matches", whatever the machine says, and the tokens before it.
    pub unmatched_first : (p : ℕ) (lexemes : List Lexeme) → Lexes by_kind s text p lexemes → Unmatched s text p
        → (recognition.answer ≡ answer 14 p (length lexemes)) × (recognition.tokens ≡ tokens_of lexemes)
    unmatched_first p lexemes = no_rule-first sheet text (length work) (length list) bytes fixed_by.0 s read_by

    -- No place that reading reaches is without a match exactly if reading comes to the text's end.
    pub read_through : MatchedThroughout s text ↔ ((lexemes : List Lexeme) × Lexes by_kind s text (length text) lexemes)
    read_through = (matched_read_to_end s text read_by.passable.no_empty_text, λ x. read_to_end_matched s text x.1)

    -- "where there is none", the number and the place of the sheet's own answer;
    pub as_own : MatchedThroughout s text → (a : Answer) → OwnAnswer s text a
        → (recognition.answer.number ≡ a.number) × (recognition.answer.place ≡ a.place)
    as_own throughout a own =
        let e = (as_own-answer sheet text (length work) (length list) bytes fixed_by.0 s read_by (read_through.0 throughout).1 a own).0 in
        (ap (λ (b : Answer). b.number) e, ap (λ (b : Answer). b.place) e)

    -- Unless that is 15, the count is the same too.
    pub whole_as_machine : MatchedThroughout s text → Demand3 f → (other buffer : List ℕ) → Accepts f sheet other buffer
        → (lent : Lent) → long_enough text ≤ length lent.stack → (Short lent.scanner → ⊥)
        → (ManyRows lent.scanner (image_of s) → ⊥)
        → let a = (f.run (f.write sheet other buffer).part text lent).answer in (a.number ≡ 15 → ⊥) → recognition.answer ≡ a
    whole_as_machine throughout demand_3 other buffer accepted lent long not_short few =
        unless_15 sheet text (length work) (length list) bytes fixed_by.0 s read_by (read_through.0 throughout).1 _
        (own f demand_3 sheet other buffer bytes accepted s spells text lent (omega (arith, within)) long not_short few)

    by_descent : (lexemes : List Lexeme) → Lexes by_kind s text (length text) lexemes
        → (o : Descent) → DescendsFromStart s.expression (tokens_of lexemes) o
        → recognition.answer ≡ answer (number_for o) (place_for (starts_of lexemes) o (length text)) (length lexemes)
    by_descent lexemes x = recogniser_laws.descent_decides sheet text (length work) (length list) bytes fixed_by.0 s read_by x

    -- 14 is given for no other reason.
    pub unmatched_only : recognition.answer.number ≡ 14 → (p : ℕ) × (lexemes : List Lexeme) × Lexes by_kind s text p lexemes × Unmatched s text p
    unmatched_only h =
        let r = list_tokens_reads s text read_by.passable.no_empty_text in elim r.stops [
          | inl e ↦ absurd (never (one_descent read_by.passable (tokens_of r.lexemes)).0
              (sym (ap (λ (a : Answer). a.number) (by_descent r.lexemes (subst (λ (p : ℕ). Lexes by_kind s text p r.lexemes) e r.reads) _
              (one_descent read_by.passable (tokens_of r.lexemes)).1)) ∙ h))
          | inr u ↦ (_, r.lexemes, r.reads, u)
        ]
      where
        never : (o : Descent) → number_for o ≡ 14 → ⊥
        never (left []) z = omega (arith, z)
        never (left (t ∷ rest)) z = omega (arith, z)
        never (stuck []) z = omega (arith, z)
        never (stuck (t ∷ rest)) z = omega (arith, z)

    -- The one descent over the tokens ends with what is answered.
    pub descent_decides : (lexemes : List Lexeme) → Lexes by_kind s text (length text) lexemes
        → (o : Descent) × DescendsFromStart s.expression (tokens_of lexemes) o
        × ((r : Descent) → DescendsFromStart s.expression (tokens_of lexemes) r → r ≡ o)
        × (recognition.answer ≡ answer (number_for o) (place_for (starts_of lexemes) o (length text)) (length lexemes))
    descent_decides lexemes x =
        let d = one_descent read_by.passable (tokens_of lexemes) in
        (d.0, d.1, d.2, by_descent lexemes x d.0 d.1)

    -- If the whole expression denotes nothing, the first token is refused, or the end.
    module _ (none_denoted : (tokens : List ℕ) → Denotes s.expression tokens → ⊥) where
      pub nothing_denoted : (l : Lexeme) (ls : List Lexeme) → Lexes by_kind s text (length text) (l ∷ ls)
          → recognition.answer ≡ answer 15 l.start (suc (length ls))
      nothing_denoted l ls x =
          by_descent (l ∷ ls) x (stuck (tokens_of (l ∷ ls))) (not_entered (λ w. none_denoted w.0 w.1))
          ∙ ap (λ (i : ℕ). answer 15 (get_or (l.start ∷ starts_of ls) i (length text)) (suc (length ls)))
          (let z : suc (length (starts_of ls)) - suc (length (tokens_of ls)) ≡ 0 =
          omega (arith, length-map ls (λ m. m.start), length-map ls (λ m. m.token)) in z)

      pub nothing_denoted_at_end : Lexes by_kind s text (length text) [] → recognition.answer ≡ answer 16 (length text) 0
      nothing_denoted_at_end x = by_descent [] x (stuck []) (not_entered (λ w. none_denoted w.0 w.1))

-- ---- [7], of the descent itself, whatever functions there are

-- "then descends the expression itself": over the tokens of a text that is read to its end, the descent ends with the sheet's own answer.
pub descent_is_right : (sheet : List ℕ) (s : Sheet) → Passable sheet s → (text : List ℕ) (lexemes : List Lexeme)
    → Lexes by_kind s text (length text) lexemes → (o : Descent) → DescendsFromStart s.expression (tokens_of lexemes) o
    → OwnAnswer s text (answer (number_for o) (place_for (starts_of lexemes) o (length text)) (length lexemes - length (rest_of o)))
descent_is_right sheet s p text lexemes x o d = descent_own-answer s text p.has_type.1 x d

-- "So a branch that denotes nothing is not entered."
pub only_denoting_entered : (e : Expression) (g g' c : ℕ) → Enters e g g' c → HasWord (language_of e g)
only_denoting_entered = entered_denotes

-- ---- [8] "Unfinished branches in a sheet": "From here on 001's typing decides acceptance", which is demand 2

passable_still : {sheet : List ℕ} {s : Sheet} → PassedBefore sheet s → Passable sheet s
passable_still {sheet} {s} p = record {
  well_formed = p.well_formed;
  no_empty_text = p.no_empty_text;
  has_type = has_type_still s (spelled_limits sheet s p.well_formed) p.had_type;
}

module _ (f : Functions) (demand : Demand1 f) where
  -- "Every sheet that passed still passes"
  pub passes_still : (sheet work : List ℕ) → Bytes sheet → work_bytes ≤ length work → (s : Sheet) → PassedBefore sheet s → Passes f sheet work
  passes_still sheet work bytes enough s p = (passed_exactly f demand sheet work bytes enough).1 (s, passable_still p)

  -- "with the same image", byte for byte: what fits is accepted, and what is written is the image that was written.
  pub image_still : (sheet work buffer image : List ℕ) → Bytes sheet → work_bytes ≤ length work → (s : Sheet) → PassedBefore sheet s
      → ReadableAs image (image_of s) → length image ≤ length buffer
      → Accepts f sheet work buffer × ((f.write sheet work buffer).part ≡ image)
  image_still sheet work buffer image bytes enough s p readable fits =
      let w = (written_exactly sheet bytes (length work) (length buffer) enough).1
      (s, record { passable = passable_still p; fits = (image, readable, fits) }) in
      let accepted = accepted_as f demand sheet work buffer w.0 bytes w.1 in
      let e = (accepts_by f demand sheet work buffer bytes).0 accepted in
      let now = accepted_normal_form sheet bytes (length work) (length buffer) _ e s p.well_formed in
      (accepted, readable_written _ (image_of s) now ∙ sym (readable_written image (image_of s) readable))

  -- The same of whatever functions were right before: these accept what they accepted, and write what they wrote.
  pub same_image_still : (g : Functions) → Demand2Before g → (sheet work buffer : List ℕ) → Bytes sheet → work_bytes ≤ length work
      → Accepts g sheet work buffer → Accepts f sheet work buffer × ((f.write sheet work buffer).part ≡ (g.write sheet work buffer).part)
  same_image_still g before sheet work buffer bytes enough h =
      let x = (before.accepted_exactly sheet work buffer bytes enough).0 h in
      let there = before.normal_form sheet work buffer bytes h x.0 x.1.well_formed in
      let same = readable_written x.2.0 (image_of x.0) x.2.1 ∙ sym (readable_written _ (image_of x.0) there) in
      image_still sheet work buffer (g.write sheet work buffer).part bytes enough x.0 x.1 there
      (subst (λ (image : List ℕ). length image ≤ length buffer) same x.2.2)

-- There are sheets that passed: sheet D is one.
pub D_passed_before : PassedBefore bytes_of_D sheet_D
unfolding computing_image
D_passed_before = record { well_formed = d_spelled; no_empty_text = (none_empty sheet_D.rules).0 refl; had_type = D_had_type }

-- Of every well_formed sheet, whether it passes or not, the least types are exact in this: a node has the type of the empty language exactly
-- if it denotes nothing,
pub bottom_exactly : (s : Sheet) → WithinLimits s → (types : List LanguageType) → LeastSolution (nodes s.expression) types
    → (n : ℕ) → (type_of types n ≡ bottom_type) ↔ (HasWord (language_of s.expression n) → ⊥)
bottom_exactly s limits types least n = sheet_bottom_exact s.tokens limits.tokens_most s.expression limits.closed types least n

-- it is nullable exactly if it denotes the empty sequence,
pub null_exactly : (s : Sheet) → WithinLimits s → (types : List LanguageType) → LeastSolution (nodes s.expression) types
    → (n : ℕ) → ((type_of types n).null ≡ true) ↔ language_of s.expression n []
null_exactly s limits types least n = sheet_null_exact s.tokens limits.tokens_most s.expression limits.closed types least n

-- and a token is in its FIRST set exactly if a sequence that it denotes begins with it.
pub first_exactly : (s : Sheet) → WithinLimits s → (types : List LanguageType) → LeastSolution (nodes s.expression) types
    → (n t : ℕ) → (t ∈ (type_of types n).first) ↔ languages.Begins (language_of s.expression n) t
first_exactly s limits types least n t = sheet_first_exact s.tokens limits.tokens_most s.expression limits.closed types least n t

-- "N·⊥ ∨ N now passes and denotes N alone": that it passes is a row of the table of worked cases (`cases`).
pub unfinished_denotes : (t : ℕ) (tokens : List ℕ)
    → Denotes (alternative (sequence (token t) bottom) (token t)) tokens ↔ (tokens ≡ t ∷ [])
unfinished_denotes = unfinished_laws.unfinished_denotes
