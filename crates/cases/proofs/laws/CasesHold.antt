-- Every row of the eight tables of worked cases holds: what is computed of a row, and, by the demands, what follows for the sheet that
-- its bytes spell. The rows themselves stand in `Cases`, `RepetitionCases`, `CheckCases`, `PaddingCases`, `WordCases`, `TableCases`,
-- `RecogniserCases` and `UnfinishedCases`.
use Rattle.std.specs.Prelude.{◌≡◌, refl, true, not, List, [], ◌∷◌, ◌⊎◌, ◌↔◌, ℕ, zero, suc, ◌≤◌, T, eqb, leb, length}
use Rattle.std.proofs.Common.{ap, subst, ◌∙◌, ⊎_elim, arith, leb→le, eq-eqb}
use Rattle.basics.specs.Lists.{All, written_over}
use Rattle.basics.proofs.laws.Members.{◌&◌}
use Rattle.basics.proofs.laws.Truth.{not_holds, true_holds}
use Rattle.sheet.specs.Limits.{most_sheet_bytes}
use Rattle.sheet.specs.Sheet.{Sheet}
use Rattle.sheet.specs.SheetFormat.{Spells}
use Rattle.sheet.proofs.laws.FieldLaws.{Bytes, all_bytes, tested_bytes}
use Rattle.sheet.specs.Field.{got}
use Rattle.sheet.specs.Reading.{Contents, read_sheet}
use Rattle.sheet.proofs.laws.ReadingLaws.{read_accepted, spelled_once, spelled_limits}
use Rattle.sheet.specs.Regex.{class, concat, star}
use Rattle.sheet.specs.Expression.{bottom, token, sequence, alternative, fixed_point, variable}
use Rattle.sheet.specs.SheetD.{sheet_D, bytes_of_D}
use Rattle.sheet.specs.Twins.{Twins}
use Rattle.sheet.proofs.laws.TwinLaws.{numbers_twins, reads_as, read_as}
use Rattle.types.specs.Denotation.{Denotes, denotation, iterate}
use Rattle.lexer.proofs.laws.EmptyWord.{none_empty}
use Rattle.image.specs.Image.{Image, plain_image}
use Rattle.image.specs.ImageReading.{read_image}
use Rattle.image.proofs.laws.ReadableImages.{read_readable}
use Rattle.image.specs.Check.{work_bytes, check, check_answer}
use Rattle.image.specs.Checks.{Passable}
use Rattle.image.specs.Write.{Written, written, write, written_part}
use Rattle.image.specs.Answer.{Answer}
use Rattle.machine.specs.Trace.{start_state, answer_of}
use Rattle.machine.specs.Lent.{most_text_bytes, long_enough, rows_of, winners_of}
use Rattle.machine.specs.Run.{trace_from, run}
use Rattle.machine.specs.OwnAnswer.{OwnAnswer, OwnAnswerByNumber}
use Rattle.machine.proofs.laws.OwnAnswerLaws.{by_number_one}
use Rattle.machine.specs.Lexes.{ReadingChanges}
use Rattle.machine.proofs.laws.FaithfulImage.{answered_by_number}
use Rattle.machine.specs.laws.Computing.{computing_machine}
use Rattle.recogniser.specs.Recognise.{ending, recognise}
use Rattle.recogniser.specs.laws.Computing.{computing_recogniser}
use Rattle.recogniser.proofs.laws.RecognisesLaws.{recognises_iff}
use Rattle.demands.proofs.laws.Proofs.{demand_1, written_exactly, own-answer_alone}
use Rattle.demands.proofs.laws.Requests.{text_changes_only, unfinished_denotes}
use Rattle.demands.specs.ImageD.{image_D, D_written}
use Rattle.cases.specs.Cases.{Case, writes, writes_with, checks, reads, changes, runs, tables, runs_table, recognises, denotes_only, denotes_nothing}
use Rattle.cases.specs.Cases.{written_sheet, stack_for, buffers, run_of_sheet, Holds, cases}
use Rattle.cases.specs.RepetitionCases.{image_of_counts, image_of_numbers, repetition_cases}
use Rattle.cases.specs.CheckCases.{check_cases}
use Rattle.cases.specs.PaddingCases.{in_ten, padding_cases}
use Rattle.cases.specs.WordCases.{image_word_below, image_name_above, image_first_if, image_second_if, image_skipped_if}
use Rattle.cases.specs.WordCases.{image_equal_words, image_wide_class, image_empty_then_a, word_cases}
use Rattle.cases.specs.TableCases.{table_cases}
use Rattle.cases.specs.RecogniserCases.{recogniser_cases}
use Rattle.cases.specs.UnfinishedCases.{image_of_N, unfinished_cases}

-- What is computed of a case: for a reading, the sheet's image and what the machine answers over it.
abbrev Computes : Case → Type 0
Computes (writes sheet c) = written_sheet sheet ≡ c
Computes (writes_with work room sheet c) = write sheet work room ≡ c
Computes (checks sheet work a) = check_answer (check sheet work) ≡ a
Computes (reads sheet text a) =
    (image : List ℕ) × (written_sheet sheet ≡ written image) × ((run image text (stack_for text)).answer ≡ a)
    × T (all_bytes sheet) × T (leb (length text) most_text_bytes)
Computes (changes sheet text a) =
    (image : List ℕ) × (c : Contents) × (written_sheet sheet ≡ written image) × (read_sheet sheet ≡ got c (length sheet))
    × (answer_of (trace_from (plain_image c.sheet) (long_enough text) text (length text) start_state) ≡ a)
    × T (not (eqb a.number (run image text (stack_for text)).answer.number))
    × T (all_bytes sheet) × T (leb (length sheet) most_sheet_bytes) × T (leb (length text) most_text_bytes)
Computes (runs image text a) = ((run image text (stack_for text)).answer ≡ a) × T (all_bytes image)
Computes (tables image rows winners) =
    (i : Image) × (read_image image ≡ got i (length image)) × (length (rows_of i) ≡ rows) × (winners_of i ≡ winners) × T (all_bytes image)
Computes (runs_table image text table winners entries a) = ((run image text (buffers table winners entries)).answer ≡ a) × T (all_bytes image)
Computes (recognises sheet text list a after) =
    (tokens : List ℕ) × (recognise sheet text work_bytes (length list) ≡ ending a tokens) × (written_over tokens list ≡ after)
    × T (all_bytes sheet)
Computes (denotes_only sheet only) =
    (c : Contents) × (read_sheet sheet ≡ got c (length sheet)) × T (all_bytes sheet) × T (leb (length sheet) most_sheet_bytes)
    × ((tokens : List ℕ) → Denotes c.sheet.expression tokens ↔ (tokens ≡ only))
Computes (denotes_nothing sheet) =
    (c : Contents) × (read_sheet sheet ≡ got c (length sheet)) × T (all_bytes sheet) × T (leb (length sheet) most_sheet_bytes)
    × ((tokens : List ℕ) → Denotes c.sheet.expression tokens → ⊥)

-- Where the own answer by number has another number than the run, the reading changes.
changes_hold : (sheet : List ℕ) → Bytes sheet → (text : List ℕ) (a : Answer) (image : List ℕ) → written_sheet sheet ≡ written image
    → (s : Sheet) → Spells sheet s → answer_of (trace_from (plain_image s) (long_enough text) text (length text) start_state) ≡ a
    → T (not (eqb a.number (run image text (stack_for text)).answer.number)) → length text ≤ most_text_bytes
    → (s : Sheet) × Spells sheet s × OwnAnswerByNumber s text a × ReadingChanges s text
unfolding written_sheet
changes_hold sheet bytes text a image e s spells f differ short =
    (s, spells, old, ⊎_elim (λ same. absurd (not_same (by_number_one s text old change.1 ∙ same))) (λ c. c) change.2)
  where
    passable : Passable sheet s
    passable =
        let w = (written_exactly sheet bytes work_bytes 65536 (omega arith)).0 (image, e) in
        subst (Passable sheet) (spelled_once sheet w.0 s w.1.passable.well_formed spells) w.1.passable

    old : OwnAnswerByNumber s text a
    old =
        subst (OwnAnswerByNumber s text) f
        (answered_by_number s (spelled_limits sheet s spells) passable.has_type.1 ((none_empty s.rules).1 passable.no_empty_text) text)

    change : (b : Answer) × OwnAnswerByNumber s text b × ((b ≡ (run image text (stack_for text)).answer) ⊎ ReadingChanges s text)
    change =
        text_changes_only sheet s passable text _ (own-answer_alone sheet bytes work_bytes 65536 image e s spells text short)

    not_same : a ≡ (run image text (stack_for text)).answer → ⊥
    not_same same =
        not_holds (eqb a.number (run image text (stack_for text)).answer.number) differ
        (true_holds _ (eq-eqb a.number (run image text (stack_for text)).answer.number (ap (λ (b : Answer). b.number) same)))

-- By demand 2 a sheet whose image was written is one that the bytes spell, and by demand 3 what the machine answers is its own answer.
holds : (c : Case) → Computes c → Holds c
unfolding written_sheet run_of_sheet written_part
holds (writes sheet c) h = h
holds (writes_with work room sheet c) h = h
holds (checks sheet work a) h = h
holds (reads sheet text a) h =
    let bytes = tested_bytes sheet h.3 in
    let s = (written_exactly sheet bytes work_bytes 65536 (omega arith)).0 (h.0, h.1) in
    let spells : Spells sheet s.0 = s.1.passable.well_formed in (
      ap (λ (c : Written). (run (written_part c) text (stack_for text)).answer) h.1 ∙ h.2,
      s.0,
      spells,
      subst (OwnAnswer s.0 text) h.2
          (own-answer_alone sheet bytes work_bytes 65536 h.0 h.1 s.0 spells text (leb→le (length text) most_text_bytes h.4)),
    )
holds (changes sheet text a) h =
    let bytes = tested_bytes sheet h.6 in
    let read = read_accepted sheet bytes (leb→le (length sheet) most_sheet_bytes h.7) h.3 in
    changes_hold sheet bytes text a h.0 h.2 h.1.sheet (h.1, read, refl) h.4 h.5 (leb→le (length text) most_text_bytes h.8)
holds (runs image text a) h =
    (h.0, (demand_1.running image text (tested_bytes image h.1) (stack_for text) _).0 refl)
holds (tables image rows winners) h = (h.0, read_readable image (tested_bytes image h.4) h.0 (length image) h.1, h.2, h.3)
holds (runs_table image text table winners entries a) h =
    (h.0, (demand_1.running image text (tested_bytes image h.1) (buffers table winners entries) _).0 refl)
holds (recognises sheet text list a after) h =
    (h.0, (recognises_iff sheet text work_bytes (length list) (tested_bytes sheet h.3) a h.0).0 h.1, h.2)
holds (denotes_only sheet only) h =
    let read = read_accepted sheet (tested_bytes sheet h.2) (leb→le (length sheet) most_sheet_bytes h.3) h.1 in
    (h.0.sheet, (h.0, read, refl), h.4)
holds (denotes_nothing sheet) h =
    let read = read_accepted sheet (tested_bytes sheet h.2) (leb→le (length sheet) most_sheet_bytes h.3) h.1 in
    (h.0.sheet, (h.0, read, refl), h.4)

all_hold : (cs : List Case) → All Computes cs → All Holds cs
all_hold [] h = tt
all_hold (c ∷ cs) h = (holds c h.0, all_hold cs h.1)

-- ---- what is computed

-- μα.N·α as it is read.
abbrev endless_contents : Contents
endless_contents = record {
  sheet = record { tokens = 2; rules = sheet_D.rules; expression = fixed_point (sequence (token 0) (variable 0)) };
  action_places = 3 ∷ 12 ∷ 16 ∷ [];
  node_places = 20 ∷ 21 ∷ 22 ∷ 24 ∷ [];
}

-- No iterate of μα.N·α has a word: its right part is the iterate before.
endless-iterate : (i : ℕ) (w : List ℕ) → iterate (λ L. denotation (sequence (token 0) (variable 0)) (L ∷ [])) i w → ⊥
endless-iterate zero w h = h
endless-iterate (suc i) w h = endless-iterate i h.1 h.4

all_computed : All Computes cases
unfolding cases written_sheet computing_machine
all_computed =
    D_written
    & (image_D, D_written, refl, tt, tt)
    & (image_D, D_written, refl, tt, tt)
    & (image_D, D_written, refl, tt, tt)
    & (image_D, D_written, refl, tt, tt)
    & (image_D, D_written, refl, tt, tt)
    & refl
    & refl
    & refl
    & refl
    & refl
    & (endless_contents, refl, tt, tt, (λ w h. endless-iterate h.0 w h.1))
    & refl
    & refl
    & tt

repetition_computed : All Computes repetition_cases
unfolding repetition_cases written_sheet computing_machine
repetition_computed =
    refl
    & (image_of_counts, refl, refl, tt, tt)
    & (image_of_counts, refl, refl, tt, tt)
    & (image_of_counts, refl, refl, tt, tt)
    & refl
    & (image_of_numbers, refl, refl, tt, tt)
    & (image_of_numbers, refl, refl, tt, tt)
    & refl
    & refl
    & refl
    & refl
    & refl
    & refl
    & refl
    & refl
    & refl
    & refl
    & tt

check_computed : All Computes check_cases
unfolding check_cases computing_machine
check_computed =
    refl & refl & refl & refl & refl & refl & refl & refl & refl & refl & refl & refl & refl & refl & tt

padding_computed : All Computes padding_cases
unfolding padding_cases written_sheet computing_machine
padding_computed =
    refl
    & (refl, tt)
    & (refl, tt)
    & refl
    & (image_D, refl, refl, tt, tt)
    & refl
    & refl
    & refl
    & refl
    & refl
    & refl
    & refl
    & refl
    & refl
    & refl
    & refl
    & refl
    & tt

-- A name above `if`, as it is read.
abbrev word_below_contents : Contents
word_below_contents = record {
  sheet = record {
    tokens = 2;
    rules = record { action = 1; regex = concat (class 97 122) (star (class 97 122)) }
        ∷ record { action = 2; regex = concat (class 105 105) (class 102 102) }
        ∷ [];
    expression = token 1;
  };
  action_places = 3 ∷ 12 ∷ [];
  node_places = 20 ∷ [];
}

word_computed : All Computes word_cases
unfolding word_cases written_sheet computing_machine
word_computed =
    refl
    & (image_word_below, refl, refl, tt, tt)
    & (image_word_below, word_below_contents, refl, refl, refl, tt, tt, tt, tt)
    & (image_word_below, refl, refl, tt, tt)
    & (image_name_above, refl, refl, tt, tt)
    & (image_name_above, refl, refl, tt, tt)
    & (image_first_if, refl, refl, tt, tt)
    & (image_second_if, refl, refl, tt, tt)
    & refl
    & (image_skipped_if, refl, refl, tt, tt)
    & (image_skipped_if, refl, refl, tt, tt)
    & refl
    & (image_equal_words, refl, refl, tt, tt)
    & refl
    & (image_wide_class, refl, refl, tt, tt)
    & refl
    & (image_empty_then_a, refl, refl, tt, tt)
    & refl
    & refl
    & tt

table_computed : All Computes table_cases
unfolding table_cases computing_machine
table_computed =
    (_, refl, refl, refl, tt)
    & (_, refl, refl, refl, tt)
    & (_, refl, refl, refl, tt)
    & (_, refl, refl, refl, tt)
    & (_, refl, refl, refl, tt)
    & (refl, tt)
    & (refl, tt)
    & (refl, tt)
    & (refl, tt)
    & (refl, tt)
    & (refl, tt)
    & (refl, tt)
    & (refl, tt)
    & (refl, tt)
    & (refl, tt)
    & (refl, tt)
    & (refl, tt)
    & tt

recogniser_computed : All Computes recogniser_cases
unfolding recogniser_cases written_over computing_recogniser
recogniser_computed =
    (_, refl, refl, tt)
    & (_, refl, refl, tt)
    & (_, refl, refl, tt)
    & (_, refl, refl, tt)
    & (_, refl, refl, tt)
    & (_, refl, refl, tt)
    & (_, refl, refl, tt)
    & (_, refl, refl, tt)
    & (_, refl, refl, tt)
    & (_, refl, refl, tt)
    & (_, refl, refl, tt)
    & (_, refl, refl, tt)
    & tt

-- N·⊥ ∨ N and N·⊥ ∨ N·⊥ as they are read.
abbrev unfinished_contents : Contents
unfinished_contents = record {
  sheet = record { tokens = 2; rules = sheet_D.rules; expression = alternative (sequence (token 0) bottom) (token 0) };
  action_places = 3 ∷ 12 ∷ 16 ∷ [];
  node_places = 20 ∷ 21 ∷ 22 ∷ 24 ∷ 25 ∷ [];
}

abbrev twice_contents : Contents
twice_contents = record {
  sheet = record { tokens = 2; rules = sheet_D.rules; expression = alternative (sequence (token 0) bottom) (sequence (token 0) bottom) };
  action_places = 3 ∷ 12 ∷ 16 ∷ [];
  node_places = 20 ∷ 21 ∷ 22 ∷ 24 ∷ 25 ∷ 26 ∷ 28 ∷ [];
}

unfinished_computed : All Computes unfinished_cases
unfolding unfinished_cases written_sheet written_over computing_machine computing_recogniser
unfinished_computed =
    refl
    & refl
    & refl
    & (unfinished_contents, refl, tt, tt, unfinished_denotes 0)
    & (image_of_N, refl, refl, tt, tt)
    & (image_of_N, refl, refl, tt, tt)
    & (image_of_N, refl, refl, tt, tt)
    & (_, refl, refl, tt)
    & refl
    & refl
    & (twice_contents, refl, tt, tt, (λ w h. ⊎_elim (λ x. x.4) (λ x. x.4) h))
    & refl
    & refl
    & refl
    & refl
    & refl
    & refl
    & refl
    & refl
    & refl
    & tt

-- Every row holds.
pub cases_hold : All Holds cases
cases_hold = all_hold cases all_computed

pub repetition_cases_hold : All Holds repetition_cases
repetition_cases_hold = all_hold repetition_cases repetition_computed

pub check_cases_hold : All Holds check_cases
check_cases_hold = all_hold check_cases check_computed

pub padding_cases_hold : All Holds padding_cases
padding_cases_hold = all_hold padding_cases padding_computed

pub word_cases_hold : All Holds word_cases
word_cases_hold = all_hold word_cases word_computed

pub table_cases_hold : All Holds table_cases
table_cases_hold = all_hold table_cases table_computed

pub recogniser_cases_hold : All Holds recogniser_cases
recogniser_cases_hold = all_hold recogniser_cases recogniser_computed

pub unfinished_cases_hold : All Holds unfinished_cases
unfinished_cases_hold = all_hold unfinished_cases unfinished_computed

-- ---- sheet D and a twin

-- D's numbers are its bytes; they are read from D with every number in ten bytes, too.
D_numbers : (reads_as bytes_of_D bytes_of_D 0 ≡ true) × (reads_as (in_ten bytes_of_D) bytes_of_D 0 ≡ true)
unfolding computing_machine
D_numbers = (refl, refl)

-- So that is D's twin.
pub D_twins : Twins bytes_of_D (in_ten bytes_of_D)
D_twins =
    numbers_twins (read_as bytes_of_D (tested_bytes bytes_of_D tt) bytes_of_D 0 D_numbers.0)
    (read_as (in_ten bytes_of_D) (tested_bytes (in_ten bytes_of_D) tt) bytes_of_D 0 D_numbers.1)
