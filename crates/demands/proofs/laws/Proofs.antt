-- The demands hold of the functions that the code's contracts cite: their parts put together.
use Rattle.std.specs.Prelude.{◌≡◌, refl, List, [], ◌∷◌, ◌↔◌, ℕ, ◌≤◌, length, drop, replicate}
use Rattle.std.proofs.Common.{sym, ap, subst, ◌∙◌, arith, length-append, length-drop}
use Rattle.std.proofs.Math.Option.{none}
use Rattle.std.proofs.lemmas.List.{length-replicate}
use Rattle.sheet.specs.Sheet.{Sheet}
use Rattle.sheet.specs.WellFormed.{WithinLimits}
use Rattle.sheet.specs.SheetFormat.{Spells}
use Rattle.sheet.specs.Spelling.{Bytes}
use Rattle.sheet.proofs.laws.ReadingLaws.{spelled_once, spelled_limits}
use Rattle.lexer.specs.RuleOrder.{image_sheet}
use Rattle.lexer.proofs.laws.OrderedMatches.{ordered_empty_match, ordered_limits}
use Rattle.lexer.specs.Positions.{empty_match}
use Rattle.lexer.proofs.laws.EmptyWord.{none_empty}
use Rattle.image.specs.Image.{Image, image_of, image_bytes}
use Rattle.image.specs.ImageFormat.{ReadableAs}
use Rattle.image.proofs.laws.ReadableImages.{readable_one, image_are_bytes}
use Rattle.image.specs.Unfolding.{DenotedRules}
use Rattle.image.proofs.laws.ImageLaws.{image_denotes}
use Rattle.image.specs.Check.{work_bytes, work_after, Checked, checked}
use Rattle.image.specs.Checks.{Checks}
use Rattle.image.proofs.laws.CheckQuestions.{check_answers, checks_only}
use Rattle.image.specs.Write.{Written, refused, too_long, written, write, written_part, image_after, Wrote, wrote}
use Rattle.image.specs.Writes.{Acceptable, Writes}
use Rattle.image.proofs.laws.WriteLaws.{written_passed}
use Rattle.image.proofs.laws.WriteQuestions.{passable_readable, write_answers, writes_only, written_iff, acceptable_written, written_acceptable}
use Rattle.image.proofs.laws.BufferLaws.{image_buffer}
use Rattle.machine.specs.Trace.{answer_of}
use Rattle.machine.specs.Lent.{most_text_bytes, long_enough, Lent, stack_alone, Ran, turned_away, finished}
use Rattle.machine.specs.Runs.{Short, ManyRows, Runs, short, long_text, unreadable, many_rows, no_entry, started}
use Rattle.machine.specs.Run.{run}
use Rattle.machine.proofs.laws.RunsLaws.{run_runs, runs_iff}
use Rattle.machine.specs.OwnAnswer.{OwnAnswer}
use Rattle.machine.proofs.laws.OrderedAnswers.{ordered_answer}
use Rattle.machine.proofs.laws.OwnAnswerLaws.{own-answer_one}
use Rattle.machine.proofs.laws.RunAnswers.{Faithful, runs_own-answer}
use Rattle.machine.proofs.laws.FaithfulImage.{StandsFor, start_stands, image_faithful}
use Rattle.recogniser.specs.Recognises.{Recognises, Recognised}
use Rattle.recogniser.specs.Recognise.{recognised_with, recognised}
use Rattle.recogniser.proofs.laws.RecognisesLaws.{recognises_iff}
use Rattle.demands.specs.Demands.{Functions, Accepts, Demand1, Demand2, Demand3}
use Rattle.normal_form.specs.Unfolds.{Unfolds}
use Rattle.basics.specs.Lists.{written_over}

-- The functions that the code's contracts cite.
abbrev pub cited : Functions
cited = record { check = checked; write = wrote; run = run; recognise = recognised }

-- An answer that is fixed: what is given is so, and whatever is so is what is given.
fixed : {A : Type 0} {P : A → Type 0} (a : A) → P a → ((r : A) → P r → a ≡ r) → (r : A) → (a ≡ r) ↔ P r
fixed {A} {P} a p only r = ((λ e. subst P e p), only r)

-- ---- demand 1

checking : (sheet work : List ℕ) → Bytes sheet → (r : Checked)
    → (checked sheet work ≡ r) ↔ (Checks sheet (length work) r.answer × (r.work ≡ work_after work))
checking sheet work bytes =
    fixed (checked sheet work) (check_answers sheet (length work) bytes, refl)
    (λ r h. let e = checks_only bytes h.0 in rw (e, sym h.1))

writing : (sheet work buffer : List ℕ) → Bytes sheet → (r : Wrote)
    → (wrote sheet work buffer ≡ r)
    ↔ (Writes sheet (length work) (length buffer) r.answer r.part
    × (r.image ≡ written_over r.part buffer) × (r.work ≡ work_after work))
writing sheet work buffer bytes =
    let w = write sheet (length work) (length buffer) in
    fixed (wrote sheet work buffer)
    (write_answers sheet (length work) (length buffer) bytes, image_buffer w buffer, refl)
    (λ r h. let e = writes_only sheet bytes (length work) (length buffer) h.0 in
    let i = image_buffer w buffer ∙ (ap (λ (part : List ℕ). written_over part buffer) e.1 ∙ sym h.1) in
    rw (e.0, e.1, i, sym h.2))

recognising : (sheet text work list : List ℕ) → Bytes sheet → (r : Recognised)
    → (recognised sheet text work list ≡ r)
    ↔ (Recognises sheet text (length work) (length list) r.answer r.tokens
    × (r.list ≡ written_over r.tokens list) × (r.work ≡ work_after work))
recognising sheet text work list bytes =
    let iff = recognises_iff sheet text (length work) (length list) bytes in
    fixed (recognised sheet text work list) ((iff _ _).0 refl, refl, refl)
    (λ r h. let e = (iff r.answer r.tokens).1 h.0 in
    ap (recognised_with work list) e ∙ rw (sym h.1, sym h.2))

pub demand_1 : Demand1 cited
demand_1 = record {
  checking = checking;
  writing = writing;
  running = λ image text bytes lent. runs_iff image text lent bytes;
  recognising = recognising;
}

-- An image buffer keeps its length.
pub image-kept : (sheet : List ℕ) (work : ℕ) (buffer : List ℕ) → length (image_after (write sheet work (length buffer)) buffer) ≡ length buffer
unfolding image_after
image-kept sheet work buffer = go (write sheet work (length buffer)) refl
  where
    go : (c : Written) → write sheet work (length buffer) ≡ c → length (image_after c buffer) ≡ length buffer
    go (refused question place) e = refl
    go (too_long needed) e = refl
    go (written image) e =
        let fits = (written_passed sheet work (length buffer) image e).3 in
        omega (arith, length-append image (drop (length image) buffer), length-drop (length image) buffer)

-- ---- demand 2

-- Accepted is written.
abbrev Accepted : List ℕ → List ℕ → List ℕ → Type 0
Accepted sheet work buffer = Accepts cited sheet work buffer

pub accepted_written : (sheet work buffer : List ℕ) → Bytes sheet → Accepted sheet work buffer
    → write sheet (length work) (length buffer) ≡ written (wrote sheet work buffer).part
accepted_written sheet work buffer bytes h = (written_iff sheet bytes (length work) (length buffer)).0 h

accepted_exactly : (sheet work buffer : List ℕ) → Bytes sheet → work_bytes ≤ length work
    → Accepted sheet work buffer ↔ ((s : Sheet) × Acceptable sheet (length buffer) s)
unfolding written_part
accepted_exactly sheet work buffer bytes w = (
  (λ h. let a = written_acceptable sheet bytes (length work) (length buffer) _ (accepted_written sheet work buffer bytes h) in (a.1.0, a.1.1)),
  λ a. let e = acceptable_written sheet (length work) (length buffer) a.0 w a.1 in
      (written_iff sheet bytes (length work) (length buffer)).1 (e ∙ ap written (sym (ap written_part e))),
)

-- The same by the way in which writing ends.
pub written_exactly : (sheet : List ℕ) → Bytes sheet → (work room : ℕ) → work_bytes ≤ work
    → ((image : List ℕ) × (write sheet work room ≡ written image)) ↔ ((s : Sheet) × Acceptable sheet room s)
written_exactly sheet bytes work room w = (
  (λ h. let a = written_acceptable sheet bytes work room h.0 h.1 in (a.1.0, a.1.1)),
  λ a. (image_bytes (image_of a.0), acceptable_written sheet work room a.0 w a.1),
)

-- The sheet that was accepted is the sheet that the bytes spell.
pub accepted_sheet : (sheet : List ℕ) → Bytes sheet → (work room : ℕ) (image : List ℕ) → write sheet work room ≡ written image
    → (s : Sheet) → Spells sheet s → Acceptable sheet room s × (image ≡ image_bytes (image_of s))
accepted_sheet sheet bytes work room image e s spells =
    let a = written_acceptable sheet bytes work room image e in
    let same : a.1.0 ≡ s = spelled_once sheet a.1.0 s a.1.1.passable.well_formed spells in
    (subst (Acceptable sheet room) same a.1.1, subst (λ t. image ≡ image_bytes (image_of t)) same a.1.2)

no_empty : (s : Sheet) (sheet : List ℕ) (room : ℕ) → Acceptable sheet room s → empty_match s.rules 0 ≡ none
no_empty s sheet room a = (none_empty s.rules).1 a.passable.no_empty_text

pub accepted_normal_form : (sheet : List ℕ) → Bytes sheet → (work room : ℕ) (image : List ℕ) → write sheet work room ≡ written image
    → (s : Sheet) → Spells sheet s → ReadableAs image (image_of s)
accepted_normal_form sheet bytes work room image e s spells =
    let a = accepted_sheet sheet bytes work room image e s spells in
    subst (λ (l : List ℕ). ReadableAs l (image_of s)) (sym a.1) (passable_readable a.0.passable)

pub unfolds_exactly : (sheet : List ℕ) → Bytes sheet → (work room : ℕ) (image : List ℕ) → write sheet work room ≡ written image
    → (s : Sheet) → Spells sheet s → (rules : List ℕ) → Unfolds (image_of s).rows (0 ∷ []) rules ↔ DenotedRules s rules
unfolds_exactly sheet bytes work room image e s spells =
    let a = accepted_sheet sheet bytes work room image e s spells in
    image_denotes s (spelled_limits sheet s spells).closed a.0.passable.has_type.1

pub demand_2 : Demand2 cited
demand_2 = record {
  accepted_exactly = accepted_exactly;
  normal_form = λ sheet work buffer bytes h.
      accepted_normal_form sheet bytes (length work) (length buffer) _ (accepted_written sheet work buffer bytes h);
  unfolds_exactly = λ sheet work buffer bytes h.
      unfolds_exactly sheet bytes (length work) (length buffer) _ (accepted_written sheet work buffer bytes h);
}

-- ---- demand 3

runs_own : (sheet : List ℕ) → Bytes sheet → (work room : ℕ) (image : List ℕ) → write sheet work room ≡ written image
    → (s : Sheet) → Spells sheet s
    → (text : List ℕ) (lent : Lent) → length text ≤ most_text_bytes → long_enough text ≤ length lent.stack
    → (Short lent.scanner → ⊥) → (ManyRows lent.scanner (image_of s) → ⊥) → {r : Ran} → Runs image text lent r → OwnAnswer s text r.answer
unfolding image_of image_sheet turned_away finished answer_of
runs_own sheet bytes work room image e s spells text lent within long not_short few runs = by_question runs
  where
    acceptable : Acceptable sheet room s
    acceptable = (accepted_sheet sheet bytes work room image e s spells).0

    -- The image is that of the sheet with its rules in the image's order.
    limits : WithinLimits (image_sheet s)
    limits = ordered_limits s (spelled_limits sheet s spells)

    readable : ReadableAs image (image_of s)
    readable = accepted_normal_form sheet bytes work room image e s spells

    by_question : {q : Ran} → Runs image text lent q → OwnAnswer s text q.answer
    by_question (short h) = absurd (not_short h)
    by_question (long_text h l) = absurd (omega arith)
    by_question (unreadable p h l u o) = absurd (u (image_of s, readable))
    by_question (many_rows i h l x k) = absurd (few (subst (ManyRows lent.scanner) (readable_one image i (image_of s) x readable) k))
    by_question (no_entry i x z) = absurd (omega (arith, z, long))
    by_question (started i end x z t) =
        let typed = acceptable.passable.has_type.1 in
        let same = readable_one image (image_of s) i readable x.readable in
        let ordered = image_sheet s in
        let stands = StandsFor ordered limits typed in
        let faithful = image_faithful ordered limits typed (ordered_empty_match s.rules (no_empty s sheet room acceptable)) in
        ordered_answer s text
        (runs_own-answer ordered text i (length lent.stack) stands (subst (λ (j : Image). Faithful ordered j stands) same faithful) long
        (start_stands ordered limits typed) t)

pub written_bytes : (sheet : List ℕ) → Bytes sheet → (work room : ℕ) (image : List ℕ) → write sheet work room ≡ written image → Bytes image
written_bytes sheet bytes work room image e =
    let a = written_acceptable sheet bytes work room image e in subst Bytes (sym a.1.2) (image_are_bytes (image_of a.1.0))

pub run-own-answer : (sheet : List ℕ) → Bytes sheet → (work room : ℕ) (image : List ℕ) → write sheet work room ≡ written image
    → (s : Sheet) → Spells sheet s
    → (text : List ℕ) (lent : Lent) → length text ≤ most_text_bytes → long_enough text ≤ length lent.stack
    → (Short lent.scanner → ⊥) → (ManyRows lent.scanner (image_of s) → ⊥) → OwnAnswer s text (run image text lent).answer
run-own-answer sheet bytes work room image e s spells text lent within long not_short few =
    runs_own sheet bytes work room image e s spells text lent within long not_short few
    (run_runs image text lent (written_bytes sheet bytes work room image e))

pub demand_3 : Demand3 cited
demand_3 = record {
  own_answer = λ sheet work buffer bytes h s spells text lent within long not_short few.
      let image = (wrote sheet work buffer).part in
      let e = accepted_written sheet work buffer bytes h in
      let own = run-own-answer sheet bytes (length work) (length buffer) image e s spells text lent within long not_short few in
      fixed (run image text lent).answer own (λ a o. own-answer_one s text own o);
}

-- Demand 3 on a stack alone, which meets neither 18 nor 19.
module _ (sheet : List ℕ) (bytes : Bytes sheet) (work room : ℕ) (image : List ℕ) (accepted : write sheet work room ≡ written image)
    (s : Sheet) (spells : Spells sheet s) (text : List ℕ) (within : length text ≤ most_text_bytes) where
  pub own-answer_without : (stack : List ℕ) → long_enough text ≤ length stack → OwnAnswer s text (run image text (stack_alone stack)).answer
  own-answer_without stack long =
      run-own-answer sheet bytes work room image accepted s spells text (stack_alone stack) within long (λ x. x) (λ x. x)

  -- On a stack that is just long enough.
  pub own-answer_alone : OwnAnswer s text (run image text (stack_alone (replicate (long_enough text) 0))).answer
  own-answer_alone = own-answer_without (replicate (long_enough text) 0) (omega (arith, length-replicate {A = ℕ} (long_enough text) 0))
