-- Checking's answer is the one that the page's terms fix (Checks): `check` answers so, whatever is handed over, and there is no other
-- answer. Writing is not spoken of here.
use Rattle.std.specs.Prelude.{◌≡◌, Bool, cond, List, ◌↔◌, ℕ, ◌≤◌, length}
use Rattle.std.proofs.Math.Path.{refl, sym, ap, subst}
use Rattle.std.proofs.Common.{◌∙◌, arith}
use Rattle.std.proofs.Math.Bool.{true, false}
use Rattle.std.proofs.Math.Option.{Option, none, some}
use Rattle.std.proofs.Math.Logic.{inl, inr}
use Rattle.std.proofs.Math.Dec.{ltb}
use borrow.Author.Tests.{ltb-true, ltb-false, lt-ltb, le-ltb}
use Rattle.sheet.specs.Limits.{most_sheet_bytes}
use Rattle.sheet.specs.Sheet.{Sheet}
use Rattle.sheet.specs.WellFormed.{WithinLimits}
use Rattle.sheet.specs.SheetFormat.{SpellsContents}
use Rattle.sheet.specs.Field.{Reading, stop, got}
use Rattle.sheet.specs.Reading.{Contents, read_sheet}
use Rattle.sheet.specs.Spelling.{Bytes}
use Rattle.sheet.proofs.laws.ReadingLaws.{spelled_read, contents_limits, spelled_limits, sheet_read_iff, read_accepted}
use Rattle.types.specs.Questions.{Fault, type_fault}
use Rattle.types.specs.TypeFaults.{TypeFault}
use Rattle.types.proofs.laws.TypeFaultLaws.{type_fault_is}
use Rattle.types.proofs.laws.Typing.{sheet_typed_iff}
use Rattle.lexer.proofs.laws.EmptyWord.{none_empty, first_empty_iff}
use Rattle.lexer.specs.Positions.{empty_match}
use Rattle.lexer.specs.Words.{NoEmptyRule}
use Rattle.image.specs.Answer.{Answer, answer}
use Rattle.image.specs.Check.{work_bytes, Verdict, failed, passed, after_types, after_rules, after_reading, after_work, check, check_answer}
use Rattle.image.proofs.laws.CheckNumbers.{OneToTen, check_cases}
use Rattle.image.specs.Checks.{Passable, Checks, short_work, long_sheet, not_a_sheet, empty_rule, untyped, passes}

-- Questions 8 to 10, by what is computed.
fault_is : (s : Sheet) → WithinLimits s → (f : Fault) → (type_fault s.expression ≡ some f) ↔ TypeFault s.expression f.node f.number
fault_is s l = type_fault_is s.tokens l.tokens_most s.expression l.closed

module _ (bytes : List ℕ) (work : ℕ) where
  module _ (c : Contents) (w : work_bytes ≤ work) (h : SpellsContents bytes c) where
    type_question : empty_match c.sheet.rules 0 ≡ none → (o : Option Fault) → type_fault c.sheet.expression ≡ o
        → Checks bytes work (check_answer (after_types c o))
    unfolding after_types check_answer
    type_question m none e =
        passes c.sheet w (record {
          well_formed = (c, h, refl);
          no_empty_text = (none_empty c.sheet.rules).0 m;
          has_type = (sheet_typed_iff c.sheet (contents_limits bytes c h)).0 e;
        })
    type_question m (some f) e =
        untyped c f.node f.number w h ((none_empty c.sheet.rules).0 m) ((fault_is c.sheet (contents_limits bytes c h) f).0 e)

    rule_question : (o : Option ℕ) → empty_match c.sheet.rules 0 ≡ o → Checks bytes work (check_answer (after_rules c o))
    unfolding after_rules check_answer
    rule_question none e = type_question e (type_fault c.sheet.expression) refl
    rule_question (some k) e = empty_rule c k w h ((first_empty_iff c.sheet.rules k).0 e)

  reading_questions : Bytes bytes → work_bytes ≤ work → length bytes ≤ most_sheet_bytes → (r : Reading Contents) → read_sheet bytes ≡ r
      → Checks bytes work (check_answer (after_reading r))
  unfolding after_reading check_answer
  reading_questions b w l (stop question place) e = not_a_sheet question place w l ((sheet_read_iff bytes b (stop question place)).0 e)
  reading_questions b w l (got c end) e = rule_question c w (read_accepted bytes b l e) (empty_match c.sheet.rules 0) refl

  -- What checking answers.
  pub check_answers : Bytes bytes → Checks bytes work (check_answer (check bytes work))
  unfolding check after_work check_answer
  check_answers b = first (ltb work work_bytes) refl
    where
      second : work_bytes ≤ work → (c : Bool) → ltb most_sheet_bytes (length bytes) ≡ c
          → Checks bytes work (check_answer (cond c (failed 2 0) (after_reading (read_sheet bytes))))
      second w true e = long_sheet w (ltb-true most_sheet_bytes (length bytes) e)
      second w false e = reading_questions b w (ltb-false most_sheet_bytes (length bytes) e) (read_sheet bytes) refl

      first : (c : Bool) → ltb work work_bytes ≡ c
          → Checks bytes work (check_answer (cond c (failed 1 0) (cond (ltb most_sheet_bytes (length bytes)) (failed 2 0)
          (after_reading (read_sheet bytes)))))
      first true e = short_work (ltb-true work work_bytes e)
      first false e = second (ltb-false work work_bytes e) (ltb most_sheet_bytes (length bytes)) refl

-- ---- there is no other answer

module _ (bytes : List ℕ) (work : ℕ) (w : work_bytes ≤ work) where
  after_questions : length bytes ≤ most_sheet_bytes → check bytes work ≡ after_reading (read_sheet bytes)
  unfolding check after_work
  after_questions l = rw (le-ltb work work_bytes w, le-ltb most_sheet_bytes (length bytes) l)

  -- Checking a sheet that the bytes spell, from question 7 on.
  from_rules : (c : Contents) → SpellsContents bytes c → check bytes work ≡ after_rules c (empty_match c.sheet.rules 0)
  unfolding after_reading
  from_rules c h = after_questions h.bytes_most ∙ ap after_reading (spelled_read bytes c h)

  -- From questions 8 to 10 on.
  from_types : (c : Contents) → SpellsContents bytes c → NoEmptyRule c.sheet.rules
      → check bytes work ≡ after_types c (type_fault c.sheet.expression)
  unfolding after_rules
  from_types c h m = from_rules c h ∙ rw ((none_empty c.sheet.rules).1 m)

  -- A sheet that demand 2 lets pass passes.
  pub passable_passes : (s : Sheet) → Passable bytes s → check bytes work ≡ passed s
  unfolding after_types
  passable_passes s a =
      let w = a.well_formed in
      let m = subst (λ (t : Sheet). NoEmptyRule t.rules) (sym w.2) a.no_empty_text in
      from_types w.0 w.1 m ∙ ap (λ (t : Sheet). after_types w.0 (type_fault t.expression)) w.2
      ∙ rw ((sheet_typed_iff s (spelled_limits bytes s w)).1 a.has_type) (ap passed w.2)

-- Whatever checking answers in the page's terms is what `check` answers.
pub checks_only : {bytes : List ℕ} → Bytes bytes → {work : ℕ} {a : Answer} → Checks bytes work a → check_answer (check bytes work) ≡ a
unfolding check after_work after_reading after_rules after_types check_answer
checks_only b {work} (short_work h) = rw (lt-ltb work work_bytes h)
checks_only {bytes} b {work} (long_sheet w h) = rw (le-ltb work work_bytes w, lt-ltb most_sheet_bytes (length bytes) h)
checks_only {bytes} b {work} (not_a_sheet question place w l h) =
    ap check_answer (after_questions bytes work w l ∙ ap after_reading ((sheet_read_iff bytes b (stop question place)).1 h))
checks_only {bytes} b {work} (empty_rule c k w h x) =
    ap check_answer (from_rules bytes work w c h ∙ ap (after_rules c) ((first_empty_iff c.sheet.rules k).1 x))
checks_only {bytes} b {work} (untyped c node question w h m x) =
    ap check_answer (from_types bytes work w c h m
    ∙ ap (after_types c) ((fault_is c.sheet (contents_limits bytes c h) (record { number = question; node = node })).1 x))
checks_only {bytes} b {work} (passes s w a) = ap check_answer (passable_passes bytes work w s a)

-- An answer's case.
pub failed_by : (v : Verdict) (question place : ℕ) → 1 ≤ question → check_answer v ≡ answer question place 0 → v ≡ failed question place
unfolding check_answer
failed_by (failed q p) question place n e =
    let same_question : q ≡ question = ap (λ (a : Answer). a.number) e in
    let same_place : p ≡ place = ap (λ (a : Answer). a.place) e in
    rw (same_question, same_place)
failed_by (passed s) question place n e = let z : 0 ≡ question = ap (λ (a : Answer). a.number) e in absurd (omega (arith, z, n))

-- ---- what passing says

not_passed : {X : Type 0} {question place : ℕ} {s : Sheet} → failed question place ≡ passed s → X
not_passed e = let z : ◌≡◌ {A = ℕ} 0 1 = cc in absurd (omega arith)

module _ (bytes : List ℕ) (b : Bytes bytes) (work : ℕ) where
  cases : (v : Verdict) → check bytes work ≡ v → Checks bytes work (check_answer v)
  cases v e = subst (λ (x : Verdict). Checks bytes work (check_answer x)) e (check_answers bytes work b)

  -- No other sheet passes.
  pub passed_passable : (s : Sheet) → check bytes work ≡ passed s → (work_bytes ≤ work) × Passable bytes s
  unfolding check_answer
  passed_passable s e = elim (check_cases (cases (passed s) e)) [
    | inl h ↦
        let same : h.2.0 ≡ s = let z = sym (passable_passes bytes work h.1 h.2.0 h.2.1) ∙ e in cc in
        (h.1, subst (Passable bytes) same h.2.1)
    | inr h ↦ absurd (omega (arith, h.0))
  ]

  -- A question that fails has a number from 1 to 10.
  pub failed_numbered : (question place : ℕ) → check bytes work ≡ failed question place → OneToTen question
  unfolding check_answer
  failed_numbered question place e = elim (check_cases (cases (failed question place) e)) [
    | inl h ↦ not_passed (sym e ∙ passable_passes bytes work h.1 h.2.0 h.2.1)
    | inr h ↦ h
  ]
