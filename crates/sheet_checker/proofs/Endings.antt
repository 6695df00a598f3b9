-- One law for each way in which checking ends, from the last question back to the first. The questions themselves are decided
-- elsewhere.
use mathlib.Core.Path.{◌≡◌, refl, sym, ap, ◌∙◌}
use mathlib.Core.List.{List}
use mathlib.Core.Option.{none, some}
use Prim.Native.Nat.{ℕ, ◌≤◌, ◌<◌}
use native.Mathlib.Omega.{arith}
use Rattle.std.specs.Prelude.{Option, Some, None, Result, Ok, Err}
use lib.ListN.{length, get_or, take, length-map}
use lib.Seq.{get_or-take}
use borrow.Author.Tests.{lt-ltb, le-ltb}
use Rattle.buffers.specs.Cleared.{cleared}
use Rattle.buffers.proofs.laws.ClearedLaws.{cleared-front}
use Rattle.sheet.specs.Limits.{most_sheet_bytes}
use Rattle.sheet.specs.Field.{got}
use Rattle.sheet.specs.Spelling.{Bytes}
use Rattle.sheet.specs.Reading.{Contents, read_sheet}
use Rattle.sheet.proofs.laws.ReadingLaws.{contents_limits, read_accepted}
use Rattle.columns.specs.declared.RuleColumns.{RuleColumns}
use Rattle.columns.specs.declared.NodeColumns.{NodeColumns}
use Rattle.sheet_reader.specs.Reads.{refused, Reads}
use Rattle.sheet_reader.proofs.laws.ReadsLaws.{outcome_done, outcome_refused}
use Rattle.sheet_reader.specs.declared.SheetColumns.{SheetColumns}
use Rattle.sheet_reader.specs.declared.Refusal.{Refusal}
use Rattle.types.specs.Questions.{type_fault}
use Rattle.types.proofs.laws.QuestionLaws.{type_fault-first}
use Rattle.columns.specs.Linked.{SheetExpression}
use Rattle.type_checker.specs.Checking.{CheckedOf}
use Rattle.type_checker.specs.Found.{fault_of}
use Rattle.type_checker.specs.declared.Checked.{Checked}
use Rattle.type_checker.specs.declared.Fault.{Fault}
use Rattle.normal_form.proofs.laws.Places.{nodes-count}
use Rattle.lexer.specs.Positions.{empty_match}
use Rattle.position_finder.specs.Answer.{empty_rule}
use Rattle.position_finder.proofs.laws.Laws.{found_below, nothing_found}
use Rattle.image.specs.Check.{work_bytes, after_types, after_rules, after_reading, after_work, check, work_after}
use Rattle.sheet_checker.specs.Answer.{Ends}
use Rattle.sheet_checker.specs.Steps.{SheetOf}
use Rattle.sheet_checker.specs.declared.CheckedSheet.{CheckedSheet}

-- ---- questions 7 to 10

-- An entry of a column of places.
place_held : (column : List ℕ) {places : List ℕ} (count i : ℕ) → take count column ≡ places → i < count → get_or column i 0 ≡ get_or places i 0
place_held column count i e h = sym (get_or-take count column i 0 h) ∙ ap (λ (l : List ℕ). get_or l i 0) e

module _ (c : Contents) (rules : RuleColumns) (columns : NodeColumns) (s : SheetOf c rules columns) where
  pub sheet_expression : SheetExpression columns
  sheet_expression = record {
    expression = c.sheet.expression;
    tokens = c.sheet.tokens;
    places = c.node_places;
    held = s.nodes_held;
    closed = s.limits.closed;
    tokens_most = s.limits.tokens_most;
  }

  module _ (k : Checked) (h : CheckedOf columns k) where
    fault_here : {f : Fault} → k.fault ≡ Some f → type_fault c.sheet.expression ≡ some (record { number = f.question; node = f.node })
    unfolding fault_of
    fault_here e = sym (h.fault_found c.sheet.expression c.node_places s.nodes_held) ∙ ap fault_of e

    no_fault : k.fault ≡ None → type_fault c.sheet.expression ≡ none
    unfolding fault_of
    no_fault e = sym (h.fault_found c.sheet.expression c.node_places s.nodes_held) ∙ ap fault_of e

    fault_inside : {f : Fault} → k.fault ≡ Some f → f.node < columns.count
    fault_inside {f} e =
        omega (
          arith,
          (type_fault-first c.sheet.expression (record { number = f.question; node = f.node }) (fault_here e)).among,
          nodes-count c.sheet.expression,
          h.links_held.as_many,
          h.links_held.counted c.sheet.expression c.node_places s.nodes_held,
        )

    pub fault_entry : {f : Fault} → k.fault ≡ Some f → f.node < 64
    fault_entry e = omega (arith, fault_inside e, s.nodes_held.nodes_fit)

    pub ends_untyped : {f : Fault} → k.fault ≡ Some f
        → Ends (after_types c (type_fault c.sheet.expression)) (refused f.question (get_or columns.place f.node 0))
    unfolding after_types
    ends_untyped {f} e =
        rw (fault_here e) (ap (refused f.question) (place_held columns.place columns.count f.node s.nodes_held.places_held (fault_inside e)))

    pub ends_typed : empty_match c.sheet.rules 0 ≡ none → k.fault ≡ None
        → Ends (after_types c (type_fault c.sheet.expression)) (Ok (record { rules = rules; links = k.links; types = k.types }))
    unfolding after_types
    ends_typed m e =
        rw (no_fault e) record {
          places = c.action_places;
          limits = s.limits;
          rules_held = s.rules_held;
          links_most = omega (arith, h.links_held.as_many, s.nodes_held.nodes_fit);
          linked = h.links_held.linked c.sheet.expression c.node_places s.nodes_held;
          typed = h.types_held c.sheet.expression c.node_places s.nodes_held;
          no_empty = m;
          no_fault = no_fault e;
        }

  module _ (r : Option ℕ) (h : empty_rule r ≡ empty_match c.sheet.rules 0) where
    rule_inside : {rule : ℕ} → r ≡ Some rule → rule < rules.count
    rule_inside {rule} e =
        omega (arith, (found_below c.sheet.rules r rule h e).1, s.rules_held.rules, length-map c.sheet.rules (λ r. r.action))

    pub rule_entry : {rule : ℕ} → r ≡ Some rule → rule < 32
    rule_entry e = omega (arith, rule_inside e, s.rules_held.rules_fit)

    pub ends_empty : {rule : ℕ} → r ≡ Some rule
        → Ends (after_rules c (empty_match c.sheet.rules 0)) (refused 7 (get_or rules.place rule 0))
    unfolding after_rules
    ends_empty {rule} e =
        rw (found_below c.sheet.rules r rule h e).0 (ap (refused 7) (place_held rules.place rules.count rule s.rules_held.places_held (rule_inside e)))

    pub ends_rules : (a : Result CheckedSheet Refusal) → r ≡ None
        → (empty_match c.sheet.rules 0 ≡ none → Ends (after_types c (type_fault c.sheet.expression)) a)
        → Ends (after_rules c (empty_match c.sheet.rules 0)) a
    unfolding after_rules
    ends_rules a e f = let m = nothing_found c.sheet.rules r h e in rw m (f m)

-- ---- questions 2 to 6

-- A sheet was read, and the columns hold it.
pub record SheetRead (sheet : List ℕ) (r : SheetColumns) : Type 0 where
  pub what : Contents
  pub end : ℕ
  pub read : read_sheet sheet ≡ got what end
  pub held : SheetOf what r.rules r.nodes

module _ (sheet : List ℕ) where
  pub ends_long : most_sheet_bytes < length sheet → Ends (after_work sheet) (refused 2 0)
  unfolding after_work
  ends_long h = rw (lt-ltb most_sheet_bytes (length sheet) h) refl

  module _ (short : length sheet ≤ most_sheet_bytes) {r : Result SheetColumns Refusal} (h : Reads (read_sheet sheet) r) where
    pub ends_unreadable : {refusal : Refusal} → r ≡ Err refusal → Ends (after_work sheet) (Err refusal)
    unfolding after_work after_reading
    ends_unreadable e = rw (le-ltb most_sheet_bytes (length sheet) short, outcome_refused (read_sheet sheet) h e) refl

    pub sheet_read : {columns : SheetColumns} → Bytes sheet → r ≡ Ok columns → SheetRead sheet columns
    sheet_read bytes e =
        let w = outcome_done (read_sheet sheet) h e in record {
          what = w.what;
          end = w.end;
          read = w.read;
          held = record {
            rules_held = w.holds.rules_held;
            nodes_held = w.holds.nodes_held;
            limits = contents_limits sheet w.what (read_accepted sheet bytes short w.read);
          };
        }

  pub ends_read : (c : Contents) (end : ℕ) (a : Result CheckedSheet Refusal) → length sheet ≤ most_sheet_bytes
      → read_sheet sheet ≡ got c end → Ends (after_rules c (empty_match c.sheet.rules 0)) a
      → Ends (after_work sheet) a
  unfolding after_work after_reading
  ends_read c end a short e f = rw (le-ltb most_sheet_bytes (length sheet) short, e) f

-- ---- question 1, and the work area

module _ (sheet work : List ℕ) where
  pub work_short : length work < work_bytes → Ends (check sheet (length work)) (refused 1 0) × (work ≡ work_after work)
  unfolding check work_after
  work_short h = rw (lt-ltb (length work) work_bytes h) (refl, refl)

  pub work_enough : (a : Result CheckedSheet Refusal) {after : List ℕ} → work_bytes ≤ length work → after ≡ cleared work_bytes work
      → Ends (after_work sheet) a → Ends (check sheet (length work)) a × (after ≡ work_after work)
  unfolding check work_after
  work_enough a h e f =
      let l = le-ltb (length work) work_bytes h in
      (rw l f, e ∙ cleared-front work_bytes work h ∙ rw l)
