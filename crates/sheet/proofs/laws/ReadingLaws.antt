-- The laws of reading a sheet: what the code reads is the one answer that the sheet's format gives the bytes. So bytes spell one sheet at most,
-- which keeps the page's ranges and limits; and reading refuses exactly as questions 3 to 6 do.
use Rattle.std.specs.Prelude.{◌≡◌, refl, List, ◌↔◌, ℕ, ◌+◌, ◌-◌, ◌≤◌, length}
use Rattle.std.proofs.Common.{sym, ap, subst, ◌∙◌, arith, eq-eqb}
use Rattle.number.specs.Number.{decode}
use Rattle.number.proofs.laws.Laws.{refused_read}
use Rattle.sheet.specs.Limits.{most_sheet_bytes}
use Rattle.sheet.specs.Expression.{size}
use Rattle.sheet.specs.Sheet.{Sheet}
use Rattle.sheet.specs.Spelling.{Bytes, NumberBytes, NumberAt}
use Rattle.sheet.specs.WellFormed.{WithinLimits}
use Rattle.sheet.specs.Field.{Reading, stop, got}
use Rattle.sheet.proofs.laws.NumberLaws.{number-read, read-number, number_once}
use Rattle.sheet.specs.Format.{Format, FormatAnswer, made, left_over, no_number, not_allowed, onward}
use Rattle.sheet.proofs.laws.FormatLaws.{read, Finds, answer_one, read_iff}
use Rattle.sheet.specs.SheetFormat.{Contents, sheet_format, SheetAnswer, SpellsContents, Spells}
use Rattle.sheet.proofs.laws.SheetRanges.{Alike, both_made, both_ask, sheet_alike}
use Rattle.sheet.proofs.laws.SheetAgreement.{sheet_agrees}
use Rattle.sheet.specs.Reading.{read_sheet}

-- ---- any format

module _ {Written : ℕ → List ℕ → Type 0} {bytes : List ℕ} {missing leftover : ℕ} {A : Type 0} where
  -- What is made is made up to the last byte.
  answer_end : {f : Format A} {at : ℕ} {a : A} {end : ℕ} → FormatAnswer Written bytes missing leftover f at (got a end) → end ≡ length bytes
  answer_end (made e) = e
  answer_end (onward h e r) = answer_end r

  module _ {S : ℕ → ℕ → Type 0} {R : A → A → Type 0} (same : (p : ℕ) → S p p) where
    -- It is so as all that the format makes.
    made_so : {f g : Format A} {at : ℕ} {a : A} {end : ℕ} → FormatAnswer Written bytes missing leftover f at (got a end) → Alike S R f g → (b : A) × R a b
    made_so (made e) (both_made {b = b} r) = (b, r)
    made_so (onward {at = at} {v = v} h e x) (both_ask a k n) = made_so x (n v at at e (same at))

    -- A question that fails is 4 or 5, or that of a number that is missing or of bytes left over.
    stopped_so : (P : ℕ → Type 0) → P missing → P leftover → ((k : ℕ) → 4 ≤ k → k ≤ 5 → P k)
        → {f g : Format A} {at question place : ℕ} → FormatAnswer Written bytes missing leftover f at (stop question place) → Alike S R f g → P question
    stopped_so P m l k (left_over i) a = l
    stopped_so P m l k (no_number i) a = m
    stopped_so P m l k (not_allowed {v = v} {question = question} h e) (both_ask s j n) = let r = j v question e in k question r.0 r.1
    stopped_so P m l k (onward {at = at} {v = v} h e x) (both_ask s j n) = stopped_so P m l k x (n v at at e (same at))

-- ---- the sheet

module _ (bytes : List ℕ) where
  -- A sheet that bytes spell is read from them.
  made_read : {A : Type 0} {missing leftover : ℕ} {f : Format A} {at : ℕ} {a : A} {end : ℕ} → FormatAnswer NumberBytes bytes missing leftover f at (got a end)
      → read (decode bytes) (length bytes) missing leftover f at ≡ got a end
  made_read {at = at} (made e) = rw (eq-eqb at (length bytes) e)
  made_read {a = a} {end = end} (onward {next = next} {at = at} {v = v} {mid = mid} h e x) =
      let n = number-read h in
      let width : at + (mid - at) ≡ mid = omega (arith, n.2) in
      rw (n.1, e, width) (made_read x)

  pub spelled_read : (c : Contents) → SpellsContents bytes c → read_sheet bytes ≡ got c (length bytes)
  spelled_read c h = sym (sheet_agrees bytes) ∙ made_read h.answered

  -- Bytes answer once, and so spell one sheet only.
  pub answered_once : {x y : Reading Contents} → SheetAnswer bytes x → SheetAnswer bytes y → x ≡ y
  answered_once = answer_one NumberBytes bytes 3 6 (λ at m n x y. number_once)

  pub contents_once : {c d : Contents} → SpellsContents bytes c → SpellsContents bytes d → c ≡ d
  contents_once h k = let e = answered_once h.answered k.answered in cc

  pub spelled_once : (s t : Sheet) → Spells bytes s → Spells bytes t → s ≡ t
  spelled_once s t h k = sym h.2 ∙ ap (λ (c : Contents). c.sheet) (contents_once h.1 k.1) ∙ k.2

  -- It keeps the ranges and limits.
  pub contents_limits : (c : Contents) → SpellsContents bytes c → WithinLimits c.sheet
  contents_limits c h = (made_so (λ p. tt) h.answered (sheet_alike (λ p q. Unit))).1.limits

  -- There are as many places as rules and as expression nodes.
  pub contents_places : (c : Contents) → SpellsContents bytes c
      → (length c.action_places ≡ length c.sheet.rules) × (length c.node_places ≡ size c.sheet.expression)
  contents_places c h = let m = (made_so (λ p. tt) h.answered (sheet_alike (λ p q. Unit))).1 in (m.actions_many, m.nodes_many)

  pub spelled_limits : (s : Sheet) → Spells bytes s → WithinLimits s
  spelled_limits s h = subst WithinLimits h.2 (contents_limits h.0 h.1)

  -- A question that fails is one from 3 to 6.
  pub refused_number : (question place : ℕ) → SheetAnswer bytes (stop question place) → (3 ≤ question) × (question ≤ 6)
  refused_number question place h =
      stopped_so (λ p. tt) (λ k. (3 ≤ k) × (k ≤ 6)) (omega arith, omega arith) (omega arith, omega arith) (λ k l m. (omega arith, omega arith)) h
      (sheet_alike (λ p q. Unit))

  module _ (b : Bytes bytes) where
    sheet_finds : Finds (NumberAt bytes) (length bytes) (decode bytes)
    sheet_finds = record {
      none_there = λ at e v mid h. let n = number-read h in refused_read (sym e ∙ n.1);
      there = λ at n e. read-number bytes at b e;
      inside = λ at n e. (read-number bytes at b e).inside;
    }

    -- What is read is the answer, and nothing else is.
    pub sheet_read_iff : (x : Reading Contents) → (read_sheet bytes ≡ x) ↔ SheetAnswer bytes x
    sheet_read_iff x =
        let r = read_iff NumberBytes bytes 3 6 (decode bytes) sheet_finds (λ at m n x y. number_once) sheet_format 0 (omega arith) x in
        (λ e. r.0 (sheet_agrees bytes ∙ e), λ h. sym (sheet_agrees bytes) ∙ r.1 h)

    pub read_accepted : length bytes ≤ most_sheet_bytes → {c : Contents} {end : ℕ} → read_sheet bytes ≡ got c end → SpellsContents bytes c
    read_accepted m {c} {end} e =
        let a = (sheet_read_iff (got c end)).0 e in
        record { bytes_most = m; answered = subst (λ (p : ℕ). SheetAnswer bytes (got c p)) (answer_end a) a }

    -- Bytes are a well-formed sheet exactly where reading accepts.
    pub well_formed_iff : length bytes ≤ most_sheet_bytes
        → ((s : Sheet) × Spells bytes s) ↔ ((c : Contents) × (end : ℕ) × (read_sheet bytes ≡ got c end))
    well_formed_iff m = (
      λ w. let h = w.1 in (h.0, length bytes, spelled_read h.0 h.1),
      λ r. (r.0.sheet, (r.0, read_accepted m r.2, refl)),
    )
