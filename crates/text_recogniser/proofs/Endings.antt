-- What a descent's number tells decides the answer, and what the parts of recognising promise gives what the whole promises.
use mathlib.Core.Path.{◌≡◌, refl, sym, ap, subst, ◌∙◌}
use mathlib.Core.Bool.{cond}
use mathlib.Core.List.{List, [], ◌∷◌}
use mathlib.Core.Logic.{⊎_elim}
use Prim.Native.Nat.{ℕ, zero, suc, ◌+◌, ◌-◌, ◌*◌, ◌/◌, ◌≤◌, ◌<◌}
use native.Mathlib.Omega.{arith}
use lib.ListN.{length, get_or, take, drop, length-append, length-map, get_or-eq_default}
use lib.Seq.{take_at}
use borrow.Author.Tests.{lt-ltb, le-ltb}
use Rattle.basics.specs.Lists.{written_over}
use Rattle.sheet.specs.Sheet.{Sheet}
use Rattle.sheet.specs.Expression.{Expression}
use Rattle.sheet.specs.WellFormed.{WithinLimits}
use Rattle.types.specs.Types.{HasType}
use Rattle.types.proofs.laws.LeastTypeLaws.{least_solves}
use Rattle.lexer.specs.RuleOrder.{image_sheet}
use Rattle.lexer.proofs.laws.EmptyWord.{none_empty}
use Rattle.image.specs.Answer.{Answer, answer}
use Rattle.image.specs.Check.{Verdict, failed, passed}
use Rattle.machine.specs.Lexes.{Lexeme}
use Rattle.recogniser.specs.Descends.{Descent, left, stuck, DescendsFromStart, entered, not_entered, rest_of}
use Rattle.recogniser.specs.Descending.{descend_whole}
use Rattle.recogniser.specs.Listing.{Listed, list_tokens}
use Rattle.recogniser.specs.Recognise.{ending, descent_answer, after_listing, after_checking}
use Rattle.recogniser.specs.Recognises.{most_recognised_bytes}
use Rattle.recogniser.proofs.laws.DescendingLaws.{descend_whole_descends}
use Rattle.recogniser.proofs.laws.Ends.{shrinks}
use Rattle.recogniser.proofs.laws.ListingLaws.{list_tokens_reads}
use Rattle.recogniser.proofs.laws.OneDescent.{start_one}
use Rattle.recogniser.proofs.laws.Reading.{lexemes_within}
use Rattle.descent.specs.Steps.{last, AnswerFor, comes_to, fails_at, FromStart}
use Rattle.descent.proofs.laws.Parts.{last-count}
use Rattle.sheet_checker.specs.Steps.{PassedParts}
use Rattle.sheet_checker.specs.declared.CheckedSheet.{CheckedSheet}
use Rattle.descent_table.specs.HoldsTyped.{HoldsTyped}
use Rattle.descent_table.proofs.laws.TableLaws.{holds_typed, has_type}
use Rattle.token_lister.specs.Listing.{Written, RulesPassed}
use Rattle.text_recogniser.specs.Ends.{answer_held, Told, leaves, sticks, EndsAs}
use Rattle.text_recogniser.specs.declared.Recognition.{Recognition}

-- ---- what the descent's number tells

-- A descent from the start leaves no more than there was.
start_shrinks : {e : Expression} {s : List ℕ} {o : Descent} → DescendsFromStart e s o → length (rest_of o) ≤ length s
start_shrinks (entered w x) = shrinks x
start_shrinks (not_entered h) = omega arith

pub told_by : {e : Expression} (tokens : List ℕ) (count r : ℕ) → length tokens ≡ 2048 → count ≤ 2048 → FromStart e tokens count r
    → (o : Descent) × Told count r o × DescendsFromStart e (last tokens count) o
told_by {e} tokens count r long few f = (f.0, go f.0 f.1 (start_shrinks f.2), f.2)
  where
    all : length (last tokens count) ≡ count
    all = last-count tokens count long few

    go : {r : ℕ} (o : Descent) → AnswerFor tokens r o → length (rest_of o) ≤ length (last tokens count) → Told count r o
    go o (comes_to k l) m = let n = last-count tokens k long l in
        subst (λ i. Told count (i * 2) (left (last tokens k))) n (leaves (last tokens k) (omega (arith, m, all)))
    go o (fails_at k l) m = let n = last-count tokens k long l in
        subst (λ i. Told count (i * 2 + 1) (stuck (last tokens k))) n (sticks (last tokens k) (omega (arith, m, all)))

-- ---- how it decides

module _ (starts : List ℕ) (count end : ℕ) (counted : length starts ≡ count) where
  past_all : (k : ℕ) → k ≡ 0 → get_or starts (length starts - k) end ≡ end
  past_all k z = get_or-eq_default starts end {n = length starts - k} (omega (arith, z))

  any_default : (l : List ℕ) (i d : ℕ) → i < length l → get_or l i d ≡ get_or l i end
  any_default [] i d h = absurd (omega (arith, h))
  any_default (x ∷ l) zero d h = refl
  any_default (x ∷ l) (suc i) d h = any_default l i d (omega (arith, h))

  same_answer : {n p q : ℕ} → p ≡ q → answer n p count ≡ answer n q (length starts)
  same_answer {n} z = λ i. answer n (z i) (sym counted i)

  pub decided_all : (told : ℕ) (o : Descent) → Told count told o → told ≡ 0 → answer 0 end count ≡ descent_answer starts end o
  unfolding descent_answer
  decided_all told o (leaves [] l) z = same_answer (sym (past_all 0 refl))
  decided_all told o (leaves (t ∷ rest) l) z = absurd (omega (arith, z))
  decided_all told o (sticks rest l) z = absurd (omega (arith, z))

  pub decided_early : (told : ℕ) (o : Descent) → Told count told o → told ≡ 1
      → answer 16 end count ≡ descent_answer starts end o
  unfolding descent_answer
  decided_early told o (leaves rest l) z = absurd (omega (arith, z))
  decided_early told o (sticks [] l) z = same_answer (sym (past_all 0 refl))
  decided_early told o (sticks (t ∷ rest) l) z = absurd (omega (arith, z))

  placed : (rest : List ℕ) (k : ℕ) → length rest ≤ count → k ≡ length rest → (k ≡ 0 → ⊥)
      → get_or starts (count - k) 0 ≡ get_or starts (length starts - length rest) end
  placed rest k l z n =
      any_default starts (count - k) 0 (omega (arith, counted, l, z, n))
      ∙ ap (λ i. get_or starts i end) (let y : count - k ≡ length starts - length rest = omega (arith, counted, z) in y)

  pub decided_left : (told : ℕ) (o : Descent) → Told count told o → (told / 2 ≡ 0 → ⊥)
      → answer 15 (get_or starts (count - told / 2) 0) count ≡ descent_answer starts end o
  unfolding descent_answer
  decided_left told o (leaves [] l) n = absurd (n (omega arith))
  decided_left told o (leaves (t ∷ rest) l) n = same_answer (placed (t ∷ rest) (told / 2) l (omega arith) n)
  decided_left told o (sticks [] l) n = absurd (n (omega arith))
  decided_left told o (sticks (t ∷ rest) l) n = same_answer (placed (t ∷ rest) (told / 2) l (omega arith) n)

-- It leaves no more than there are.
pub told_within : {count told : ℕ} (o : Descent) → Told count told o → told / 2 ≤ count
told_within o (leaves rest l) = omega (arith, l)
told_within o (sticks rest l) = omega (arith, l)

-- ---- once the tokens are listed

-- What the lister is given of a sheet that passed, and the descent's table.
pub rules_passed : (s : Sheet) (checked : CheckedSheet) → PassedParts s checked → RulesPassed s checked.rules
rules_passed s checked p = record { places = p.places; limits = p.limits; rules_held = p.rules_held; no_empty = p.no_empty }

-- Each token took a byte of the text.
pub tokens_few : (s : Sheet) (checked : CheckedSheet) → PassedParts s checked → (text : List ℕ)
    → length (list_tokens (image_sheet s).rules text).tokens ≤ length text
tokens_few s checked p text =
    let no_empty = (none_empty s.rules).0 p.no_empty in
    let r = list_tokens_reads s text no_empty in
    let within = lexemes_within s text no_empty r.reads in
    let all = length-map r.lexemes (λ (x : Lexeme). x.token) in
    let same = ap length r.tokens_are in
    ⊎_elim (λ (e : (list_tokens (image_sheet s).rules text).place ≡ length text). omega (arith, within, all, same, e))
    (λ h. omega (arith, within, all, same, h.0)) r.stops

-- So there are at most 2048 of them, however they are written.
pub listed_few : (s : Sheet) (checked : CheckedSheet) → PassedParts s checked → (text : List ℕ) → length text ≤ 2048
    → {count : ℕ} {list list' starts starts' : List ℕ}
    → Written (list_tokens (image_sheet s).rules text) count list list' starts starts' → count ≤ 2048
listed_few s checked p text short w = omega (arith, tokens_few s checked p text, w.tokens_counted, short)

pub typed_columns : (s : Sheet) (checked : CheckedSheet) → PassedParts s checked
    → HoldsTyped checked.links checked.types s.expression
typed_columns s checked p =
    holds_typed s checked.links checked.types p.limits p.links_most p.linked p.typed p.no_fault

pub passed_typed : (s : Sheet) (checked : CheckedSheet) → PassedParts s checked → HasType s.expression
passed_typed s checked p = has_type checked.links checked.types s.expression (typed_columns s checked p)

module _ (s : Sheet) (typed : HasType s.expression) (limits : WithinLimits s) (l : Listed) (count : ℕ)
    (list list' starts starts' : List ℕ) (w : Written l count list list' starts starts') where
  listed_first : (entries entries' front : List ℕ) → entries' ≡ written_over front entries → count ≡ length front
      → take count entries' ≡ front
  unfolding written_over
  listed_first entries entries' front z n =
      ap (take count) z ∙ take_at front (drop (length front) entries) count (sym n)

  longer : (entries entries' front : List ℕ) → entries' ≡ written_over front entries → count ≡ length front → count ≤ length entries'
  unfolding written_over
  longer entries entries' front z n =
      let a = length-append front (drop (length front) entries) in let b = ap length z in omega (arith, a, b, n)

  pub count_within : count ≤ length list'
  count_within = longer list list' l.tokens w.tokens_written w.tokens_counted

  -- "14 at the first place where no rule matches"
  pub unmatched_ends : (end place : ℕ) → place ≡ l.place → place < end → (r : Recognition)
      → r ≡ record { number = 14; place = place; count = count }
      → EndsAs (after_listing s end l) r list list'
  unfolding after_listing answer_held
  unmatched_ends end place z before r e = record {
    answered = ap answer_held e ∙ (λ i. answer 14 (z i) (w.tokens_counted i))
        ∙ ap (λ q. cond q (answer 14 l.place (length l.tokens))
        (descent_answer l.starts end (descend_whole s.expression l.tokens)))
        (sym (lt-ltb l.place end (omega (arith, z, before))));
    written = w.tokens_written;
  }

  -- Else the descent decides.
  pub descent_ends : (end place : ℕ) → place ≡ l.place → end ≤ place → (tokens : List ℕ) → drop (2048 - count) tokens ≡ take count list'
      → length tokens ≡ 2048 → count ≤ 2048 → (told : ℕ) → FromStart s.expression tokens count told → (r : Recognition)
      → ((o : Descent) → Told count told o → answer_held r ≡ descent_answer (take count starts') end o)
      → EndsAs (after_listing s end l) r list list'
  unfolding after_listing
  descent_ends end place z past tokens same long few told f r decides =
      let t = told_by tokens count told long few f in
      let own : DescendsFromStart s.expression l.tokens t.0
      = subst (λ (u : List ℕ). DescendsFromStart s.expression u t.0)
      (same ∙ listed_first list list' l.tokens w.tokens_written w.tokens_counted) t.2 in
      let solved = least_solves s.tokens limits.tokens_most s.expression limits.closed in
      let one = start_one typed.1 own (descend_whole_descends typed.1 solved limits.nodes_most l.tokens) in record {
        answered = decides t.0 t.1
            ∙ (ap (λ (u : List ℕ). descent_answer u end t.0)
            (listed_first starts starts' l.starts w.starts_written w.starts_counted)
            ∙ (ap (descent_answer l.starts end) one
            ∙ ap (λ q. cond q (answer 14 l.place (length l.tokens))
            (descent_answer l.starts end (descend_whole s.expression l.tokens)))
            (sym (le-ltb l.place end (omega (arith, z, past))))));
        written = w.tokens_written;
      }

-- ---- from checking on

module _ (text list : List ℕ) where
  abbrev After : Verdict → Recognition → List ℕ → Type 0
  After v r list' = EndsAs (after_checking text (length list) v) r list list'

  -- Nothing is written where recognising is turned away.
  turned_away : (v : Verdict) (a : Answer) → after_checking text (length list) v ≡ ending a [] → (r : Recognition) → answer_held r ≡ a
      → After v r list
  unfolding written_over
  turned_away v a z r e = rw z (record { answered = e; written = refl })

  pub ends_refused : (v : Verdict) (question place : ℕ) → v ≡ failed question place → (r : Recognition)
      → r ≡ record { number = question; place = place; count = 0 } → After v r list
  unfolding after_checking answer_held
  ends_refused v question place z r e = turned_away v (answer question place 0) (rw z refl) r (ap answer_held e)

  pub ends_12 : (v : Verdict) (s : Sheet) → v ≡ passed s → most_recognised_bytes < length text → (r : Recognition)
      → r ≡ record { number = 12; place = 0; count = 0 } → After v r list
  unfolding after_checking answer_held
  ends_12 v s z l r e = turned_away v (answer 12 0 0) (rw (z, lt-ltb most_recognised_bytes (length text) l) refl) r (ap answer_held e)

  module _ (v : Verdict) (s : Sheet) (z : v ≡ passed s) (within : length text ≤ most_recognised_bytes) where
    pub ends_20 : length list < length text → (r : Recognition) → r ≡ record { number = 20; place = 0; count = 0 } → After v r list
    unfolding after_checking answer_held
    ends_20 l r e = turned_away v (answer 20 0 0)
        (rw (z, le-ltb most_recognised_bytes (length text) within, lt-ltb (length list) (length text) l) refl) r (ap answer_held e)

    pub ends_read : length text ≤ length list → (r : Recognition) (list' : List ℕ)
        → EndsAs (after_listing s (length text) (list_tokens (image_sheet s).rules text)) r list list' → After v r list'
    unfolding after_checking
    ends_read l r list' h = rw (z, le-ltb most_recognised_bytes (length text) within, le-ltb (length list) (length text) l) h
