-- A sheet and its padded twin, of at most 4,096 bytes each: both pass and are written alike, or the same question fails of both, at the
-- place of the same number. It holds of every work area and every image buffer.
use Rattle.std.specs.Prelude.{◌≡◌, List, [], ℕ, ◌≤◌, length, get_or}
use Rattle.std.proofs.Math.Path.{sym, ap}
use Rattle.std.proofs.Common.{subst, ◌∙◌, arith}
use Rattle.sheet.specs.Limits.{most_sheet_bytes}
use Rattle.sheet.specs.Sheet.{Sheet}
use Rattle.sheet.specs.Spelling.{Bytes, no_more}
use Rattle.sheet.proofs.laws.SheetRanges.{Pairs, pairs_at}
use Rattle.sheet.specs.Twins.{Twins, SamePlace}
use Rattle.sheet.proofs.laws.TwinLaws.{twin_contents, twin_spells, twin_refused}
use Rattle.types.specs.TypeFaults.{TypeFault}
use Rattle.lexer.specs.Words.{FirstEmptyRule, NoEmptyRule}
use Rattle.image.specs.Answer.{Answer, answer}
use Rattle.image.specs.Check.{failed, passed, check, check_answer}
use Rattle.image.specs.Checks.{Checks, short_work, long_sheet, not_a_sheet, empty_rule, untyped, passes}
use Rattle.image.proofs.laws.CheckQuestions.{check_answers, checks_only, failed_by, passable_passes, passed_passable, failed_numbered}
use Rattle.image.specs.Write.{after_checking, write}

module _ (a b : List ℕ) (bytes : Bytes a) (other_bytes : Bytes b) (twins : Twins a b) (short : length a ≤ most_sheet_bytes)
    (other_short : length b ≤ most_sheet_bytes) where
  -- Places at the same index of places that correspond.
  place_of : (l m : List ℕ) (k : ℕ) → Pairs (SamePlace a b) l m → SamePlace a b (get_or l k 0) (get_or m k 0)
  place_of = pairs_at (SamePlace a b) ([], no_more, no_more)

  -- A question of the other, at a place where the same numbers stand before.
  abbrev FailsAlike : ℕ → ℕ → ℕ → Type 0
  FailsAlike work question place = (other : ℕ) × Checks b work (answer question other 0) × SamePlace a b place other

  fails_as : {work q p question place : ℕ} → answer q p 0 ≡ answer question place 0 → FailsAlike work q p → FailsAlike work question place
  fails_as {work} {q} {p} {question} {place} e r =
      let same_question : q ≡ question = ap (λ (x : Answer). x.number) e in
      let same_place : p ≡ place = ap (λ (x : Answer). x.place) e in (
        r.0,
        subst (λ (x : ℕ). Checks b work (answer x r.0 0)) same_question r.1,
        subst (λ (x : ℕ). SamePlace a b x r.0) same_place r.2,
      )

  -- Where a question fails of the one, it fails of the other.
  other_fails : {work question place : ℕ} {x : Answer} → Checks a work x → 1 ≤ question → x ≡ answer question place 0
      → FailsAlike work question place
  other_fails (short_work h) n e = fails_as e (0, short_work h, ([], no_more, no_more))
  other_fails (long_sheet w h) n e = absurd (omega (arith, h, short))
  other_fails (not_a_sheet q p w l h) n e =
      let r = twin_refused twins h in fails_as e (r.0, not_a_sheet q r.0 w other_short r.1, r.2)
  other_fails {work} (empty_rule c k w h x) n e =
      let r = twin_contents twins c other_short h in
      let d = r.0 in
      let first = subst (λ (s : Sheet). FirstEmptyRule s.rules k) r.2.same_sheet x in
      fails_as e (_, empty_rule d k w r.1 first, place_of c.action_places d.action_places k r.2.actions)
  other_fails {work} (untyped c node q w h m x) n e =
      let r = twin_contents twins c other_short h in
      let d = r.0 in
      let none_empty = subst (λ (s : Sheet). NoEmptyRule s.rules) r.2.same_sheet m in
      let fault = subst (λ (s : Sheet). TypeFault s.expression node q) r.2.same_sheet x in
      fails_as e (_, untyped d node q w r.1 none_empty fault, place_of c.node_places d.node_places node r.2.nodes)
  other_fails (passes s w p) n e = let z = ap (λ (x : Answer). x.number) e in absurd (omega (arith, z, n))

  module _ (work : ℕ) where
    -- The same question, at the place of the same number.
    pub twins_refused : (question place : ℕ) → check a work ≡ failed question place
        → (other : ℕ) × (check b work ≡ failed question other) × SamePlace a b place other
    unfolding check_answer
    twins_refused question place e =
        let n = (failed_numbered a bytes work question place e).0 in
        let r = other_fails (check_answers a work bytes) n (ap check_answer e) in
        (r.0, failed_by (check b work) question r.0 n (checks_only other_bytes r.1), r.2)

    -- The same sheet passes.
    twins_passed : (s : Sheet) → check a work ≡ passed s → check b work ≡ passed s
    twins_passed s e =
        let p = passed_passable a bytes work s e in
        passable_passes b work p.0 s (record {
          well_formed = twin_spells twins other_short p.1.well_formed;
          no_empty_text = p.1.no_empty_text;
          has_type = p.1.has_type;
        })

    -- And writing ends the same, whatever the image buffer.
    pub twins_written : (s : Sheet) → check a work ≡ passed s → (check b work ≡ passed s) × ((room : ℕ) → write b work room ≡ write a work room)
    unfolding write
    twins_written s e = let p = twins_passed s e in (p, (λ room. ap (after_checking room) (p ∙ sym e)))
