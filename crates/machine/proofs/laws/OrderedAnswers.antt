-- A sheet's own answer by kind, and by number: the latter of the sheet with its rules in the image's order is the former of the sheet; and
-- of one sheet the two differ only if a place was reached where another rule stands above a word rule and both match equally far.
use Rattle.std.specs.Prelude.{◌≡◌, List, ◌⊎◌, ℕ, ◌<◌, length, drop}
use Rattle.std.proofs.Common.{sym, subst, inl, inr, ⊎_elim}
use Rattle.std.proofs.Math.Logic.{⊎_map}
use Rattle.std.proofs.Math.Option.{none}
use Rattle.sheet.specs.Sheet.{Sheet}
use Rattle.lexer.specs.RuleOrder.{by_number, by_kind, words_first, image_sheet}
use Rattle.lexer.specs.LongestMatch.{LongestMatch}
use Rattle.lexer.specs.Positions.{empty_match}
use Rattle.lexer.proofs.laws.RuleOrderLaws.{number-rule, of_image-number}
use Rattle.lexer.proofs.laws.OrderedMatches.{ordered_no_match, lowest_is_best, match_changes_only, match_by-kind}
use Rattle.image.specs.Answer.{Answer}
use Rattle.machine.specs.OwnAnswer.{ActionOf, AnswersFrom, accepts, ends_early, no_rule, skips, takes, refuses}
use Rattle.machine.specs.OwnAnswer.{OwnAnswer, OwnAnswerByNumber}
use Rattle.machine.proofs.laws.OwnAnswerLaws.{own-answer_one}
use Rattle.machine.specs.Lexes.{Lexes, from_start, over_skip, over_token, AllowedInTurn, ReadingChanges}
use Rattle.machine.proofs.laws.AcceptanceLaws.{ReadSoFar, nothing_read, after_skip, after_token}

-- ---- the sheet in the image's order

module _ (s : Sheet) (text : List ℕ) where
  -- A match of the image's order by number, with its action, is one of the sheet by kind.
  pub record MatchOfSheet (rest : List ℕ) (n action : ℕ) : Type 0 where
    pub rule : ℕ
    pub longest : LongestMatch by_kind s.rules rest rule n
    pub acts : ActionOf s rule action

  pub of_sheet : {rest : List ℕ} {k n action : ℕ} → LongestMatch by_number (words_first s.rules) rest k n
      → ActionOf (image_sheet s) k action → MatchOfSheet rest n action
  unfolding image_sheet
  of_sheet {rest} {k} {n} m a =
      let h = of_image-number s.rules a.1 in record {
        rule = h.0;
        longest = (lowest_is_best s.rules h.1 rest n).0 m;
        acts = (a.0, number-rule s.rules h.1, a.2);
      }

  ordered_from : {p : ℕ} {tokens : List ℕ} {a : Answer} → AnswersFrom by_number (image_sheet s) text p tokens a
      → AnswersFrom by_kind s text p tokens a
  unfolding image_sheet
  ordered_from (accepts e d) = accepts e d
  ordered_from (ends_early e d) = ends_early e d
  ordered_from (no_rule {p = p} l m) = no_rule l ((ordered_no_match s.rules (drop p text)).0 m)
  ordered_from (skips k n l m a r) = let x = of_sheet m a in skips x.rule n l x.longest x.acts (ordered_from r)
  ordered_from (takes k n t l m a c r) = let x = of_sheet m a in takes x.rule n t l x.longest x.acts c (ordered_from r)
  ordered_from (refuses k n t l m a c) = let x = of_sheet m a in refuses x.rule n t l x.longest x.acts c

  pub ordered_answer : {a : Answer} → OwnAnswerByNumber (image_sheet s) text a → OwnAnswer s text a
  ordered_answer = ordered_from

-- ---- answers of one sheet by both orders

module _ (s : Sheet) (text : List ℕ) (no_empty : empty_match s.rules 0 ≡ none) where
  -- The reading so far, the same by number and by kind.
  record ReadAlike (p : ℕ) (tokens : List ℕ) : Type 0 where
    so_far : ReadSoFar s text by_number p tokens
    by_kinds : Lexes by_kind s text p so_far.lexemes

  -- The match by number is also the one by kind, or the reading changes at its place.
  picked : {p : ℕ} {tokens : List ℕ} {k n : ℕ} → ReadAlike p tokens → p < length text
      → LongestMatch by_number s.rules (drop p text) k n → LongestMatch by_kind s.rules (drop p text) k n ⊎ ReadingChanges s text
  picked {p} {tokens} {k} {n} f l m =
      let h = match_by-kind s.rules no_empty m in
      ⊎_elim (λ e. inl (subst (λ (i : ℕ). LongestMatch by_kind s.rules (drop p text) i n) (sym e) h.1))
      (λ c. inr (record {
        place = p;
        lexemes = f.so_far.lexemes;
        reached_by_number = f.so_far.reached;
        reached_by_kind = f.by_kinds;
        allowed = subst (AllowedInTurn s) (sym f.so_far.kept) f.so_far.allowed;
        before_end = l;
        old = k;
        new = h.0;
        bytes = n;
        found_by_number = m;
        found_by_kind = h.1;
        changes = c;
      }))
      (match_changes_only s.rules m h.1).1

  changes_from : {p : ℕ} {tokens : List ℕ} {a : Answer} → AnswersFrom by_number s text p tokens a → ReadAlike p tokens
      → AnswersFrom by_kind s text p tokens a ⊎ ReadingChanges s text
  changes_from (accepts e d) f = inl (accepts e d)
  changes_from (ends_early e d) f = inl (ends_early e d)
  changes_from (no_rule l m) f = inl (no_rule l m)
  changes_from (skips k n l m a r) f =
      ⊎_elim (λ x. ⊎_map (λ y. skips k n l x a y) (λ c. c)
      (changes_from r (record { so_far = after_skip s text k n l m a f.so_far; by_kinds = over_skip k n f.by_kinds l x a }))) inr (picked f l m)
  changes_from (takes k n t l m a c r) f =
      ⊎_elim (λ x. ⊎_map (λ y. takes k n t l x a c y) (λ c. c)
      (changes_from r (record { so_far = after_token s text k n t l m a c f.so_far; by_kinds = over_token k n t f.by_kinds l x a }))) inr
      (picked f l m)
  changes_from (refuses k n t l m a c) f = ⊎_map (λ x. refuses k n t l x a c) (λ c. c) (picked f l m)

  -- "A reading changes only where ..": the own answers by number and by kind are the same, or a place is reached where the reading changes.
  pub answer_changes_only : (a b : Answer) → OwnAnswerByNumber s text a → OwnAnswer s text b → (a ≡ b) ⊎ ReadingChanges s text
  answer_changes_only a b x y = ⊎_map (λ z. own-answer_one s text z y) (λ c. c)
      (changes_from x (record { so_far = nothing_read s text; by_kinds = from_start }))
