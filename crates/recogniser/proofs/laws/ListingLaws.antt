-- The reading as a function: `list_tokens` gives the tokens that longest match reads, where they start, and the place that it comes to.
use Rattle.std.specs.Prelude.{◌≡◌, refl, length, drop, get_or}
use Rattle.std.proofs.Common.{sym, ◌∙◌, inl, inr, arith, lt-ltb, le-ltb}
use Rattle.std.proofs.Math.Path.{ap, subst}
use mathlib.Core.List.{List, [], ◌∷◌, map}
use Rattle.std.proofs.Math.Logic.{⊎_elim}
use Prim.Native.Nat.{ℕ, zero, suc, ◌+◌, ◌≤◌, ◌<◌}
use Rattle.std.proofs.Math.ListN.{length-drop}
use Rattle.basics.proofs.laws.Order.{lt-or-le}
use Rattle.sheet.specs.Sheet.{Rule, Sheet}
use Rattle.lexer.specs.Words.{RuleAt, first_rule, later_rule, NoEmptyRule}
use Rattle.lexer.specs.RuleOrder.{by_kind, words_first, image_sheet}
use Rattle.lexer.specs.Match.{Match, no_match, matched}
use Rattle.lexer.proofs.laws.EmptyWord.{none_empty}
use Rattle.lexer.proofs.laws.LongestMatchLaws.{Right, match_right}
use Rattle.lexer.proofs.laws.OrderedMatches.{ordered_no_empty, ordered_no_match}
use Rattle.machine.specs.Lexes.{Lexeme, lexeme, tokens_of, Lexes}
use Rattle.machine.proofs.laws.OrderedAnswers.{MatchOfSheet, of_sheet}
use Rattle.recogniser.specs.Listing.{Listed, listed, with_action, list_match, list_from, list_tokens}
use Rattle.recogniser.specs.ReadingStops.{starts_of, ReadingStops, MatchedThroughout}
use Rattle.recogniser.proofs.laws.Reading.{LexesOn, no_more, on_over_skip, on_over_token, lexes_from_start, reading_one}

action_at : {rules : List Rule} {k : ℕ} {r : Rule} → RuleAt rules k r → get_or (map (λ r. r.action) rules) k 0 ≡ r.action
action_at first_rule = refl
action_at (later_rule x) = action_at x

-- What is listed is what is read, from a place on or from the start: lexemes with these tokens and starts, up to this place, where reading
-- stops.
pub record ReadAs (Reads : List Lexeme → ℕ → Type 0) (s : Sheet) (text : List ℕ) (l : Listed) : Type 0 where
  pub lexemes : List Lexeme
  pub reads : Reads lexemes l.place
  pub tokens_are : tokens_of lexemes ≡ l.tokens
  pub starts_are : starts_of lexemes ≡ l.starts
  pub stops : ReadingStops s text l.place

module _ (s : Sheet) (text : List ℕ) where
  abbrev From : ℕ → Listed → Type 0
  From p = ReadAs (λ lexemes q. LexesOn s text p lexemes q) s text

  nothing_listed : (p : ℕ) → ReadingStops s text p → From p (listed [] [] p)
  nothing_listed p h = record { lexemes = []; reads = no_more; tokens_are = refl; starts_are = refl; stops = h }

  by_action : (p n action : ℕ) → p < length text → MatchOfSheet s text (drop p text) n action → (l : Listed) → From (p + n) l
      → From p (with_action action p l)
  unfolding with_action
  by_action p n zero h m l r = record {
    lexemes = r.lexemes;
    reads = on_over_skip m.rule n h m.longest m.acts r.reads;
    tokens_are = r.tokens_are;
    starts_are = r.starts_are;
    stops = r.stops;
  }
  by_action p n (suc t) h m l r = record {
    lexemes = lexeme p n m.rule t ∷ r.lexemes;
    reads = on_over_token m.rule n t h m.longest m.acts r.reads;
    tokens_are = ap (λ (ts : List ℕ). t ∷ ts) r.tokens_are;
    starts_are = ap (λ (ps : List ℕ). p ∷ ps) r.starts_are;
    stops = r.stops;
  }

  by_match : (p : ℕ) → p < length text → (later : ℕ → Listed) → ((n : ℕ) → 0 < n → p + n ≤ length text → From (p + n) (later (p + n)))
      → (m : Match) → Right (image_sheet s).rules (drop p text) m → From p (list_match (image_sheet s).rules later p m)
  unfolding list_match image_sheet
  by_match p h later f no_match m = nothing_listed p (inr (h, (ordered_no_match s.rules (drop p text)).0 m))
  by_match p h later f (matched k n) m =
      let w = m.0.matches in
      let within = m.0.within in
      let long = length-drop p text in
      subst (λ (action : ℕ). From p (with_action action p (later (p + n)))) (sym (action_at w.1))
      (by_action p n w.0.action h (of_sheet s text m.0 (w.0, w.1, refl)) (later (p + n)) (f n m.1 (omega arith)))

  module _ (no_empty : NoEmptyRule s.rules) where
    list_from_reads : (fuel p : ℕ) → p ≤ length text → length text ≤ p + fuel → From p (list_from (image_sheet s).rules text fuel p)
    unfolding list_from image_sheet
    list_from_reads zero p h l = nothing_listed p (inl (omega arith))
    list_from_reads (suc f) p h l = ⊎_elim
        (λ x. rw (lt-ltb p (length text) x)
        (by_match p x (list_from (image_sheet s).rules text f) (λ n i j. list_from_reads f (p + n) j (omega arith)) _
        (match_right (image_sheet s).rules ((none_empty (words_first s.rules)).1 (ordered_no_empty s.rules no_empty)) (drop p text))))
        (λ x. rw (le-ltb p (length text) x) (nothing_listed p (inl (omega arith))))
        (lt-or-le p (length text))

    -- The function reads as longest match over the sheet's rules does, to the text's end or to the first place where no rule matches.
    pub list_tokens_reads : ReadAs (λ lexemes q. Lexes by_kind s text q lexemes) s text (list_tokens (image_sheet s).rules text)
    unfolding list_tokens
    list_tokens_reads =
        let r = list_from_reads (length text) 0 (omega arith) (omega arith) in record {
          lexemes = r.lexemes;
          reads = lexes_from_start s text r.reads;
          tokens_are = r.tokens_are;
          starts_are = r.starts_are;
          stops = r.stops;
        }

    -- So it gives whatever is read until reading stops.
    pub list_tokens_is : {p : ℕ} {lexemes : List Lexeme} → Lexes by_kind s text p lexemes → ReadingStops s text p
        → list_tokens (image_sheet s).rules text ≡ listed (tokens_of lexemes) (starts_of lexemes) p
    list_tokens_is x e =
        let r = list_tokens_reads in
        let same = reading_one s text r.reads r.stops x e in
        let tokens = sym r.tokens_are ∙ ap tokens_of same.0 in
        let starts = sym r.starts_are ∙ ap starts_of same.0 in
        λ i. listed (tokens i) (starts i) (same.1 i)

    -- Where no place is without a match, reading comes to the text's end; and the other way round (`read_to_end_matched`).
    pub matched_read_to_end : MatchedThroughout s text → (lexemes : List Lexeme) × Lexes by_kind s text (length text) lexemes
    matched_read_to_end f = let r = list_tokens_reads in elim r.stops [
      | inl e ↦ (r.lexemes, subst (λ (p : ℕ). Lexes by_kind s text p r.lexemes) e r.reads)
      | inr h ↦ absurd (f _ r.lexemes r.reads h)
    ]
