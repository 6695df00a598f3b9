-- Matches by kind and by number: the lowest rule of the image's order is the best rule of the sheet, and what was found by number differs
-- only where another rule stands above a word rule and both match equally far. Limits and question 7 do not ask for the order.
use Rattle.std.specs.Prelude.{◌≡◌, List, ◌⊎◌, ◌↔◌, ℕ, ◌<◌, take}
use Rattle.std.proofs.Common.{sym, subst, inl, inr, ⊎_elim, arith}
use Rattle.std.proofs.Math.Option.{none}
use Rattle.basics.proofs.laws.Order.{compare_cases}
use Rattle.basics.proofs.laws.Partitions.{all-partition, sum-partition, length-partition}
use Rattle.sheet.specs.Regex.{regex_nodes, class_count}
use Rattle.sheet.specs.Sheet.{Rule, Sheet}
use Rattle.sheet.specs.WellFormed.{RuleInRange, WithinLimits}
use Rattle.lexer.specs.Words.{Word, RuleAt, WordOf, NoEmptyRule}
use Rattle.lexer.specs.RuleOrder.{word_rule, by_number, by_kind, WinsOver, lower_rule, word_over_other, lower_of_a_kind}
use Rattle.lexer.specs.RuleOrder.{words_first, image_sheet, ImageNumber}
use Rattle.lexer.specs.LongestMatch.{LongestMatch, NoMatch, NonWordAbove}
use Rattle.lexer.proofs.laws.RuleOrderLaws.{rule_one, number-rule, number-image, image-number_of, of_image-number, lower_wins}
use Rattle.lexer.proofs.laws.RuleOrderLaws.{winner_lower, lower-number, one_wins}
use Rattle.lexer.specs.Positions.{positions, first_positions, empty_match}
use Rattle.lexer.specs.Match.{Match, no_match, matched}
use Rattle.lexer.specs.Walk.{longest_match}
use Rattle.lexer.proofs.laws.EmptyWord.{none_empty}
use Rattle.lexer.proofs.laws.LongestMatchLaws.{Right, match_right, same_length, longest_not-none}

-- A word of a rule's number is a word of the rule.
the_word : {rules : List Rule} {k : ℕ} {w : List ℕ} {r : Rule} → RuleAt rules k r → WordOf rules k w → Word r.regex w
the_word {rules} {k} {w} a x = subst (λ (q : Rule). Word q.regex w) (rule_one x.1 a) x.2

module _ (rules : List Rule) where
  -- A word of an image's rule is a word of the sheet's rule that has the number, and the other way round.
  sheet_word : {k : ℕ} {w : List ℕ} → WordOf (words_first rules) k w → (j : ℕ) × (r : Rule) × ImageNumber rules j k r × WordOf rules j w
  sheet_word x = let h = of_image-number rules x.1 in (h.0, x.0, h.1, (x.0, number-rule rules h.1, x.2))

  image_word : {j : ℕ} {w : List ℕ} → WordOf rules j w → (k : ℕ) × (r : Rule) × ImageNumber rules j k r × WordOf (words_first rules) k w
  image_word x = let h = image-number_of rules x.1 in (h.0, x.0, h.1, (x.0, number-image rules h.1, x.2))

  -- "Does every rule match only non-empty words?" is answered alike.
  pub ordered_no_empty : NoEmptyRule rules → NoEmptyRule (words_first rules)
  ordered_no_empty h k x = let y = sheet_word x in h y.0 y.3

  pub ordered_empty_match : empty_match rules 0 ≡ none → empty_match (words_first rules) 0 ≡ none
  ordered_empty_match e = (none_empty (words_first rules)).1 (ordered_no_empty ((none_empty rules).0 e))

  pub ordered_no_match : (text : List ℕ) → NoMatch (words_first rules) text ↔ NoMatch rules text
  ordered_no_match text = (
    (λ h j m l x. let y = image_word x in h y.0 m l y.3),
    λ h k m l x. let y = sheet_word x in h y.0 m l y.3,
  )

  -- The lowest image rule is the best sheet rule: rule k of the image is rule j of the sheet, and the image's rule is found by number just
  -- where the sheet's is found by kind.
  pub lowest_is_best : {j k : ℕ} {r : Rule} → ImageNumber rules j k r → (text : List ℕ) (n : ℕ)
      → LongestMatch by_number (words_first rules) text k n ↔ LongestMatch by_kind rules text j n
  lowest_is_best {j} {k} {r} number text n = (to_sheet, to_image)
    where
      to_sheet : LongestMatch by_number (words_first rules) text k n → LongestMatch by_kind rules text j n
      to_sheet g = record {
        within = g.within;
        matches = (r, number-rule rules number, the_word (number-image rules number) g.matches);
        longest = λ i m l h x. (let y = image_word x in g.longest y.0 m l h y.3);
        wins = λ i w x. (let y = image_word x in g.wins y.0 (lower_rule (winner_lower rules y.2 number w)) y.3);
      }

      to_image : LongestMatch by_kind rules text j n → LongestMatch by_number (words_first rules) text k n
      to_image g = record {
        within = g.within;
        matches = (r, number-image rules number, the_word (number-rule rules number) g.matches);
        longest = λ i m l h x. (let y = sheet_word x in g.longest y.0 m l h y.3);
        wins = λ i w x. (let y = sheet_word x in g.wins y.0 (lower_wins rules y.2 number (lower-number w)) y.3);
      }

  -- "A reading changes only where a non_word rule stood above a word rule and both matched equally far": the match found by number and the
  -- one found by kind have the same length, and where their rules differ, the one by number is such a rule above the other.
  pub match_changes_only : {text : List ℕ} {j n k m : ℕ} → LongestMatch by_number rules text j n → LongestMatch by_kind rules text k m
      → (n ≡ m) × ((j ≡ k) ⊎ NonWordAbove rules text j k n)
  match_changes_only {text} {j} {n} {k} {m} g h =
      (same, ⊎_elim (λ w. absurd (h.wins j w old)) (⊎_elim (λ e. inl e) changed) (one_wins by_kind g.matches.1 h.matches.1))
    where
      same : n ≡ m
      same = same_length g h

      old : WordOf rules j (take m text)
      old = subst (λ (x : ℕ). WordOf rules j (take x text)) same g.matches

      new : WordOf rules k (take n text)
      new = subst (λ (x : ℕ). WordOf rules k (take x text)) (sym same) h.matches

      not_lower : k < j → ⊥
      not_lower l = g.wins k (lower_rule l) new

      changed : WinsOver rules by_kind k j → (j ≡ k) ⊎ NonWordAbove rules text j k n
      changed (word_over_other {q = r} {r = q} a b e f) =
          ⊎_elim
          (λ l. inr (record { above = l; non_word = (q, b, f, the_word b g.matches); word = (r, a, e, the_word a new) }))
          (⊎_elim (λ e. inl e) (λ l. absurd (not_lower l))) (compare_cases j k)
      changed (lower_of_a_kind a b e l) = absurd (not_lower l)

  -- Where a match is found by number, one is found by kind, if no rule matches the empty word.
  pub match_by-kind : empty_match rules 0 ≡ none → {text : List ℕ} {j n : ℕ} → LongestMatch by_number rules text j n
      → (k : ℕ) × LongestMatch by_kind rules text k n
  match_by-kind e {text} {j} {n} g =
      go (longest_match (positions (words_first rules)) (first_positions (words_first rules)) text)
      (match_right (words_first rules) (ordered_empty_match e) text)
    where
      go : (m : Match) → Right (words_first rules) text m → (k : ℕ) × LongestMatch by_kind rules text k n
      go no_match h = absurd (longest_not-none g ((ordered_no_match text).0 h))
      go (matched i m) h =
          let x = of_image-number rules h.0.matches.1 in
          let y = (lowest_is_best x.1 text m).0 h.0 in
          (x.0, subst (λ (z : ℕ). LongestMatch by_kind rules text x.0 z) (sym (same_length g y)) y)

-- ---- limits

-- The sheet with its rules in the image's order keeps the limits.
pub ordered_limits : (s : Sheet) → WithinLimits s → WithinLimits (image_sheet s)
unfolding image_sheet words_first
ordered_limits s w =
    let rules = s.rules in
    let many = length-partition word_rule rules in
    let least = w.rules_least in
    let most = w.rules_most in record {
      tokens_least = w.tokens_least;
      tokens_most = w.tokens_most;
      rules_least = omega arith;
      rules_most = omega arith;
      rules_allowed = all-partition word_rule (RuleInRange s.tokens) rules w.rules_allowed;
      regex_nodes_most = rw (sum-partition word_rule (λ r. regex_nodes r.regex) rules) w.regex_nodes_most;
      classes_most = rw (sum-partition word_rule (λ r. class_count r.regex) rules) w.classes_most;
      closed = w.closed;
      nodes_most = w.nodes_most;
    }
