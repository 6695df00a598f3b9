-- The laws of reading a whole sheet: its head, its end, and that columns filled with what was read hold the sheet.
use mathlib.Core.Path.{◌≡◌, refl, ap, ap₂, ◌∙◌}
use mathlib.Core.List.{List, [], ◌∷◌, ◌++◌, map, flat_map}
use Prim.Native.Nat.{ℕ, ◌≤◌}
use native.Mathlib.Omega.{arith}
use lib.ListN.{length, get_or}
use borrow.Author.Tests.{eq-eqb, ne_eqb}
use Rattle.std.specs.Prelude.{Ok}
use Rattle.sheet.specs.Limits.{most_tokens, most_rules, most_expression_nodes}
use Rattle.sheet.specs.Regex.{empty}
use Rattle.sheet.specs.Expression.{bottom}
use Rattle.sheet.specs.Sheet.{Rule}
use Rattle.sheet.specs.Field.{Reading, stop, got, and_then, between, read_many}
use Rattle.sheet.proofs.laws.FieldLaws.{Outcome, accepted, then_outcome, outcome_got, true-between, OneAfterOther, many_outcome}
use Rattle.sheet.proofs.laws.FieldLaws as outcome
use Rattle.sheet.specs.Items.{RegexItem, regexes, ExpressionItem, expressions}
use Rattle.sheet.specs.laws.RegexItems.{regex_items_of}
use Rattle.sheet.proofs.laws.RegexItems.{one_regex}
use Rattle.sheet.proofs.laws.ExpressionItems.{one_expression}
use Rattle.sheet.specs.Reading.{sheet_field, regex_items, ReadRule, ReadNode, Allowance, less_rule, read_rule, expression_nodes, Contents, contents, at_end, read_sheet}
use Rattle.sheet.proofs.laws.ItemsRead.{regexes-read, nodes-read}
use Rattle.columns.specs.Holds.{items_of_rules, RulesOf, NodesOf}
use Rattle.sheet_reader.specs.Put.{with_all, with_rule, with_read_node, no_rules, no_nodes}
use Rattle.sheet_reader.specs.Turns.{was_got, answer, header}
use Rattle.sheet_reader.specs.Answers.{allowance, RulesFit}
use Rattle.sheet_reader.specs.Reads.{refused, Reads}
use Rattle.sheet_reader.specs.declared.Counted.{Counted}
use Rattle.sheet_reader.proofs.Fields.{answer-got, Any, field-inside}
use Rattle.sheet_reader.proofs.Holding.{all_rules-held, all-nodes-held}

-- ---- the head

module _ (bytes : List ℕ) where
  pub head_version : {question place : ℕ} → sheet_field (between 1 1) bytes 0 ≡ stop question place → refused question place
      ≡ answer (header bytes)
  unfolding header answer
  head_version e = rw e

  module _ {version at_tokens : ℕ} (e : sheet_field (between 1 1) bytes 0 ≡ got version at_tokens) where
    pub head_tokens : {question place : ℕ} → sheet_field (between 1 most_tokens) bytes at_tokens ≡ stop question place
        → refused question place ≡ answer (header bytes)
    unfolding header answer
    head_tokens f = rw (e, f)

    module _ {tokens at_count : ℕ} (f : sheet_field (between 1 most_tokens) bytes at_tokens ≡ got tokens at_count) where
      pub head-count : {question place : ℕ} → sheet_field (between 1 most_rules) bytes at_count ≡ stop question place
          → refused question place ≡ answer (header bytes)
      unfolding header answer
      head-count g = rw (e, f, g)

      pub head-whole : {count at_rules : ℕ} → sheet_field (between 1 most_rules) bytes at_count ≡ got count at_rules
          → was_got (record { tokens = tokens; rules = count }) at_rules ≡ answer (header bytes)
      unfolding header answer
      head-whole g = rw (e, f, g)

-- What the head keeps.
record HeadKept (bytes : List ℕ) (c : Counted) (next : ℕ) : Type 0 where
  tokens_most : c.tokens ≤ 24
  rules_most : c.rules ≤ 32
  inside : next ≤ length bytes

-- What the code's head tells.
pub record HeadRead (bytes : List ℕ) (tokens count next : ℕ) : Type 0 where
  pub read : header bytes ≡ got (record { tokens = tokens; rules = count }) next
  pub tokens_most : tokens ≤ 24
  pub rules_most : count ≤ 32
  pub inside : next ≤ length bytes

module _ (bytes : List ℕ) where
  head_outcome : Outcome Any (HeadKept bytes) (header bytes)
  unfolding header
  head_outcome =
      then_outcome (field-inside (between 1 1) bytes 0)
      (λ version at_tokens v. then_outcome (field-inside (between 1 most_tokens) bytes at_tokens)
      (λ tokens at_count t. then_outcome (field-inside (between 1 most_rules) bytes at_count)
      (λ count at_rules c. accepted (record { tokens = tokens; rules = count }) at_rules (record {
        tokens_most = (true-between 1 most_tokens tokens t.holds).1;
        rules_most = (true-between 1 most_rules count c.holds).1;
        inside = c.inside;
      }))))

  pub head_read : {tokens count next : ℕ} → answer (header bytes) ≡ was_got (record { tokens = tokens; rules = count }) next
      → HeadRead bytes tokens count next
  head_read e =
      let read = answer-got (header bytes) e in
      let kept = outcome_got head_outcome read in
      record { read = read; tokens_most = kept.tokens_most; rules_most = kept.rules_most; inside = kept.inside }

-- ---- the whole, made of its parts

module _ {A B C : Type 0} where
  then_then : (m : Reading A) (f : A → ℕ → Reading B) (g : B → ℕ → Reading C) → and_then m (λ a next. and_then (f a next) g)
      ≡ and_then (and_then m f) g
  then_then (stop q p) f g = refl
  then_then (got a next) f g = refl

module _ {A B : Type 0} where
  then_same : (m : Reading A) (f g : A → ℕ → Reading B) → ((a : A) (next : ℕ) → f a next ≡ g a next) → and_then m f ≡ and_then m g
  then_same (stop q p) f g h = refl
  then_same (got a next) f g h = h a next

module _ (bytes : List ℕ) where
  abbrev pub rules_part : Counted → ℕ → Reading (List ReadRule)
  rules_part h at = read_many (read_rule bytes h.tokens) less_rule (allowance no_rules) h.rules at

  abbrev pub nodes_part : Counted → ℕ → Reading (List ReadNode)
  nodes_part h at = expression_nodes bytes h.tokens most_expression_nodes (0 ∷ []) at

  abbrev end_part : Counted → List ReadRule → ℕ → Reading Contents
  end_part h rules next = and_then (nodes_part h next) (λ nodes end. at_end bytes (contents h.tokens rules nodes) end)

  abbrev rest_part : Counted → ℕ → Reading Contents
  rest_part h at = and_then (rules_part h at) (end_part h)

  sheet_parts : read_sheet bytes ≡ and_then (header bytes) rest_part
  unfolding read_sheet header allowance
  sheet_parts =
      then_same (sheet_field (between 1 1) bytes 0) _ _ (λ version at_tokens.
      then_same (sheet_field (between 1 most_tokens) bytes at_tokens) _ _ (λ tokens at_count.
      then_then (sheet_field (between 1 most_rules) bytes at_count) _ rest_part)
      ∙ then_then (sheet_field (between 1 most_tokens) bytes at_tokens) _ rest_part)
      ∙ then_then (sheet_field (between 1 1) bytes 0) _ rest_part

-- ---- columns filled with what was read hold the sheet

-- The rule that was read.
abbrev rule_of : ReadRule → Rule
rule_of r = record { action = r.action; regex = get_or (regexes r.items) 0 empty }

-- Its regex has the items that were read.
abbrev SameItems : ReadRule → Type 0
SameItems r = regex_items_of (rule_of r).regex ≡ r.items

same_actions : (rules : List ReadRule) → map (λ r. r.action) (map rule_of rules) ≡ map (λ r. r.action) rules
same_actions [] = refl
same_actions (r ∷ rules) = ap (λ (l : List ℕ). r.action ∷ l) (same_actions rules)

module _ (bytes : List ℕ) (tokens : ℕ) where
  rule_items : (allowed : Allowance) (at : ℕ) → Outcome Any (λ r end. SameItems r × Unit) (read_rule bytes tokens allowed at)
  unfolding read_rule
  rule_items allowed at =
      then_outcome (field-inside (between 0 tokens) bytes at)
      (λ action next f. go action next (regex_items bytes allowed.nodes allowed.classes 1 next) refl)
    where
      go : (action next : ℕ) (m : Reading (List RegexItem)) → regex_items bytes allowed.nodes allowed.classes 1 next ≡ m
          → Outcome Any (λ r end. SameItems r × Unit)
          (and_then m (λ items end. got (record { place = at; action = action; items = items }) end))
      go action next (stop q p) e = outcome.refused q p tt
      go action next (got items end) e =
          accepted _ end (one_regex items (regexes items) (regexes-read bytes allowed.nodes allowed.classes 1 next e), tt)

  row_items : (rules : List ReadRule) (allowed : Allowance) (at end : ℕ)
      → OneAfterOther (λ s from r next. SameItems r) less_rule allowed at rules end
      → items_of_rules (map rule_of rules) ≡ flat_map (λ r. r.items) rules
  unfolding items_of_rules flat_map
  row_items [] allowed at end h = refl
  row_items (r ∷ rules) allowed at end h = ap₂ (λ (k l : List RegexItem). k ++ l) h.1 (row_items rules (less_rule allowed r) h.0 end h.2)

  rules_of_sheet : (allowed : Allowance) (count at : ℕ) {rules : List ReadRule} {end : ℕ}
      → read_many (read_rule bytes tokens) less_rule allowed count at ≡ got rules end → RulesFit (with_all with_rule no_rules rules)
      → RulesOf (with_all with_rule no_rules rules) (map rule_of rules) (map (λ r. r.place) rules)
  rules_of_sheet allowed count at {rules} {end} e f =
      let o = outcome_got (many_outcome Any (λ p. Unit) (λ s from r next. SameItems r) (read_rule bytes tokens) less_rule
      (λ s from i. rule_items s from) count allowed at tt) e in
      rw (same_actions rules, row_items rules allowed at end o.1) (all_rules-held rules f)

  nodes_of_sheet : (at : ℕ) {nodes : List ReadNode} {end : ℕ}
      → expression_nodes bytes tokens most_expression_nodes (0 ∷ []) at ≡ got nodes end
      → NodesOf (with_all with_read_node no_nodes nodes) (get_or (expressions (map (λ n. n.item) nodes)) 0 bottom) (map (λ n. n.place) nodes)
  nodes_of_sheet at {nodes} {end} e =
      let o = nodes-read bytes tokens most_expression_nodes (0 ∷ []) at e in
      let items : List ExpressionItem = map (λ n. n.item) nodes in
      rw (one_expression items (expressions items) o.made) (all-nodes-held nodes (omega (arith, o.nodes_most)))

-- ---- the ways through a sheet

module _ (bytes : List ℕ) where
  pub sheet_head : {question place : ℕ} → header bytes ≡ stop question place → Reads (read_sheet bytes) (refused question place)
  sheet_head e = rw (sheet_parts bytes, e) refl

  module _ (h : Counted) {at : ℕ} (e : header bytes ≡ got h at) where
    pub sheet_rules : {question place : ℕ} → rules_part bytes h at ≡ stop question place → Reads (read_sheet bytes) (refused question place)
    sheet_rules f = rw (sheet_parts bytes, e, f) refl

    module _ {rules : List ReadRule} {next : ℕ} (f : rules_part bytes h at ≡ got rules next) where
      pub sheet_nodes : {question place : ℕ} → nodes_part bytes h next ≡ stop question place
          → Reads (read_sheet bytes) (refused question place)
      sheet_nodes g = rw (sheet_parts bytes, e, f, g) refl

      module _ {nodes : List ReadNode} {end : ℕ} (g : nodes_part bytes h next ≡ got nodes end) where
        pub sheet_over : (end ≡ length bytes → ⊥) → Reads (read_sheet bytes) (refused 6 end)
        unfolding at_end
        sheet_over n = rw (sheet_parts bytes, e, f, g, ne_eqb end (length bytes) n) refl

        pub sheet_whole : end ≡ length bytes → RulesFit (with_all with_rule no_rules rules)
            → Reads (read_sheet bytes)
            (Ok (record { tokens = h.tokens; rules = with_all with_rule no_rules rules; nodes = with_all with_read_node no_nodes nodes }))
        unfolding at_end contents
        sheet_whole n fits = rw (sheet_parts bytes, e, f, g, eq-eqb end (length bytes) n) record {
          tokens_held = refl;
          rules_held = rules_of_sheet bytes h.tokens (allowance no_rules) h.rules at f fits;
          nodes_held = nodes_of_sheet bytes h.tokens next g;
        }
