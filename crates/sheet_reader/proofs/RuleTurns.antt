-- The laws of reading rules: each way through a rule, what a rule leaves of the allowance, and how rules make up the definition's.
use mathlib.Core.Path.{◌≡◌, refl, sym, ap, ap₂, ◌∙◌}
use mathlib.Core.List.{List, [], ◌∷◌}
use Prim.Native.Nat.{ℕ, zero, suc, ◌+◌, ◌-◌, ◌≤◌, ◌<◌}
use native.Mathlib.Omega.{arith}
use lib.ListN.{length}
use Rattle.std.specs.Prelude.{Result, Ok}
use borrow.Author.Tests.{eq-eqb, ne_eqb}
use Rattle.basics.specs.Lists.{sum}
use Rattle.sheet.specs.Field.{Reading, stop, got, and_then, between, read_many}
use Rattle.sheet.specs.Items.{RegexItem, item_classes}
use Rattle.sheet.specs.Reading.{sheet_field, regex_items, ReadRule, Allowance, less_rule, read_rule}
use Rattle.columns.specs.declared.RuleColumns.{RuleColumns}
use Rattle.sheet_reader.specs.Put.{with_action, with_item, with_all, with_rule, no_rules}
use Rattle.sheet_reader.specs.Turns.{was_got, node_answer, regex_turn, action_answer, action_turn, rule_turn}
use Rattle.sheet_reader.specs.Answers.{allowance, Says, Answers, RulesFit}
use Rattle.sheet_reader.specs.Reads.{refused}
use Rattle.sheet_reader.specs.declared.Refusal.{Refusal}
use Rattle.sheet_reader.specs.declared.Got.{Got}
use Rattle.sheet_reader.specs.declared.RuleTurn.TheVariants.{Action, Over}
use Rattle.sheet_reader.proofs.Leading.{in_front, was_read}
use Rattle.sheet_reader.proofs.RegexTurns.{items_put, classes_put, count_put}

-- ---- the ways through a part of a rule

module _ (bytes : List ℕ) (tokens left at : ℕ) where
  pub actions_over : left ≡ 0 → Ok Over ≡ action_turn bytes tokens left at
  unfolding action_turn
  actions_over e = rw (eq-eqb left 0 e)

  module _ (some : (left ≡ 0 → ⊥)) where
    pub action_unfit : {question place : ℕ} → sheet_field (between 0 tokens) bytes at ≡ stop question place
        → refused question place ≡ action_turn bytes tokens left at
    unfolding action_turn action_answer
    action_unfit e = rw (ne_eqb left 0 some, e)

    pub action_read : {action next : ℕ} → sheet_field (between 0 tokens) bytes at ≡ got action next
        → Ok (Action action next) ≡ action_turn bytes tokens left at
    unfolding action_turn action_answer
    action_read e = rw (ne_eqb left 0 some, e)

  module _ (due nodes classes : ℕ) where
    pub turn_action : due ≡ 0 → action_turn bytes tokens left at ≡ rule_turn bytes tokens left due nodes classes at
    unfolding rule_turn
    turn_action e = rw (eq-eqb due 0 e)

    pub turn_node : (due ≡ 0 → ⊥) → node_answer (regex_turn bytes nodes classes at) ≡ rule_turn bytes tokens left due nodes classes at
    unfolding rule_turn
    turn_node n = rw (ne_eqb due 0 n)

-- ---- the ways through a rule

module _ (bytes : List ℕ) (tokens : ℕ) (c : RuleColumns) (at : ℕ) {most : ℕ} where
  pub rule_unfit : {question place : ℕ} → sheet_field (between 0 tokens) bytes at ≡ stop question place
      → Answers with_rule most (read_rule bytes tokens (allowance c) at) c (refused question place)
  unfolding read_rule
  rule_unfit e = record { says = rw e refl }

  pub rule-goes : {action next : ℕ} {p : RuleColumns} {r : Result (Got RuleColumns) Refusal} → sheet_field (between 0 tokens) bytes at ≡ got action next
      → p ≡ with_action c action at → Answers (with_all with_item) most (regex_items bytes (256 - p.items) (64 - p.classes) 1 next) p r
      → Answers with_rule most (read_rule bytes tokens (allowance c) at) c r
  unfolding read_rule allowance with_rule
  rule-goes {action} {next} {p} {r} e h k =
      record { says = rw e (go (regex_items bytes (256 - c.items) (64 - c.classes) 1 next) (rw h at k.says)) }
    where
      go : (m : Reading (List RegexItem)) → Says (with_all with_item) most m (with_action c action at) r
          → Says with_rule most (and_then m (λ items end. got (record { place = at; action = action; items = items }) end)) c r
      go (stop q p) k = k
      go (got items end) k = k

pub action_fits : (c : RuleColumns) (action at : ℕ) {p : RuleColumns} → p ≡ with_action c action at → c.count < 32 → RulesFit c
    → RulesFit p
action_fits c action at e h f = rw e record { rules = omega arith; nodes = f.nodes; classes = f.classes }

pub no_rules_fit : {c : RuleColumns} → c ≡ no_rules → RulesFit c
no_rules_fit e = rw e record { rules = omega arith; nodes = omega arith; classes = omega arith }

-- ---- what a rule leaves

pub all_items : (c : RuleColumns) (items : List RegexItem) → (with_all with_item c items).items ≡ c.items + length items
unfolding with_all
all_items c [] = omega arith
all_items c (i ∷ items) = omega (arith, all_items (with_item c i) items, items_put c i)

pub all-classes : (c : RuleColumns) (items : List RegexItem) → (with_all with_item c items).classes ≡ c.classes + sum item_classes items
unfolding with_all
all-classes c [] = omega arith
all-classes c (i ∷ items) = omega (arith, all-classes (with_item c i) items, classes_put c i)

all-count : (c : RuleColumns) (items : List RegexItem) → (with_all with_item c items).count ≡ c.count
unfolding with_all
all-count c [] = refl
all-count c (i ∷ items) = all-count (with_item c i) items ∙ count_put c i

pub rule_count : (c : RuleColumns) (r : ReadRule) → (with_rule c r).count ≡ c.count + 1
unfolding with_rule
rule_count c r = all-count (with_action c r.action r.place) r.items

allowance_less : (c : RuleColumns) (r : ReadRule) → less_rule (allowance c) r ≡ allowance (with_rule c r)
unfolding less_rule allowance with_rule
allowance_less c r =
    let p = with_action c r.action r.place in
    let n : 256 - c.items - length r.items ≡ 256 - (with_all with_item p r.items).items = omega (arith, all_items p r.items) in
    let k : 64 - c.classes - sum item_classes r.items ≡ 64 - (with_all with_item p r.items).classes = omega (arith, all-classes p r.items) in
    rw (n, k)

-- ---- the rules make up the definition's

module _ (bytes : List ℕ) (tokens count : ℕ) (c : RuleColumns) (at : ℕ) where
  -- The rules that the columns do not have yet.
  abbrev pub rules_from : Reading (List ReadRule)
  rules_from = read_many (read_rule bytes tokens) less_rule (allowance c) (count - c.count) at

  pub rules-whole : c ≡ no_rules → rules_from ≡ read_many (read_rule bytes tokens) less_rule (allowance no_rules) count at
  rules-whole e =
      let n : count - c.count ≡ count = omega (arith, ap (λ (x : RuleColumns). x.count) e) in
      ap₂ (λ (k : ℕ) (a : Allowance). read_many (read_rule bytes tokens) less_rule a k at) n (ap allowance e)

  pub rules_stop : {question place : ℕ} → c.count < count → read_rule bytes tokens (allowance c) at ≡ stop question place → rules_from
      ≡ stop question place
  unfolding read_many
  rules_stop {question} {place} l e = go (count - c.count) (omega arith)
    where
      go : (n : ℕ) → 0 < n → read_many (read_rule bytes tokens) less_rule (allowance c) n at ≡ stop question place
      go zero h = absurd (omega arith)
      go (suc n) h = rw e

  pub rules_end : count ≤ c.count → rules_from ≡ got [] at
  unfolding read_many
  rules_end l = go (count - c.count) (omega arith)
    where
      go : (n : ℕ) → n ≡ 0 → read_many (read_rule bytes tokens) less_rule (allowance c) n at ≡ got [] at
      go zero h = refl
      go (suc n) h = absurd (omega arith)

  rules_next : {r : ReadRule} {next : ℕ} {p : RuleColumns} → c.count < count → read_rule bytes tokens (allowance c) at ≡ got r next
      → p ≡ with_rule c r → rules_from ≡ and_then (read_many (read_rule bytes tokens) less_rule (allowance p) (count - p.count) next) (in_front r)
  unfolding read_many
  rules_next {r} {next} {p} l e h =
      let n : count - c.count - 1 ≡ count - p.count = omega (arith, ap (λ (x : RuleColumns). x.count) h, rule_count c r) in
      go (count - c.count) (omega arith)
      ∙ ap₂ (λ (n : ℕ) (a : Allowance). and_then (read_many (read_rule bytes tokens) less_rule a n next) (in_front r))
      n (allowance_less c r ∙ sym (ap allowance h))
    where
      go : (n : ℕ) → 0 < n → read_many (read_rule bytes tokens) less_rule (allowance c) n at
          ≡ and_then (read_many (read_rule bytes tokens) less_rule (less_rule (allowance c) r) (n - 1) next) (in_front r)
      go zero h = absurd (omega arith)
      go (suc n) h = let k : suc n - 1 ≡ n = omega arith in rw (e, k)

-- How it goes on after a rule r, from the columns p.
pub record RulesAgain (bytes : List ℕ) (tokens count : ℕ) (c : RuleColumns) (at : ℕ) (p : RuleColumns) (next : ℕ) : Type 0 where
  pub rule : ReadRule
  pub inside : next ≤ length bytes
  pub more : p.count ≡ c.count + 1
  pub put : p ≡ with_rule c rule
  pub rest : rules_from bytes tokens count c at ≡ and_then (rules_from bytes tokens count p next) (in_front rule)

pub rules_again : {bytes : List ℕ} {tokens : ℕ} (count : ℕ) {c : RuleColumns} {at : ℕ} {r : Result (Got RuleColumns) Refusal} {p : RuleColumns} {next : ℕ}
    → c.count < count → Answers with_rule (length bytes) (read_rule bytes tokens (allowance c) at) c r → r ≡ was_got p next → RulesAgain bytes tokens count c at p next
rules_again {bytes} {tokens} count {c} {at} l a e =
    let w = was_read a e in
    record {
      rule = w.what;
      inside = w.inside;
      more = ap (λ (x : RuleColumns). x.count) w.columns ∙ rule_count c w.what;
      put = w.columns;
      rest = rules_next bytes tokens count c at l w.read w.columns;
    }
