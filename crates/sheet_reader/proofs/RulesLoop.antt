-- How far the rules are read, turn by turn: what a turn's answer tells, and what each arm of the loop over the turns needs.
use mathlib.Core.Path.{◌≡◌, refl, sym, ap, ◌∙◌}
use mathlib.Core.Bool.{cond}
use mathlib.Core.List.{List}
use mathlib.Core.Logic.{⊎_elim}
use Prim.Native.Nat.{ℕ, zero, suc, ◌+◌, ◌-◌, ◌≤◌, ◌<◌}
use native.Mathlib.Omega.{arith}
use lib.Dec.{eqb, eqb-suc-zero}
use lib.ListN.{length}
use Rattle.std.specs.Prelude.{Result, Ok, Err}
use Rattle.basics.proofs.laws.Order.{lt-or-le}
use Rattle.sheet.specs.Field.{Reading, stop, got, between, read_many}
use Rattle.sheet.specs.Items.{RegexItem, empty_item, class_item, concat_item, union_item, star_item, regex_parts, item_classes}
use Rattle.sheet.specs.Reading.{sheet_field, ReadRule, less_rule, read_rule}
use Rattle.columns.specs.declared.RuleColumns.{RuleColumns}
use Rattle.sheet_reader.specs.Put.{with_tag, with_class, with_action, with_item, with_all, with_rule, no_rules}
use Rattle.sheet_reader.specs.Turns.{was_got, node_answer, regex_turn, action_answer, action_turn, rule_turn}
use Rattle.sheet_reader.specs.Answers.{allowance, Answers, RulesFit}
use Rattle.sheet_reader.specs.Reads.{refused}
use Rattle.sheet_reader.specs.declared.Refusal.{Refusal}
use Rattle.sheet_reader.specs.declared.RuleTurn.{RuleTurn}
use Rattle.sheet_reader.specs.declared.RuleTurn.TheVariants.{Action, Class, Plain, Over}
use Rattle.sheet_reader.proofs.Told.{told_stop}
use Rattle.sheet_reader.proofs.Leading.{Leads, leads_start, leads_next, leads_stop, leads_end, was_stopped}
use Rattle.sheet_reader.proofs.RegexTurns.{count_put, turn_from, items_from, items_stop, items_end, Again, turn_again, parts_most, plain_told, class_told, node_kept}
use Rattle.sheet_reader.proofs.Fields.{field-kept}
use Rattle.sheet_reader.proofs.RuleTurns.{turn_action, turn_node, rule_unfit, rule-goes, action_fits, no_rules_fit, rules_from, rules-whole, rules_stop, rules_end, rules_again}

-- ---- what a turn's answer tells of what was read

-- An action, a node, or neither.
abbrev kind : Result RuleTurn Refusal → ℕ
kind (Ok (Action action next)) = 0
kind (Ok (Class low high next)) = 1
kind (Ok (Plain tag parts next)) = 1
kind (Ok Over) = 2
kind (Err refusal) = 2

some : (n : ℕ) → 0 < suc n
some n = omega arith

node_kind : (m : Reading RegexItem) → 0 < kind (node_answer m)
unfolding node_answer
node_kind (stop q p) = some 1
node_kind (got empty_item n) = some 0
node_kind (got (class_item low high) n) = some 0
node_kind (got concat_item n) = some 0
node_kind (got union_item n) = some 0
node_kind (got star_item n) = some 0

-- A node is never the end of the rules, and a refusal is its own.
node_on : (m : Reading RegexItem) → node_answer m ≡ Ok Over → ⊥
unfolding node_answer
node_on (stop q p) e = cc
node_on (got empty_item n) e = cc
node_on (got (class_item low high) n) e = cc
node_on (got concat_item n) e = cc
node_on (got union_item n) e = cc
node_on (got star_item n) e = cc

node_stopped : (m : Reading RegexItem) {question place : ℕ} → node_answer m ≡ refused question place → m ≡ stop question place
unfolding node_answer
node_stopped (stop q p) e = told_stop e
node_stopped (got empty_item n) e = cc
node_stopped (got (class_item low high) n) e = cc
node_stopped (got concat_item n) e = cc
node_stopped (got union_item n) e = cc
node_stopped (got star_item n) e = cc

-- What an action's answer tells: rules are left, and how the action was read.
record ActionTold (left : ℕ) (m told : Reading ℕ) : Type 0 where
  some_left : 0 < left
  read : m ≡ told

module _ (bytes : List ℕ) (tokens left at : ℕ) where
  -- By whether rules are left, and what the field is.
  by_left : (P : Result RuleTurn Refusal → Type 0) → (left ≡ 0 → P (Ok Over))
      → (0 < left → P (action_answer (sheet_field (between 0 tokens) bytes at))) → P (action_turn bytes tokens left at)
  unfolding action_turn
  by_left P over on = go left over on
    where
      go : (n : ℕ) → (n ≡ 0 → P (Ok Over)) → (0 < n → P (action_answer (sheet_field (between 0 tokens) bytes at)))
          → P (cond (eqb n 0) (Ok Over) (action_answer (sheet_field (between 0 tokens) bytes at)))
      go zero over on = over refl
      go (suc n) over on = rw (eqb-suc-zero n) (on (some n))

  action_kind : kind (action_turn bytes tokens left at) ≡ 1 → ⊥
  unfolding action_answer
  action_kind = by_left (λ t. kind t ≡ 1 → ⊥) (λ h e. absurd (omega arith)) (λ h. go (sheet_field (between 0 tokens) bytes at))
    where
      go : (m : Reading ℕ) → kind (action_answer m) ≡ 1 → ⊥
      go (stop q p) e = let z : ◌≡◌ {A = ℕ} 2 1 = e in absurd (omega arith)
      go (got a n) e = let z : ◌≡◌ {A = ℕ} 0 1 = e in absurd (omega arith)

  action_told : {action next : ℕ} → action_turn bytes tokens left at ≡ Ok (Action action next)
      → ActionTold left (sheet_field (between 0 tokens) bytes at) (got action next)
  unfolding action_answer
  action_told {action} {next} = by_left
      (λ t. t ≡ Ok (Action action next) → ActionTold left (sheet_field (between 0 tokens) bytes at) (got action next))
      (λ h e. cc) (λ h. go (sheet_field (between 0 tokens) bytes at) h)
    where
      go : (m : Reading ℕ) → 0 < left → action_answer m ≡ Ok (Action action next) → ActionTold left m (got action next)
      go (stop q p) h e = cc
      go (got a n) h e = record { some_left = h; read = cc }

  action_stopped : {question place : ℕ} → action_turn bytes tokens left at ≡ refused question place
      → ActionTold left (sheet_field (between 0 tokens) bytes at) (stop question place)
  unfolding action_answer
  action_stopped {question} {place} = by_left
      (λ t. t ≡ refused question place → ActionTold left (sheet_field (between 0 tokens) bytes at) (stop question place))
      (λ h e. cc) (λ h. go (sheet_field (between 0 tokens) bytes at) h)
    where
      go : (m : Reading ℕ) → 0 < left → action_answer m ≡ refused question place → ActionTold left m (stop question place)
      go (stop q p) h e = record { some_left = h; read = told_stop e }
      go (got a n) h e = cc

  action_over : action_turn bytes tokens left at ≡ Ok Over → left ≡ 0
  unfolding action_answer
  action_over = by_left (λ t. t ≡ Ok Over → left ≡ 0) (λ h e. h) (λ h. go (sheet_field (between 0 tokens) bytes at))
    where
      go : (m : Reading ℕ) → action_answer m ≡ Ok Over → left ≡ 0
      go (stop q p) e = cc
      go (got a n) e = cc

  module _ (due nodes classes : ℕ) {r : Result RuleTurn Refusal} (e : r ≡ rule_turn bytes tokens left due nodes classes at) where
    node_some : kind r ≡ 1 → 0 < due
    node_some k =
        ⊎_elim (λ h. h)
        (λ h. absurd (action_kind (ap kind (turn_action bytes tokens left at due nodes classes (omega arith) ∙ sym e) ∙ k))) (lt-or-le 0 due)

    node_read : 0 < due → node_answer (regex_turn bytes nodes classes at) ≡ r
    node_read h = turn_node bytes tokens left at due nodes classes (λ z. omega arith) ∙ sym e

    action_due : kind r ≡ 0 → due ≡ 0
    action_due k =
        ⊎_elim (λ h. absurd (omega (arith, node_kind (regex_turn bytes nodes classes at), ap kind (node_read h), k)))
        (λ h. omega arith) (lt-or-le 0 due)

-- ---- how far the rules are read

module _ (bytes : List ℕ) (tokens count : ℕ) (whole : Reading (List ReadRule)) (place due : ℕ) (c : RuleColumns) where
  -- Between two rules; or in one, whose action is read and whose regex still has some due.
  pub data Reached : Type 0 where
    between_rules : due ≡ 0 → Leads with_rule (length bytes) (rules_from bytes tokens count c place) c whole no_rules → Reached
    in_rule : (start : RuleColumns) (from action after : ℕ) → start.count < count → sheet_field (between 0 tokens) bytes from ≡ got action after
        → Leads with_rule (length bytes) (rules_from bytes tokens count start from) start whole no_rules
        → Leads with_item (length bytes) (items_from bytes c place due) c (items_from bytes (with_action start action from) after 1)
        (with_action start action from)
        → Reached

  pub record RulesSoFar : Type 0 where
    pub inside : place ≤ length bytes
    pub due_few : due ≤ c.items + 1
    pub rules_few : c.count ≤ count
    pub fits : RulesFit c
    pub reached : Reached

-- All of them.
abbrev pub all_rules : List ℕ → ℕ → ℕ → ℕ → Reading (List ReadRule)
all_rules bytes tokens count at = read_many (read_rule bytes tokens) less_rule (allowance no_rules) count at

pub so_far-start : (bytes : List ℕ) (tokens count at : ℕ) {c : RuleColumns} → at ≤ length bytes → c ≡ no_rules
    → RulesSoFar bytes tokens count (all_rules bytes tokens count at) at 0 c
so_far-start bytes tokens count at {c} h e = record {
  inside = h;
  due_few = omega arith;
  rules_few = omega (arith, ap (λ (x : RuleColumns). x.count) e);
  fits = no_rules_fit e;
  reached = between_rules refl (leads_start (rules-whole bytes tokens count c at e) e);
}

module _ {bytes : List ℕ} {tokens count : ℕ} {whole : Reading (List ReadRule)} {place due : ℕ} {c : RuleColumns}
    (so_far : RulesSoFar bytes tokens count whole place due c) where
  -- Where no regex is due, a rule is read whole.
  between_now : due ≡ 0 → Leads with_rule (length bytes) (rules_from bytes tokens count c place) c whole no_rules
  between_now e = go so_far.reached
    where
      go : Reached bytes tokens count whole place due c → Leads with_rule (length bytes) (rules_from bytes tokens count c place) c whole no_rules
      go (between_rules z l) = l
      go (in_rule start from action after less field rules items) =
          let regex = leads_end items (items_end bytes c place due e) so_far.inside in
          let again = rules_again count less (rule-goes bytes tokens start from field refl regex) refl in
          leads_next rules again.rest again.put

  -- A regex that stops, stops the rules.
  regex_stops : {question at : ℕ} → 0 < due → turn_from bytes c place ≡ stop question at
      → Answers (with_all with_rule) (length bytes) whole no_rules (refused question at)
  regex_stops {question} {at} h e = go so_far.reached
    where
      go : Reached bytes tokens count whole place due c → Answers (with_all with_rule) (length bytes) whole no_rules (refused question at)
      go (between_rules z l) = absurd (omega arith)
      go (in_rule start from action after less field rules items) =
          let regex = leads_stop items (items_stop bytes c place due h e) refl in
          let rule = was_stopped (rule-goes bytes tokens start from field refl regex) refl in
          leads_stop rules (rules_stop bytes tokens count start from less rule) refl

  item_goes : {item : RegexItem} {next d : ℕ} {p : RuleColumns} → 0 < due → turn_from bytes c place ≡ got item next → p ≡ with_item c item
      → d ≡ due - 1 + regex_parts item → RulesSoFar bytes tokens count whole next d p
  item_goes {item} {next} {d} {p} h e k n = record {
    inside = again.inside;
    due_few = again.due_few;
    rules_few = omega (arith, so_far.rules_few, ap (λ (x : RuleColumns). x.count) k, count_put c item);
    fits = again.fits;
    reached = go so_far.reached;
  }
    where
      again : Again bytes c place due item p d next
      again = turn_again bytes c place due h so_far.due_few so_far.fits e k n

      go : Reached bytes tokens count whole place due c → Reached bytes tokens count whole next d p
      go (between_rules z l) = absurd (omega arith)
      go (in_rule start from action after less field rules items) =
          in_rule start from action after less field rules (leads_next items again.rest k)

-- What each arm of the loop over the parts of rules needs: room for what it stores, and how far the rules are then read.
pub record ActionGoes (bytes : List ℕ) (tokens count : ℕ) (whole : Reading (List ReadRule)) (place : ℕ) (c : RuleColumns) (action next : ℕ)
    : Type 0 where
  pub room : c.count < count
  pub goes : RulesSoFar bytes tokens count whole next 1 (with_action c action place)

pub record NodeGoes (bytes : List ℕ) (tokens count : ℕ) (whole : Reading (List ReadRule)) (due : ℕ) (c : RuleColumns) (classes next d : ℕ) (p : RuleColumns)
    : Type 0 where
  pub some_due : 0 < due
  pub due_most : d ≤ due + 1
  pub room : c.items < 256
  pub class_room : c.classes + classes ≤ 64
  pub goes : RulesSoFar bytes tokens count whole next d p

module _ {bytes : List ℕ} {tokens count : ℕ} {whole : Reading (List ReadRule)} {place due : ℕ} {c : RuleColumns}
    (so_far : RulesSoFar bytes tokens count whole place due c)
    {r : Result RuleTurn Refusal} (e : r ≡ rule_turn bytes tokens (count - c.count) due (256 - c.items) (64 - c.classes) place) where
  pub turn_over : {t : RuleTurn} → r ≡ Ok t → t ≡ Over → Answers (with_all with_rule) (length bytes) whole no_rules (was_got c place)
  turn_over k f = ⊎_elim (λ l. absurd (node_on (turn_from bytes c place) (at_node l))) (λ l. at_action (omega arith)) (lt-or-le 0 due)
    where
      h : r ≡ Ok Over
      h = k ∙ ap Ok f

      at_node : 0 < due → node_answer (turn_from bytes c place) ≡ Ok Over
      at_node l = node_read bytes tokens (count - c.count) place due _ _ e l ∙ h

      at_action : due ≡ 0 → Answers (with_all with_rule) (length bytes) whole no_rules (was_got c place)
      at_action z =
          let none = action_over bytes tokens (count - c.count) place (turn_action bytes tokens (count - c.count) place due _ _ z ∙ sym e ∙ h) in
          leads_end (between_now so_far z) (rules_end bytes tokens count c place (omega (arith, none))) so_far.inside

  pub turn_stops : {question at : ℕ} → r ≡ refused question at → Answers (with_all with_rule) (length bytes) whole no_rules (refused question at)
  turn_stops {question} {at} h = ⊎_elim (λ l. at_node l) (λ l. at_action (omega arith)) (lt-or-le 0 due)
    where
      at_node : 0 < due → Answers (with_all with_rule) (length bytes) whole no_rules (refused question at)
      at_node l = regex_stops so_far l (node_stopped (turn_from bytes c place) (node_read bytes tokens (count - c.count) place due _ _ e l ∙ h))

      at_action : due ≡ 0 → Answers (with_all with_rule) (length bytes) whole no_rules (refused question at)
      at_action z =
          let t = action_stopped bytes tokens (count - c.count) place (turn_action bytes tokens (count - c.count) place due _ _ z ∙ sym e ∙ h) in
          let rule = was_stopped (rule_unfit bytes tokens c place {most = length bytes} t.read) refl in
          leads_stop (between_now so_far z) (rules_stop bytes tokens count c place (omega (arith, t.some_left)) rule) refl

  pub turn_acts : count ≤ 32 → {t : RuleTurn} {action next : ℕ} → r ≡ Ok t → t ≡ Action action next → ActionGoes bytes tokens count whole place c action next
  turn_acts most {action = action} {next = next} k f =
      let h = k ∙ ap Ok f in
      let z = action_due bytes tokens (count - c.count) place due _ _ e (ap kind h) in
      let t = action_told bytes tokens (count - c.count) place (turn_action bytes tokens (count - c.count) place due _ _ z ∙ sym e ∙ h) in
      let room : c.count < count = omega (arith, t.some_left) in record {
        room = room;
        goes = record {
          inside = (field-kept (between 0 tokens) bytes place t.read).inside;
          due_few = omega arith;
          rules_few = omega arith;
          fits = action_fits c action place refl (omega arith) so_far.fits;
          reached = in_rule c place action next room t.read (between_now so_far z) (leads_start refl refl);
        };
      }

  node_goes : {item : RegexItem} {next d : ℕ} {p : RuleColumns} → 0 < due → turn_from bytes c place ≡ got item next → p ≡ with_item c item
      → d ≡ due - 1 + regex_parts item → NodeGoes bytes tokens count whole due c (item_classes item) next d p
  node_goes {item} some read put n =
      let k = node_kept bytes (256 - c.items) (64 - c.classes) place read in record {
        some_due = some;
        due_most = omega (arith, n, parts_most item);
        room = omega (arith, k.node_allowed);
        class_room = omega (arith, k.class_allowed, so_far.fits.classes);
        goes = item_goes so_far some read put n;
      }

  pub class_goes : {t : RuleTurn} {low high next : ℕ} → r ≡ Ok t → t ≡ Class low high next
      → NodeGoes bytes tokens count whole due c 1 next (due - 1) (with_class (with_tag c 1) low high)
  unfolding regex_parts item_classes with_item
  class_goes {low = low} {high = high} {next = next} k f =
      let h = k ∙ ap Ok f in
      let some_due = node_some bytes tokens (count - c.count) place due _ _ e (ap kind h) in
      let read = class_told (turn_from bytes c place) (node_read bytes tokens (count - c.count) place due _ _ e some_due ∙ h) in
      node_goes some_due read refl (omega arith)

  pub plain_goes : {t : RuleTurn} {tag parts next : ℕ} → r ≡ Ok t → t ≡ Plain tag parts next
      → NodeGoes bytes tokens count whole due c 0 next (due - 1 + parts) (with_tag c tag)
  plain_goes {tag = tag} {parts = parts} {next = next} k f =
      let h = k ∙ ap Ok f in
      let some_due = node_some bytes tokens (count - c.count) place due _ _ e (ap kind h) in
      let t = plain_told (turn_from bytes c place) (node_read bytes tokens (count - c.count) place due _ _ e some_due ∙ h) in
      let n = node_goes some_due t.read (t.put c) (ap (λ (k : ℕ). due - 1 + k) (sym t.parts_are)) in
      record { some_due = some_due; due_most = n.due_most; room = n.room; class_room = omega (arith, so_far.fits.classes); goes = n.goes }
