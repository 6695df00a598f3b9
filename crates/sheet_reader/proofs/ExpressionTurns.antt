-- The laws of an expression node's turn: each way through it, what it leaves, and how the turns make up the definition's nodes.
use mathlib.Core.Path.{◌≡◌, refl, sym, ap, ap₂, ◌∙◌}
use mathlib.Core.Bool.{Bool, true, false, cond}
use mathlib.Core.List.{List, [], ◌∷◌, ◌++◌}
use mathlib.Core.Logic.{⊎_elim}
use Prim.Native.Nat.{ℕ, zero, suc, ◌+◌, ◌-◌, ◌≤◌, ◌<◌}
use native.Mathlib.Numerals.{add-one}
use native.Mathlib.Omega.{arith}
use lib.Dec.{eqb, ltb, eqb-suc-zero}
use lib.ListN.{length, get_or, set, length-set, replicate}
use lib.Seq.{get_or-set_same, get_or-set_other, set_out}
use Rattle.std.specs.Prelude.{Result, Ok}
use borrow.Author.Tests.{eq-eqb, ne_eqb}
use Rattle.basics.proofs.laws.Order.{compare_cases, lt-or-le}
use Rattle.sheet.specs.Field.{Reading, stop, got, and_then, between}
use Rattle.sheet.proofs.laws.FieldLaws.{Outcome, accepted, then_outcome, outcome_got, true-between}
use Rattle.sheet.proofs.laws.FieldLaws as outcome
use Rattle.sheet.specs.Items.{ExpressionItem, epsilon_item, bottom_item, token_item, sequence_item, alternative_item, fixed_point_item, variable_item, repetition_item, part_depths}
use Rattle.sheet.specs.Reading.{sheet_field, ReadNode, expression_item, expression_nodes}
use Rattle.sheet.specs.laws.ExpressionItems.{expression_tag}
use Rattle.columns.specs.Holds.{number_after}
use Rattle.columns.specs.declared.NodeColumns.{NodeColumns}
use Rattle.sheet_reader.specs.Put.{with_node, with_read_node, Pending, pending, due_from, due_of, next_opened, with_parts, no_nodes}
use Rattle.sheet_reader.specs.Reads.{refused}
use Rattle.sheet_reader.specs.declared.Refusal.{Refusal}
use Rattle.sheet_reader.specs.declared.ExpressionTurn.{ExpressionTurn}
use Rattle.sheet_reader.specs.Turns.{in_range, expression_turn, expression_answer, turned, numbered_answer}
use Rattle.sheet_reader.proofs.Told.{told_stop, told_tag, told_number, told_turn_next}
use Rattle.sheet_reader.proofs.Leading.{in_front}
use Rattle.sheet_reader.proofs.Fields.{below, field_same, field-kept, Any, field-inside, pred_suc}

-- ---- the ways through an expression node

-- A number after its tag is the definition's token or variable.
numbered_is : (make : ℕ → ExpressionItem) (tag : ℕ) → ((k : ℕ) → expression_tag (make k) ≡ tag) → ((k : ℕ) → number_after (make k) ≡ k)
    → (m : Reading ℕ) → numbered_answer tag m ≡ expression_answer (and_then m (λ k end. got (make k) end))
unfolding numbered_answer expression_answer
numbered_is make tag t n (stop q s) = refl
numbered_is make tag t n (got k end) = rw (t k, n k)

plain_is : (item : ExpressionItem) {m : Reading ExpressionItem} {tag next : ℕ} → m ≡ got item next → tag ≡ expression_tag item
    → number_after item ≡ 0 → turned tag 0 next ≡ expression_answer m
unfolding expression_answer
plain_is item e t n = rw (e, t, n)

module _ (bytes : List ℕ) (tokens count opened at : ℕ) where
  pub node_unfit : {question place : ℕ} → sheet_field (between 0 7) bytes at ≡ stop question place
      → expression_turn bytes tokens (64 - count) opened at ≡ stop question place
  unfolding expression_turn
  node_unfit e = rw e

  module _ {tag next : ℕ} (e : sheet_field (between 0 7) bytes at ≡ got tag next) where
    pub node_full : 64 ≤ count → expression_turn bytes tokens (64 - count) opened at ≡ stop 5 at
    unfolding expression_turn
    node_full h = rw (e, eq-eqb (64 - count) 0 (omega arith))

    module _ (h : count < 64) where
      node_tag : expression_turn bytes tokens (64 - count) opened at ≡ expression_item bytes tokens opened at tag next
      unfolding expression_turn
      node_tag = rw (e, ne_eqb (64 - count) 0 (λ z. omega arith))

      -- A token's and a variable's number, with the code's range.
      pub node_token : tag ≡ 2 → numbered_answer 2 (sheet_field (in_range 0 tokens) bytes next)
          ≡ expression_answer (expression_turn bytes tokens (64 - count) opened at)
      unfolding expression_item expression_tag number_after
      node_token t =
          ap (numbered_answer 2) (field_same (below tokens) bytes next)
          ∙ numbered_is token_item 2 (λ k. refl) (λ k. refl) _ ∙ ap expression_answer (sym (node_tag ∙ rw t))

      pub node_variable : tag ≡ 6 → numbered_answer 6 (sheet_field (in_range 0 opened) bytes next)
          ≡ expression_answer (expression_turn bytes tokens (64 - count) opened at)
      unfolding expression_item expression_tag number_after
      node_variable t =
          ap (numbered_answer 6) (field_same (below opened) bytes next)
          ∙ numbered_is variable_item 6 (λ k. refl) (λ k. refl) _ ∙ ap expression_answer (sym (node_tag ∙ rw t))

      pub node_plain : (tag ≡ 2 → ⊥) → (tag ≡ 6 → ⊥) → turned tag 0 next ≡ expression_answer (expression_turn bytes tokens (64 - count) opened at)
      unfolding expression_item expression_tag number_after
      node_plain n2 n6 = go tag refl
        where
          most : tag ≤ 7
          most = (true-between 0 7 tag (field-kept (between 0 7) bytes at e).holds).1

          go : (t : ℕ) → tag ≡ t → turned tag 0 next ≡ expression_answer (expression_turn bytes tokens (64 - count) opened at)
          go zero s = plain_is epsilon_item (node_tag ∙ rw s) s refl
          go (suc zero) s = plain_is bottom_item (node_tag ∙ rw s) s refl
          go (suc (suc zero)) s = absurd (n2 s)
          go (suc (suc (suc zero))) s = plain_is sequence_item (node_tag ∙ rw s) s refl
          go (suc (suc (suc (suc zero)))) s = plain_is alternative_item (node_tag ∙ rw s) s refl
          go (suc (suc (suc (suc (suc zero))))) s = plain_is fixed_point_item (node_tag ∙ rw s) s refl
          go (suc (suc (suc (suc (suc (suc zero)))))) s = absurd (n6 s)
          go (suc (suc (suc (suc (suc (suc (suc zero))))))) s = plain_is repetition_item (node_tag ∙ rw s) s refl
          go (suc (suc (suc (suc (suc (suc (suc (suc t)))))))) s = absurd (omega (arith, most))

-- ---- what a turn's answer tells of what was read

record NodeTold (m : Reading ExpressionItem) (tag number next : ℕ) : Type 0 where
  item : ExpressionItem
  read : m ≡ got item next
  tag_is : tag ≡ expression_tag item
  number_is : number ≡ number_after item

pub node_unread : (m : Reading ExpressionItem) {question place : ℕ} → expression_answer m ≡ refused question place → m ≡ stop question place
unfolding expression_answer
node_unread (stop q s) e = told_stop e
node_unread (got i n) e = cc

node_told : (m : Reading ExpressionItem) {tag number next : ℕ} → expression_answer m ≡ turned tag number next → NodeTold m tag number next
unfolding expression_answer
node_told (stop q s) e = cc
node_told (got i n) {tag} {number} {next} e =
    record { item = i; read = ap (got i) (told_turn_next e); tag_is = sym (told_tag e); number_is = sym (told_number e) }

-- A node was still allowed, and the place after it lies within the bytes.
record ExpressionKept (bytes : List ℕ) (left : ℕ) (item : ExpressionItem) (next : ℕ) : Type 0 where
  node_allowed : 0 < left
  inside : next ≤ length bytes

module _ (bytes : List ℕ) where
  item_keeps : (tokens left opened at tag next : ℕ) → next ≤ length bytes
      → Outcome Any (ExpressionKept bytes (suc left)) (expression_item bytes tokens opened at tag next)
  unfolding expression_item
  item_keeps tokens left opened at tag next h = go (eqb tag 0) (eqb tag 1) (eqb tag 2) (eqb tag 3) (eqb tag 4) (eqb tag 5) (eqb tag 6) (eqb tag 7)
    where
      numbered : (bound : ℕ) (make : ℕ → ExpressionItem)
          → Outcome Any (ExpressionKept bytes (suc left)) (and_then (sheet_field (λ k. ltb k bound) bytes next) (λ k end. got (make k) end))
      numbered bound make =
          then_outcome (field-inside (λ k. ltb k bound) bytes next)
          (λ k end f. accepted (make k) end (record { node_allowed = omega arith; inside = f.inside }))

      plain : (item : ExpressionItem) → Outcome Any (ExpressionKept bytes (suc left)) (got item next)
      plain item = accepted item next (record { node_allowed = omega arith; inside = h })

      go : (a b d f g i j k : Bool) → Outcome Any (ExpressionKept bytes (suc left))
          (cond a (got epsilon_item next) (cond b (got bottom_item next)
          (cond d (and_then (sheet_field (λ k. ltb k tokens) bytes next) (λ k end. got (token_item k) end))
          (cond f (got sequence_item next) (cond g (got alternative_item next) (cond i (got fixed_point_item next)
          (cond j (and_then (sheet_field (λ n. ltb n opened) bytes next) (λ n end. got (variable_item n) end))
          (cond k (got repetition_item next) (stop 4 at)))))))))
      go true b d f g i j k = plain epsilon_item
      go false true d f g i j k = plain bottom_item
      go false false true f g i j k = numbered tokens token_item
      go false false false true g i j k = plain sequence_item
      go false false false false true i j k = plain alternative_item
      go false false false false false true j k = plain fixed_point_item
      go false false false false false false true k = numbered opened variable_item
      go false false false false false false false true = plain repetition_item
      go false false false false false false false false = outcome.refused 4 at tt

  turn_keeps : (tokens left opened at : ℕ) → Outcome Any (ExpressionKept bytes left) (expression_turn bytes tokens left opened at)
  unfolding expression_turn
  turn_keeps tokens zero opened at = then_outcome (field-inside (between 0 7) bytes at) (λ tag next f. outcome.refused 5 at tt)
  turn_keeps tokens (suc left) opened at =
      rw (eqb-suc-zero left)
      (then_outcome (field-inside (between 0 7) bytes at) (λ tag next f. item_keeps tokens left opened at tag next f.inside))

-- A turn that was read found room for its node.
pub turn_room : (bytes : List ℕ) (tokens opened at : ℕ) {count : ℕ} {r : Result ExpressionTurn Refusal} {turn : ExpressionTurn}
    → r ≡ expression_answer (expression_turn bytes tokens (64 - count) opened at) → r ≡ Ok turn → count < 64
turn_room bytes tokens opened at {count} h e =
    omega (arith, (outcome_got (turn_keeps bytes tokens (64 - count) opened at) (node_told _ (sym h ∙ e)).read).node_allowed)

-- ---- the expressions due

-- One, with no fixed point open.
abbrev pub one_pending : Pending
one_pending = pending 1 (replicate 65 0)

-- They fit: each node read so far adds at most one, as it opens at most one fixed point.
pub record PendingFit (c : NodeColumns) (p : Pending) : Type 0 where
  pub nodes : c.count ≤ 64
  pub due : p.count ≤ c.count + 1
  pub opened : (i : ℕ) → get_or p.opened i 0 ≤ c.count
  pub entries : length p.opened ≡ 65

-- A store past the top is not among them.
due-set : (n : ℕ) (l : List ℕ) (i x : ℕ) → n ≤ i → due_from n (set l i x) ≡ due_from n l
unfolding due_from
due-set zero l i x h = refl
due-set (suc n) l i x h = ap₂ ◌∷◌ (get_or-set_other l i n x 0 (λ e. omega arith)) (due-set n l i x (omega arith))

module _ (p : Pending) (some : 0 < p.count) where
  -- What is due after the next one.
  abbrev others : List ℕ
  others = due_from (p.count - 1) p.opened

  due_first : due_of p ≡ next_opened p ∷ others
  unfolding due_from
  due_first = let e : p.count ≡ suc (p.count - 1) = omega arith in ap (λ (n : ℕ). due_from n p.opened) e

  module _ (room : p.count < length p.opened) where
    one_more : due_from p.count (set p.opened (p.count - 1) (next_opened p + 1)) ≡ suc (next_opened p) ∷ others
    unfolding due_from
    one_more =
        let n = p.count - 1 in
        let e : p.count ≡ suc n = omega arith in
        ap (λ (k : ℕ). due_from k (set p.opened n (next_opened p + 1))) e
        ∙ ap₂ ◌∷◌ (get_or-set_same p.opened n (next_opened p + 1) 0 (omega arith) ∙ add-one (next_opened p))
        (due-set n p.opened n (next_opened p + 1) (omega arith))

    two_more : due_from (p.count + 1) (set p.opened p.count (next_opened p)) ≡ next_opened p ∷ next_opened p ∷ others
    unfolding due_from
    two_more =
        ap (λ (k : ℕ). due_from k (set p.opened p.count (next_opened p))) (add-one p.count)
        ∙ ap₂ ◌∷◌ (get_or-set_same p.opened p.count (next_opened p) 0 room)
        (due-set p.count p.opened p.count (next_opened p) (omega arith) ∙ due_first)

    due_parts : (item : ExpressionItem) → due_of (with_parts p (expression_tag item)) ≡ part_depths item (next_opened p) ++ others
    unfolding with_parts expression_tag part_depths
    due_parts epsilon_item = refl
    due_parts bottom_item = refl
    due_parts (token_item k) = refl
    due_parts sequence_item = two_more
    due_parts alternative_item = two_more
    due_parts fixed_point_item = one_more
    due_parts (variable_item n) = refl
    due_parts repetition_item = due_first

-- ---- that they fit

set_most : (l : List ℕ) (i x most : ℕ) → x ≤ most → ((j : ℕ) → get_or l j 0 ≤ most) → (j : ℕ) → get_or (set l i x) j 0 ≤ most
set_most l i x most h f j =
    ⊎_elim (λ k. rw (get_or-set_other l i j x 0 (λ e. omega arith)) (f j))
    (⊎_elim (λ e. same e) (λ k. rw (get_or-set_other l i j x 0 (λ e. omega arith)) (f j))) (compare_cases j i)
  where
    same : j ≡ i → get_or (set l i x) j 0 ≤ most
    same e = rw e (⊎_elim (λ k. rw (get_or-set_same l i x 0 k) h) (λ k. rw (set_out l i x k) (f i)) (lt-or-le i (length l)))

module _ (c : NodeColumns) (p : Pending) (tag number at : ℕ) (some : 0 < p.count) (room : c.count < 64) (f : PendingFit c p) where
  -- One expression fewer is due.
  fewer : PendingFit (with_node c tag number at) (record { count = p.count - 1; opened = p.opened })
  fewer = record { nodes = omega arith; due = omega (arith, f.due); opened = λ i. omega (arith, f.opened i); entries = f.entries }

  -- One more is due, as deep as the next one.
  one_added : PendingFit (with_node c tag number at) (record { count = p.count + 1; opened = set p.opened p.count (next_opened p) })
  one_added = record {
    nodes = omega arith;
    due = omega (arith, f.due);
    opened = set_most p.opened p.count (next_opened p) (c.count + 1)
        (omega (arith, f.opened (p.count - 1))) (λ i. omega (arith, f.opened i));
    entries = length-set p.opened p.count (next_opened p) ∙ f.entries;
  }

  -- As many are due, the next one inside one more fixed point.
  deeper : PendingFit (with_node c tag number at) (record { count = p.count; opened = set p.opened (p.count - 1) (next_opened p + 1) })
  deeper = record {
    nodes = omega arith;
    due = omega (arith, f.due);
    opened = set_most p.opened (p.count - 1) (next_opened p + 1) (c.count + 1)
        (omega (arith, f.opened (p.count - 1))) (λ i. omega (arith, f.opened i));
    entries = length-set p.opened (p.count - 1) (next_opened p + 1) ∙ f.entries;
  }

  -- As many are due, each as deep as before.
  as_deep : PendingFit (with_node c tag number at) p
  as_deep = record { nodes = omega arith; due = omega (arith, f.due); opened = λ i. omega (arith, f.opened i); entries = f.entries }

  fit_parts : (item : ExpressionItem) → PendingFit (with_node c tag number at) (with_parts p (expression_tag item))
  unfolding with_parts expression_tag
  fit_parts epsilon_item = fewer
  fit_parts bottom_item = fewer
  fit_parts (token_item k) = fewer
  fit_parts sequence_item = one_added
  fit_parts alternative_item = one_added
  fit_parts fixed_point_item = deeper
  fit_parts (variable_item n) = fewer
  fit_parts repetition_item = as_deep

-- What the parts of a node ask of the expressions due.
pub parts-room : (c : NodeColumns) (p : Pending) → c.count < 64 → 0 < p.count → PendingFit c p
    → (0 < p.count) × (p.count ≤ 64) × (get_or p.opened (p.count - 1) 0 ≤ 64)
parts-room c p h some f = (some, omega (arith, f.due), omega (arith, f.opened (p.count - 1)))

zeros : (n i : ℕ) → get_or (replicate n 0) i 0 ≤ 0
zeros zero i = omega arith
zeros (suc n) zero = omega arith
zeros (suc n) (suc i) = zeros n i

pub start_fits : {c : NodeColumns} {p : Pending} → c ≡ no_nodes → p ≡ one_pending → PendingFit c p
start_fits e h = rw (e, h) record { nodes = omega arith; due = omega arith; opened = zeros 65; entries = refl }

-- ---- the turns make up the definition's nodes

abbrev read_node : ℕ → ExpressionItem → ReadNode
read_node at item = record { place = at; item = item }

nodes-turn : (bytes : List ℕ) (tokens left opened : ℕ) (due : List ℕ) (at : ℕ) → expression_nodes bytes tokens left (opened ∷ due) at
    ≡ and_then (expression_turn bytes tokens left opened at)
    (λ item after. and_then (expression_nodes bytes tokens (left - 1) (part_depths item opened ++ due) after) (in_front (read_node at item)))
unfolding expression_nodes expression_turn
nodes-turn bytes tokens zero opened due at = go (sheet_field (between 0 7) bytes at)
  where
    go : (m : Reading ℕ) → ◌≡◌ {A = Reading (List ReadNode)} (and_then m (λ tag next. stop 5 at))
        (and_then (and_then m (λ tag next. stop 5 at))
        (λ item after. and_then (expression_nodes bytes tokens (zero - 1) (part_depths item opened ++ due) after) (in_front (read_node at item))))
    go (stop q p) = refl
    go (got tag next) = refl
nodes-turn bytes tokens (suc left) opened due at = simp (eqb-suc-zero, pred_suc) (go (sheet_field (between 0 7) bytes at))
  where
    go : (m : Reading ℕ)
        → ◌≡◌ {A = Reading (List ReadNode)} (and_then m (λ tag next. and_then (expression_item bytes tokens opened at tag next)
        (λ item after. and_then (expression_nodes bytes tokens left (part_depths item opened ++ due) after) (in_front (read_node at item)))))
        (and_then (and_then m (λ tag next. expression_item bytes tokens opened at tag next))
        (λ item after. and_then (expression_nodes bytes tokens left (part_depths item opened ++ due) after) (in_front (read_node at item))))
    go (stop q p) = refl
    go (got tag next) = refl

module _ (bytes : List ℕ) (tokens : ℕ) (c : NodeColumns) (p : Pending) (at : ℕ) where
  abbrev pub node_from : Reading ExpressionItem
  node_from = expression_turn bytes tokens (64 - c.count) (next_opened p) at

  abbrev pub nodes_still : Reading (List ReadNode)
  nodes_still = expression_nodes bytes tokens (64 - c.count) (due_of p) at

  pub nodes-whole : c ≡ no_nodes → p ≡ one_pending → nodes_still ≡ expression_nodes bytes tokens 64 (0 ∷ []) at
  unfolding due_from
  nodes-whole e h = rw (e, h)

  pub nodes_end : p.count ≡ 0 → nodes_still ≡ got [] at
  unfolding expression_nodes due_from
  nodes_end e = rw e (go (64 - c.count))
    where
      go : (left : ℕ) → expression_nodes bytes tokens left [] at ≡ got [] at
      go zero = refl
      go (suc left) = refl

  module _ (some : 0 < p.count) where
    first_node : nodes_still ≡ expression_nodes bytes tokens (64 - c.count) (next_opened p ∷ due_from (p.count - 1) p.opened) at
    first_node = ap (λ (l : List ℕ). expression_nodes bytes tokens (64 - c.count) l at) (due_first p some)

    pub nodes_stop : {question place : ℕ} → node_from ≡ stop question place → nodes_still ≡ stop question place
    nodes_stop e = first_node ∙ nodes-turn bytes tokens (64 - c.count) (next_opened p) (due_from (p.count - 1) p.opened) at ∙ rw e

-- How it goes on after a node, from the columns d with the expressions q due.
pub record NodesAgain (bytes : List ℕ) (tokens : ℕ) (c : NodeColumns) (p : Pending) (at : ℕ) (d : NodeColumns) (q : Pending) (next : ℕ) : Type 0 where
  pub node : ReadNode
  pub inside : next ≤ length bytes
  pub fits : PendingFit d q
  pub put : d ≡ with_read_node c node
  pub rest : nodes_still bytes tokens c p at ≡ and_then (nodes_still bytes tokens d q next) (in_front node)

module _ (bytes : List ℕ) (tokens : ℕ) (c : NodeColumns) (p : Pending) (at : ℕ) where
  node_kept : {item : ExpressionItem} {next : ℕ} → node_from bytes tokens c p at ≡ got item next → ExpressionKept bytes (64 - c.count) item next
  node_kept e = outcome_got (turn_keeps bytes tokens (64 - c.count) (next_opened p) at) e

  after_node : {item : ExpressionItem} {next : ℕ} {d : NodeColumns} {q : Pending} → 0 < p.count → PendingFit c p
      → node_from bytes tokens c p at ≡ got item next
      → d ≡ with_node c (expression_tag item) (number_after item) at → q ≡ with_parts p (expression_tag item)
      → NodesAgain bytes tokens c p at d q next
  unfolding with_read_node
  after_node {item} some f e h k =
      let room : c.count < 64 = omega (arith, (node_kept e).node_allowed) in
      let left : 64 - c.count - 1 ≡ 64 - (c.count + 1) = omega arith in
      let parts = due_parts p some (omega (arith, f.due, f.entries)) item in
      rw (h, k) record {
        node = read_node at item;
        inside = (node_kept e).inside;
        fits = fit_parts c p _ _ at some room f item;
        put = refl;
        rest = first_node bytes tokens c p at some
            ∙ nodes-turn bytes tokens (64 - c.count) (next_opened p) (due_from (p.count - 1) p.opened) at ∙ rw (e, left, ← parts);
      }

  module _ {tag number next : ℕ} (told : expression_answer (node_from bytes tokens c p at) ≡ turned tag number next) where
    pub node_again : {q : Pending} → 0 < p.count → PendingFit c p → q ≡ with_parts p tag
        → NodesAgain bytes tokens c p at (with_node c tag number at) q next
    node_again some f h =
        let t = node_told (node_from bytes tokens c p at) told in
        after_node some f t.read (ap₂ (λ (a b : ℕ). with_node c a b at) t.tag_is t.number_is) (h ∙ ap (with_parts p) t.tag_is)
