-- One law a node kind: what the calls that its function makes promise gives what it promises. The node begins with the next token.
use mathlib.Core.Path.{◌≡◌, refl, sym, ap, subst}
use mathlib.Core.Bool.{true, false}
use mathlib.Core.List.{List, ◌∷◌}
use mathlib.Core.Logic.{inl, ⊎_elim}
use Prim.Native.Nat.{ℕ, zero, suc, ◌+◌, ◌-◌, ◌*◌, ◌/◌, ◌%◌, ◌≤◌, ◌<◌}
use native.Mathlib.Omega.{arith}
use lib.ListN.{get_or}
use Rattle.sheet.specs.Expression.{Expression, size}
use Rattle.types.specs.Languages.{HasWord, Begins}
use Rattle.types.specs.NodeLanguages.{language_of}
use Rattle.types.specs.Nodes.{Node, nodes, node_at}
use Rattle.types.specs.Types.{HasType}
use Rattle.recogniser.specs.Descends.{Descent, left, stuck, DescendsAt, Descends, token_taken, sequence_through, sequence_stuck, into_first, into_second, into_body, into_fixed_point, repetition_through, repetition_stuck}
use Rattle.recogniser.proofs.laws.DescentRuns.{repeats_itself}
use Rattle.recogniser.specs.Ranks.{PartsEnd, EndsIn}
use Rattle.descent_table.specs.TableOf.{tag_at, link_at, up_at, PartsUp, TableOf}
use Rattle.descent.specs.Steps.{last, begins_with, AnswerFor, comes_to, fails_at, reads, fails, Pending, none_pending, next_pending, Entering, Leaving, Entered, EnterGives, LeaveGives}
use Rattle.descent.proofs.laws.Parts.{parts_within, word_inside, token_at, sequence_at, alternative_at, fixed_point_at, variable_at, repetition_at, bare_never, token_begins, sequence_begins, alternative_begins, body_begins, variable_begins, part_begins, last-front, begun_some, not_begun}
use Rattle.descent.proofs.After.{pending_same, through_part, through_left, own_call}

module _ (e : Expression) (table tokens : List ℕ) where
  -- The tokens' next entry, where k are left.
  abbrev next : ℕ → ℕ
  next k = get_or tokens (2048 - k) 0

  -- Into a part that begins with the same token.
  part_entering : {root node k rank : ℕ} (part : ℕ) → Entering e table tokens root node k rank → root ≤ part
      → Begins (language_of e part) (next k)
      → Pending e table root part → (m : ℕ) → EndsIn (node_at (nodes e)) m part → m ≤ rank - 1
      → Entering e table tokens root part k (rank - 1)
  part_entering {k = k} {rank = rank} part en l b p m ends enough = record {
    held = record {
      typed = en.held.typed;
      table_held = en.held.table_held;
      all_entries = en.held.all_entries;
      few = en.held.few;
      is_node = word_inside e part (next k ∷ b.0, b.1);
      pending = p;
    };
    some_left = en.some_left;
    begun = b;
    inside = l;
    steps = m;
    ends = ends;
    enough = enough;
    few_ranks = omega (arith, en.few_ranks);
  }

  -- One step of a descent that ends.
  one_step : {root node k rank : ℕ} (en : Entering e table tokens root node k rank)
      → (m : ℕ) × PartsEnd (EndsIn (node_at (nodes e)) m) (node_at (nodes e) node) × (m ≤ rank - 1) × (1 ≤ rank)
  one_step {node = node} {rank = rank} en = go en.steps en.ends en.enough
    where
      go : (i : ℕ) → EndsIn (node_at (nodes e)) i node → i ≤ rank
          → (m : ℕ) × PartsEnd (EndsIn (node_at (nodes e)) m) (node_at (nodes e) node) × (m ≤ rank - 1) × (1 ≤ rank)
      go zero x l = absurd x
      go (suc m) x l = (m, x, omega (arith, l), omega (arith, l))

  module _ (root node falling k rank : ℕ) (z : falling ≡ k * 256 + rank) (en : Entering e table tokens root node k rank) where
    abbrev h : HasType e
    h = en.held.typed

    abbrev t : TableOf e table
    t = en.held.table_held

    abbrev is_node : node < size e
    is_node = en.held.is_node

    abbrev up : PartsUp (up_at table) node (node_at (nodes e) node)
    up = t.up_parts node is_node

    most : size e ≤ 64
    most = t.nodes_most

    front : last tokens k ≡ next k ∷ last tokens (k - 1)
    front = last-front tokens k en.held.all_entries en.some_left en.held.few

    at_k : falling / 256 ≡ k
    at_k = omega (arith, z, en.few_ranks)

    pub some_tokens : falling < 256 → ⊥
    some_tokens l = omega (arith, z, l, en.some_left)

    -- The node's own leaving, with fewer tokens left and the rank full again.
    leaving_after : (j : ℕ) → j ≤ 2048 → Leaving e table tokens root node j 255
    leaving_after j l = record {
      held = record { typed = h; table_held = t; all_entries = en.held.all_entries; few = l; is_node = is_node; pending = en.held.pending };
      enough = omega (arith, t.up_below node is_node, is_node, most);
      few_ranks = omega arith;
    }

    at_node : {x : Node} → node_at (nodes e) node ≡ x → (o : Descent) → DescendsAt e x (next k ∷ last tokens (k - 1)) o
        → Descends e node (last tokens k) o
    at_node {x} kind o y = subst (λ (i : Node). DescendsAt e i (last tokens k) o) (sym kind)
        (subst (λ (s : List ℕ). DescendsAt e x s o) (sym front) y)

    at_part : (part : ℕ) (o : Descent) → Descends e part (last tokens k) o → Descends e part (next k ∷ last tokens (k - 1)) o
    at_part part o x = subst (λ (s : List ℕ). Descends e part s o) front x

    pub token_step : tag_at table node ≡ 2 → (r : ℕ) → LeaveGives e table tokens root node (falling / 256 * 256 - 1) r
        → Entered e table tokens root node k r
    token_step g r gives =
        let few = en.held.few in let some = en.some_left in let ranks = en.few_ranks in
        let left_one = gives (k - 1) 255 (omega (arith, z, some, ranks)) (leaving_after (k - 1) (omega (arith, few))) in
        let kind = token_at t node is_node g in
        let c = token_begins h node (link_at table node) (next k) kind en.begun in
        (left_one.0, left_one.1, reads {o = left_one.0} (at_node kind (left (last tokens (k - 1))) (token_taken c)) left_one.2)

    pub sequence_step : tag_at table node ≡ 3 → (r : ℕ) → EnterGives e table tokens root ((node + 1) % 64) (falling - 1) r
        → Entered e table tokens root node k r
    sequence_step g r gives =
        let kind = sequence_at t node is_node g in
        let link = link_at table node in
        let step = one_step en in
        let begun = sequence_begins h node (suc node) link (next k) kind en.begun in
        let within = parts_within e node kind in
        let ups = subst (PartsUp (up_at table) node) kind up in
        let child : (node + 1) % 64 ≡ suc node = omega (arith, within.0, most) in
        let inner = subst (λ i. EnterGives e table tokens root i (falling - 1) r → Entered e table tokens root (suc node) k r) (sym child)
        (λ f. f k (rank - 1) (omega (arith, z, step.3)) (part_entering (suc node) en (omega (arith, en.inside)) begun.0
        (next_pending node ups.0 en.inside (omega (arith, within.1)) ups.1 begun.1 en.held.pending) step.0
        (subst (PartsEnd (EndsIn (node_at (nodes e)) step.0)) kind step.1) step.2)) gives in (
          inner.0,
          inner.1,
          through_left e table root {o = inner.0} en.inside ups.0
              (λ s' o x y. subst (λ (i : Node). DescendsAt e i (last tokens k) o) (sym kind) (sequence_through x y))
              (λ s' x. subst (λ (i : Node). DescendsAt e i (last tokens k) (stuck s')) (sym kind) (sequence_stuck x)) inner.2,
        )

    -- Into the part of an alternative that begins with the next token.
    into_part : (part : ℕ) → root ≤ part → Begins (language_of e part) (next k) → up_at table part ≡ up_at table node
        → (m : ℕ) → EndsIn (node_at (nodes e)) m part → m ≤ rank - 1 → 1 ≤ rank
        → ((o : Descent) → Descends e part (last tokens k) o → Descends e node (last tokens k) o)
        → (r : ℕ) → EnterGives e table tokens root part (falling - 1) r → Entered e table tokens root node k r
    into_part part l b u m ends enough some f r gives =
        let inner = gives k (rank - 1) (omega (arith, z, some))
        (part_entering part en l b (pending_same e table root u en.held.pending) m ends enough) in
        (inner.0, inner.1, through_part e table root u f inner.2)

    pub first-step : tag_at table node ≡ 4 → begins_with table tokens ((node + 1) % 64) (falling / 256) ≡ true → (r : ℕ)
        → EnterGives e table tokens root ((node + 1) % 64) (falling - 1) r → Entered e table tokens root node k r
    first-step g b r gives =
        let kind = alternative_at t node is_node g in
        let step = one_step en in
        let within = parts_within e node kind in
        let ups = subst (PartsUp (up_at table) node) kind up in
        let child : (node + 1) % 64 ≡ suc node = omega (arith, within.0, most) in
        let begun = (begun_some t tokens (suc node) k within.0
        (subst (λ i. begins_with table tokens i k ≡ true) child
        (subst (λ i. begins_with table tokens ((node + 1) % 64) i ≡ true) at_k b))).1 in
        into_part (suc node) (omega (arith, en.inside)) begun ups.0 step.0
        (subst (PartsEnd (EndsIn (node_at (nodes e)) step.0)) kind step.1).0 step.2 step.3
        (λ o x. at_node kind o (into_first (inl begun) (at_part (suc node) o x))) r
        (subst (λ i. EnterGives e table tokens root i (falling - 1) r) child gives)

    pub second-step : tag_at table node ≡ 4 → begins_with table tokens ((node + 1) % 64) (falling / 256) ≡ false → (r : ℕ)
        → EnterGives e table tokens root (link_at table node % 64) (falling - 1) r → Entered e table tokens root node k r
    second-step g b r gives =
        let kind = alternative_at t node is_node g in
        let link = link_at table node in
        let step = one_step en in
        let within = parts_within e node kind in
        let ups = subst (PartsUp (up_at table) node) kind up in
        let child : (node + 1) % 64 ≡ suc node = omega (arith, within.0, most) in
        let other : link % 64 ≡ link = omega (arith, within.2, most) in
        let never = not_begun t tokens (suc node) k within.0
        (subst (λ i. begins_with table tokens i k ≡ false) child (subst (λ i. begins_with table tokens ((node + 1) % 64) i ≡ false) at_k b))
        en.some_left in
        let begun = ⊎_elim (λ x. absurd (never x)) (λ x. x) (alternative_begins h node (suc node) link (next k) kind en.begun) in
        into_part link (omega (arith, en.inside, within.1)) begun ups.1 step.0
        (subst (PartsEnd (EndsIn (node_at (nodes e)) step.0)) kind step.1).1 step.2 step.3
        (λ o x. at_node kind o (into_second (inl begun) (at_part link o x))) r
        (subst (λ i. EnterGives e table tokens root i (falling - 1) r) other gives)

    pub body-step : tag_at table node ≡ 5 → (r : ℕ) → EnterGives e table tokens root ((node + 1) % 64) (falling - 1) r
        → Entered e table tokens root node k r
    body-step g r gives =
        let kind = fixed_point_at t node is_node g in
        let step = one_step en in
        let within = parts_within e node kind in
        let ups = subst (PartsUp (up_at table) node) kind up in
        let child : (node + 1) % 64 ≡ suc node = omega (arith, within, most) in
        let begun = body_begins h node (suc node) (next k) kind en.begun in
        into_part (suc node) (omega (arith, en.inside)) begun ups step.0
        (subst (PartsEnd (EndsIn (node_at (nodes e)) step.0)) kind step.1) step.2 step.3
        (λ o x. at_node kind o (into_body (at_part (suc node) o x))) r
        (subst (λ i. EnterGives e table tokens root i (falling - 1) r) child gives)

    pub part-step : tag_at table node ≡ 7 → (r : ℕ) → EnterGives e table tokens root ((node + 1) % 64) (falling - 1) r
        → Entered e table tokens root node k r
    part-step g r gives =
        let kind = repetition_at t node is_node g in
        let link = link_at table node in
        let step = one_step en in
        let begun = part_begins h node (suc node) link (next k) kind en.begun in
        let within = parts_within e node kind in
        let self : link ≡ node = repeats_itself h.1 node (suc node) link kind in
        let ups = subst (PartsUp (up_at table) node) kind up in
        let child : (node + 1) % 64 ≡ suc node = omega (arith, within, most) in
        let again : HasWord (language_of e link) = subst (λ i. HasWord (language_of e i)) (sym self)
        (next k ∷ en.begun.0, en.begun.1) in
        let inner = subst (λ i. EnterGives e table tokens root i (falling - 1) r → Entered e table tokens root (suc node) k r) (sym child)
        (λ f. f k (rank - 1) (omega (arith, z, step.3)) (part_entering (suc node) en (omega (arith, en.inside)) begun
        (next_pending node ups en.inside (omega (arith, self)) (ap (up_at table) self) again en.held.pending) step.0
        (subst (PartsEnd (EndsIn (node_at (nodes e)) step.0)) kind step.1) step.2)) gives in (
          inner.0,
          inner.1,
          through_left e table root {o = inner.0} en.inside ups
              (λ s' o x y. at_node kind o (repetition_through begun (at_part (suc node) (left s') x) y))
              (λ s' x. at_node kind (stuck s') (repetition_stuck begun (at_part (suc node) (stuck s') x))) inner.2,
        )

    -- The call of a variable's fixed point.
    binder_entering : (f m : ℕ) → Begins (language_of e f) (next k) → EndsIn (node_at (nodes e)) m f → m ≤ rank - 1
        → Entering e table tokens f f k (rank - 1)
    binder_entering f m b ends enough = record {
      held = record {
        typed = h;
        table_held = t;
        all_entries = en.held.all_entries;
        few = en.held.few;
        is_node = word_inside e f (next k ∷ b.0, b.1);
        pending = none_pending (t.up_below f (word_inside e f (next k ∷ b.0, b.1)));
      };
      some_left = en.some_left;
      begun = b;
      inside = omega arith;
      steps = m;
      ends = ends;
      enough = enough;
      few_ranks = omega (arith, en.few_ranks);
    }

    -- What the fixed point's own call answers, as the variable's descent.
    pub called : tag_at table node ≡ 6 → (answer : ℕ) → EnterGives e table tokens (link_at table node % 64) (link_at table node % 64)
        (falling - 1) answer
        → (o : Descent) × AnswerFor tokens answer o × Descends e node (last tokens k) o
    called g answer gives =
        let kind = variable_at t node is_node g in
        let f = link_at table node in
        let step = one_step en in
        let begun = variable_begins h node f (next k) kind.0 kind.1 en.begun in
        let is_f = word_inside e f (next k ∷ begun.0, begun.1) in
        let other : f % 64 ≡ f = omega (arith, is_f, most) in
        let ends = subst (PartsEnd (EndsIn (node_at (nodes e)) step.0)) kind.1 step.1 in
        let inner = subst (λ i. EnterGives e table tokens i i (falling - 1) answer) other gives k (rank - 1) (omega (arith, z, step.3))
        (binder_entering f step.0 begun ends step.2) in (
          inner.0,
          inner.1,
          at_node kind.1 inner.0 (into_fixed_point {o = inner.0} (at_part f inner.0
              (own_call e table f (t.up_below f is_f) {o = inner.0} inner.2))),
        )

    -- Stuck in the call, stuck for good.
    pub variable_stuck : tag_at table node ≡ 6 → (answer : ℕ) → answer % 2 ≡ 1
        → EnterGives e table tokens (link_at table node % 64) (link_at table node % 64) (falling - 1) answer
        → Entered e table tokens root node k answer
    variable_stuck g answer odd gives = let c = called g answer gives in go answer odd c.0 c.1 c.2
      where
        go : (answer : ℕ) → answer % 2 ≡ 1 → (o : Descent) → AnswerFor tokens answer o → Descends e node (last tokens k) o
            → Entered e table tokens root node k answer
        go answer odd o (comes_to j l) x = absurd (omega (arith, odd))
        go answer odd o (fails_at j l) x = (stuck (last tokens j), fails_at j l, fails x)

    -- It comes back, and what comes after the variable goes on.
    pub variable_step : tag_at table node ≡ 6 → (answer : ℕ) → (answer % 2 ≡ 1 → ⊥)
        → EnterGives e table tokens (link_at table node % 64) (link_at table node % 64) (falling - 1) answer
        → (r : ℕ) → LeaveGives e table tokens root node (answer / 2 * 256 + 255) r → Entered e table tokens root node k r
    variable_step g answer even gives = let c = called g answer gives in go answer even c.0 c.1 c.2
      where
        go : (answer : ℕ) → (answer % 2 ≡ 1 → ⊥) → (o : Descent) → AnswerFor tokens answer o → Descends e node (last tokens k) o
            → (r : ℕ) → LeaveGives e table tokens root node (answer / 2 * 256 + 255) r → Entered e table tokens root node k r
        go answer even o (comes_to j l) x r gives =
            let after = gives j 255 (omega arith) (leaving_after j l) in
            (after.0, after.1, reads {o = after.0} x after.2)
        go answer even o (fails_at j l) x r gives = absurd (even (omega arith))

    -- ε and ⊥ begin with no token.
    pub bare_step : {X : Type 0} → (tag_at table node ≡ 2 → ⊥) → (tag_at table node ≡ 3 → ⊥) → (tag_at table node ≡ 4 → ⊥)
        → (tag_at table node ≡ 5 → ⊥) → (tag_at table node ≡ 6 → ⊥) → (tag_at table node ≡ 7 → ⊥) → X
    bare_step n2 n3 n4 n5 n6 n7 = absurd (bare_never h t node (next k) (tag_at table node) is_node refl n2 n3 n4 n5 n6 n7 en.begun)
