-- The laws of the functions that visit a node and leave one, and of the descent from the start.
use mathlib.Core.Path.{◌≡◌, refl, sym, ap, subst, ◌∙◌}
use mathlib.Core.Bool.{Bool, true, false, true≢false}
use mathlib.Core.List.{List, [], ◌∷◌}
use mathlib.Core.Logic.{⊎_elim}
use Prim.Native.Nat.{ℕ, suc, ◌+◌, ◌-◌, ◌*◌, ◌/◌, ◌%◌, ◌≤◌, ◌<◌}
use native.Mathlib.Omega.{arith}
use lib.ListN.{length, get_or}
use Rattle.basics.proofs.laws.Order.{lt-or-le}
use Rattle.sheet.specs.Expression.{Expression, size}
use Rattle.types.specs.Languages.{HasWord}
use Rattle.types.specs.NodeLanguages.{language_of}
use Rattle.types.specs.Nodes.{nodes, node_at}
use Rattle.types.specs.Denotation.{Denotes}
use Rattle.types.specs.Types.{HasType}
use Rattle.types.proofs.laws.NodeRanges.{size_positive}
use Rattle.normal_form.specs.Derives.{derives}
use Rattle.normal_form.specs.RowNames.{derives_at}
use Rattle.normal_form.proofs.laws.DerivesExact.{derives_exact}
use Rattle.normal_form.proofs.laws.NodeLanguages.{start_language}
use Rattle.recogniser.specs.Descends.{Descent, left, stuck, DescendsFromStart, entered, not_entered}
use Rattle.recogniser.specs.Ranks.{EndsIn, most_rank}
use Rattle.recogniser.proofs.laws.Ends.{all_end}
use Rattle.recogniser.proofs.laws.Shortcuts.{NotBegun, leaves_all, stuck_all}
use Rattle.descent_table.specs.TableOf.{link_at, up_at, null_at, TableOf}
use Rattle.descent.specs.Steps.{last, begins_with, stuck_at, AnswerFor, comes_to, fails_at, After, nothing_more, goes_on, fails_on, Through, reads, fails, Pending, none_pending, next_pending, Held, Leaving, Visiting, Entered, Left, EnterGives, VisitGives, LeaveGives, FromStart}
use Rattle.descent.proofs.laws.Parts.{word_inside, last-front, last-none, begun_some, not_begun}
use Rattle.descent.proofs.After.{after_same, pending_same, own_call}

module _ (e : Expression) (table tokens : List ℕ) where
  abbrev next : ℕ → ℕ
  next k = get_or tokens (2048 - k) 0

  -- A node that the next token does not begin.
  untouched : (node k : ℕ) → TableOf e table → length tokens ≡ 2048 → k ≤ 2048 → node < size e → begins_with table tokens node k ≡ false
      → NotBegun e node (last tokens k)
  untouched node k t long few is_node b = ⊎_elim
      (λ some. subst (NotBegun e node) (sym (last-front tokens k long some few)) (not_begun t tokens node k is_node b some))
      (λ none. let z : k ≡ 0 = omega (arith, none) in subst (NotBegun e node) (sym (ap (last tokens) z ∙ last-none tokens long)) tt)
      (lt-or-le 0 k)

  module _ (root node falling k rank : ℕ) (z : falling ≡ k * 256 + rank) (en : Visiting e table tokens root node k rank) where
    abbrev held : Held e table tokens root node k
    held = en.leaving.held

    begins_at : falling / 256 ≡ k
    begins_at = omega (arith, z, en.leaving.few_ranks)

    pub visit_begun : begins_with table tokens node (falling / 256) ≡ true → (r : ℕ) → EnterGives e table tokens root node falling r
        → Entered e table tokens root node k r
    visit_begun b r gives =
        let begun = begun_some held.table_held tokens node k held.is_node
        (subst (λ i. begins_with table tokens node i ≡ true) begins_at b) in
        gives k rank z (record {
          held = held;
          some_left = begun.0;
          begun = begun.1;
          inside = en.inside;
          steps = most_rank;
          ends = all_end held.typed.1 held.table_held.nodes_most node;
          enough = omega (arith, en.leaving.enough);
          few_ranks = en.leaving.few_ranks;
        })

    pub visit_null : begins_with table tokens node (falling / 256) ≡ false → null_at table node ≡ 1 → (r : ℕ)
        → LeaveGives e table tokens root node falling r
        → Entered e table tokens root node k r
    visit_null b n r gives =
        let after = gives k rank z en.leaving in
        let none = untouched node k held.table_held held.all_entries held.few held.is_node
        (subst (λ i. begins_with table tokens node i ≡ false) begins_at b) in (
          after.0,
          after.1,
          reads {o = after.0} (leaves_all held.typed.1 most_rank node
              (all_end held.typed.1 held.table_held.nodes_most node) ((held.table_held.null_held node held.is_node).0 n)
              (last tokens k) none) after.2,
        )

    pub visit_stuck : begins_with table tokens node (falling / 256) ≡ false → (null_at table node ≡ 1 → ⊥)
        → (r : ℕ) → r ≡ stuck_at (falling / 256) → Entered e table tokens root node k r
    visit_stuck b n r y =
        let none = untouched node k held.table_held held.all_entries held.few held.is_node
        (subst (λ i. begins_with table tokens node i ≡ false) begins_at b) in (
          stuck (last tokens k),
          subst (λ i. AnswerFor tokens i (stuck (last tokens k))) (sym (y ∙ ap stuck_at begins_at)) (fails_at k held.few),
          fails (stuck_all held.typed.1 most_rank node (all_end held.typed.1 held.table_held.nodes_most node) en.has_word
              (λ w. n ((held.table_held.null_held node held.is_node).1 w)) (last tokens k) none),
        )

  module _ (root node falling k rank : ℕ) (z : falling ≡ k * 256 + rank) (en : Leaving e table tokens root node k rank) where
    pub leave_some : falling ≡ 0 → ⊥
    leave_some y = omega (arith, z, y, en.enough)

    pub leave_done : up_at table node ≤ root → Left e table tokens root node k (falling / 256 * 2)
    leave_done l =
        let same : falling / 256 ≡ k = omega (arith, z, en.few_ranks) in (
          left (last tokens k),
          subst (λ i. AnswerFor tokens (i * 2) (left (last tokens k))) (sym same)
              (comes_to k en.held.few),
          nothing_more l,
        )

    pub leave_step : (up_at table node ≤ root → ⊥) → (r : ℕ)
        → VisitGives e table tokens root (link_at table ((up_at table node - 1) % 64) % 64) (falling - 1) r
        → Left e table tokens root node k r
    leave_step more r gives = go en.held.pending
      where
        go : Pending e table root node → Left e table tokens root node k r
        go (none_pending l) = absurd (more l)
        go (next_pending p y l order same word pend) =
            let t = en.held.table_held in
            let most = t.nodes_most in
            let is_node = en.held.is_node in
            let below = t.up_below node is_node in
            let is_p : p < size e = omega (arith, y, below, is_node) in
            let above : (up_at table node - 1) % 64 ≡ p = omega (arith, y, is_p, most) in
            let is_next = word_inside e (link_at table p) word in
            let there : link_at table ((up_at table node - 1) % 64) % 64 ≡ link_at table p
            = ap (λ i. link_at table i % 64) above ∙ (let u : link_at table p % 64 ≡ link_at table p = omega (arith, is_next, most) in u) in
            let inner = subst (λ i. VisitGives e table tokens root i (falling - 1) r) there gives k (rank - 1)
            (omega (arith, z, en.enough)) (record {
              leaving = record {
                held = record {
                  typed = en.held.typed;
                  table_held = t;
                  all_entries = en.held.all_entries;
                  few = en.held.few;
                  is_node = is_next;
                  pending = pending_same e table root same pend;
                };
                enough = omega (arith, en.enough, same, t.up_below p is_p, y);
                few_ranks = omega (arith, en.few_ranks);
              };
              inside = omega (arith, l, order);
              has_word = word;
            }) in
            (inner.0, inner.1, resumed p y l same {o = inner.0} inner.2)
          where
            resumed : (p : ℕ) → up_at table node ≡ suc p → root ≤ p → up_at table (link_at table p) ≡ up_at table p
                → {s : List ℕ} {o : Descent}
                → Through e table root (link_at table p) s o → After e table root node s o
            resumed p y l same (reads x a) = goes_on p y l x (after_same e table root (sym same) a)
            resumed p y l same (fails x) = fails_on p y l x

  -- From the start, where the root's own call ends at it.
  module _ (typed : HasType e) (t : TableOf e table) (long : length tokens ≡ 2048) (k : ℕ) (few : k ≤ 2048) where
    abbrev falling : ℕ
    falling = k * 256 + 255

    at_start : falling / 256 ≡ k
    at_start = omega arith

    is_start : 0 < size e
    is_start = size_positive e

    start_ends : EndsIn (node_at (nodes e)) most_rank 0
    start_ends = all_end typed.1 t.nodes_most 0

    denotes : (w : List ℕ) → language_of e 0 w → HasWord (Denotes e)
    denotes w x = (w, subst (λ L. L w) (start_language e) x)

    pub start_begun : begins_with table tokens 0 (falling / 256) ≡ true → (r : ℕ) → EnterGives e table tokens 0 0 falling r
        → FromStart e tokens k r
    start_begun b r gives =
        let begun = begun_some t tokens 0 k is_start (subst (λ i. begins_with table tokens 0 i ≡ true) at_start b) in
        let inner = gives k 255 refl (record {
          held = record {
            typed = typed;
            table_held = t;
            all_entries = long;
            few = few;
            is_node = is_start;
            pending = none_pending (t.up_below 0 is_start);
          };
          some_left = begun.0;
          begun = begun.1;
          inside = omega arith;
          steps = most_rank;
          ends = start_ends;
          enough = omega arith;
          few_ranks = omega arith;
        }) in (
          inner.0,
          inner.1,
          entered (denotes (next k ∷ begun.1.0) begun.1.1)
              (own_call e table 0 (t.up_below 0 is_start) inner.2),
        )

    not_taken : begins_with table tokens 0 (falling / 256) ≡ false → NotBegun e 0 (last tokens k)
    not_taken b = untouched 0 k t long few is_start (subst (λ i. begins_with table tokens 0 i ≡ false) at_start b)

    pub start_null : begins_with table tokens 0 (falling / 256) ≡ false → null_at table 0 ≡ 1 → FromStart e tokens k (k * 2)
    start_null b n = let w = (t.null_held 0 is_start).0 n in (
      left (last tokens k),
      comes_to k few,
      entered (denotes [] w)
          (leaves_all typed.1 most_rank 0 start_ends w (last tokens k) (not_taken b)),
    )

    -- "So a branch that denotes nothing is not entered": nor is the whole.
    pub start_stuck : begins_with table tokens 0 (falling / 256) ≡ false → (null_at table 0 ≡ 1 → ⊥) → (r : ℕ)
        → r ≡ stuck_at (falling / 256)
        → FromStart e tokens k r
    start_stuck b n r y = (
      stuck (last tokens k),
      subst (λ i. AnswerFor tokens i (stuck (last tokens k))) (sym (y ∙ ap stuck_at at_start)) (fails_at k few),
      go (derives_at (derives e) 0) refl,
    )
      where
        go : (q : Bool) → derives_at (derives e) 0 ≡ q → DescendsFromStart e (last tokens k) (stuck (last tokens k))
        go true q = let w = (derives_exact typed.1 0).0 q in
            entered (denotes w.0 w.1) (stuck_all typed.1 most_rank 0 start_ends w (λ x. n ((t.null_held 0 is_start).1 x))
            (last tokens k)
            (not_taken b))
        go false q = not_entered (λ w. true≢false
            (sym ((derives_exact typed.1 0).1 (w.0, subst (λ L. L w.0) (sym (start_language e)) w.1)) ∙ q))
