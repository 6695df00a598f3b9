-- A turn of the pass on lists, for each kind of expression.
use mathlib.Core.Path.{◌≡◌, refl, sym, ap, ap₂, ◌∙◌}
use mathlib.Core.Bool.{false}
use mathlib.Core.List.{List, ◌∷◌, ◌++◌, append_assoc, map}
use Prim.Native.Nat.{ℕ, suc, ◌+◌, ◌-◌, ◌^◌, ◌≤◌, ◌<◌}
use native.Mathlib.Numerals.{add-one}
use native.Mathlib.Omega.{arith}
use Rattle.std.specs.Prelude.{Some, None}
use native.Mathlib.Nat.{pow-suc}
use lib.Dec.{ltb}
use lib.ListN.{get_or, set, length-set}
use lib.Seq.{get_or-set_same}
use borrow.Author.Tests.{le-ltb}
use Rattle.sheet.specs.Expression.{Expression, epsilon, bottom, token, sequence, alternative, fixed_point, variable, repetition, size}
use Rattle.sheet.specs.Items.{ExpressionItem, epsilon_item, bottom_item, token_item, sequence_item, alternative_item, fixed_point_item, variable_item, repetition_item}
use Rattle.sheet.specs.laws.ExpressionItems.{expression_items_of}
use Rattle.sheet.specs.WellFormed.{Closed}
use Rattle.types.specs.Nodes.{Node, epsilon_node, bottom_node, token_node, sequence_node, alternative_node, fixed_point_node, repetition_node, Binder, no_binder, guard, nodes_from}
use Rattle.types.specs.NodeNames.{variable_of}
use Rattle.columns.specs.laws.Joining.{joined}
use Rattle.columns.proofs.laws.Joining.{joined_here, joined-below, joined_low}
use Rattle.columns.specs.HeldNodes.{node_of}
use Rattle.node_linker.specs.declared.Due.{Due}
use Rattle.node_linker.specs.Walking.{due, linked}
use Rattle.node_linker.proofs.Parts.{binders, binders-set, binders-guard, binders-at, items_due, nodes_due, DuesFit, dues_on, nodes_due-set}
use Rattle.node_linker.proofs.Completed.{linked_long, completed}
use Rattle.node_linker.proofs.Walked.{Walked, unlinked, relinked}

module _ (tokens : ℕ) (tag : List ℕ) (items : List ExpressionItem) (ns : List Node) (i : ℕ) (link : List ℕ) (guarded : ℕ) (owner : List ℕ)
    (d : Due) (ds : List Due) (gs : List Expression) (small : i < 64) where
  abbrev Before : Expression → Type 0
  Before g = Walked tokens tag items ns i link guarded owner (d ∷ ds) (g ∷ gs)

  abbrev After : List ℕ → ℕ → List ℕ → List Due → List Expression → Type 0
  After = Walked tokens tag items ns (suc i)

  -- The links with this node as its parent's.
  abbrev here_linked : List ℕ
  here_linked = linked link d.parent i

  rest_fit : (g : Expression) → Before g → DuesFit tokens (suc i) d.depth gs ds
  rest_fit g before = dues_on tokens i (suc i) d.depth d.depth gs ds (omega arith) (omega arith) before.fit.1

  leaf_fit : (g : Expression) → Before g → DuesFit tokens (suc i) (suc i) gs ds
  leaf_fit g before =
      dues_on tokens i (suc i) d.depth (suc i) gs ds (omega arith) (omega (arith, before.fit.0.within)) before.fit.1

  stays_low : {g : Expression} → Before g → guarded < 2 ^ suc i
  stays_low before = omega (arith, before.guarded_low, pow-suc 2 i)

  pub walked_epsilon : Before epsilon → get_or tag i 0 ≡ 0 → After here_linked guarded owner ds gs
  unfolding expression_items_of nodes_from size node_of
  walked_epsilon before t = unlinked tokens tag items ns i link guarded owner d ds epsilon gs before small epsilon_item epsilon_node owner ds gs
      refl (ap (λ (n : ℕ). epsilon_node ∷ nodes_due owner n gs ds) (add-one i)) (leaf_fit epsilon before)
      (ap (λ (n : ℕ). completed here_linked n gs ds) (sym (add-one i))) (λ n b. rw t) before.owner_long

  pub walked_bottom : Before bottom → get_or tag i 0 ≡ 1 → After here_linked guarded owner ds gs
  unfolding expression_items_of nodes_from size node_of
  walked_bottom before t = unlinked tokens tag items ns i link guarded owner d ds bottom gs before small bottom_item bottom_node owner ds gs
      refl (ap (λ (n : ℕ). bottom_node ∷ nodes_due owner n gs ds) (add-one i)) (leaf_fit bottom before)
      (ap (λ (n : ℕ). completed here_linked n gs ds) (sym (add-one i))) (λ n b. rw t) before.owner_long

  pub walked_token : (k : ℕ) → Before (token k) → get_or tag i 0 ≡ 2 → After (set here_linked i k) guarded owner ds gs
  unfolding expression_items_of nodes_from size node_of
  walked_token k before t = relinked tokens tag items ns i link guarded owner d ds (token k) gs before small (token_item k) (token_node k) k guarded
      (set here_linked i k) ds gs
      refl (ap (λ (n : ℕ). token_node k ∷ nodes_due owner n gs ds) (add-one i)) (leaf_fit (token k) before)
      (ap (λ (n : ℕ). completed (set here_linked i k) n gs ds) (sym (add-one i))) (λ q l. refl) (rw t) (stays_low before)
      (length-set here_linked i k ∙ linked_long link d.parent i ∙ before.link_long)

  -- The left part and the right part, of whose open fixed points so many are guarded.
  abbrev parts : ℕ → List Due
  parts right_guarded = due d.depth d.guarded None ∷ due d.depth right_guarded (Some i) ∷ ds

  parts_fit : (whole g h : Expression) (right_guarded : ℕ) → Before whole → Closed tokens d.depth g → Closed tokens d.depth h
      → right_guarded ≤ d.depth → DuesFit tokens (suc i) (suc i) (g ∷ h ∷ gs) (parts right_guarded)
  parts_fit whole g h right_guarded before left right l = (
    record {
      closed = left;
      guarded_open = before.fit.0.guarded_open;
      within = omega (arith, before.fit.0.within);
      parent_past = tt;
    },
    (record { closed = right; guarded_open = l; within = omega arith; parent_past = omega arith }, rest_fit whole before),
  )

  parts_completed : (g h : Expression) (right_guarded : ℕ) → completed here_linked (suc i) (g ∷ h ∷ gs) (parts right_guarded)
      ≡ completed (set here_linked i (suc i + size g)) (i + (1 + (size g + size h))) gs ds
  unfolding linked
  parts_completed g h right_guarded =
      (ap (λ (n : ℕ). completed (set here_linked i (suc i + size g)) n gs ds) (omega arith))

  parts_nodes : (x : Node) (g h : Expression) (right_guarded : ℕ) (bs : List Binder) → bs ≡ binders owner d.depth right_guarded
      → (x ∷ (nodes_from g (suc i) (binders owner d.depth d.guarded) ++ nodes_from h (suc i + size g) bs))
      ++ nodes_due owner (i + (1 + (size g + size h))) gs ds
      ≡ x ∷ nodes_due owner (suc i) (g ∷ h ∷ gs) (parts right_guarded)
  parts_nodes x g h right_guarded bs e = ap (λ (l : List Node). x ∷ l)
      (append_assoc (nodes_from g (suc i) (binders owner d.depth d.guarded)) (nodes_from h (suc i + size g) bs) _
      ∙ ap (λ (l : List Node). nodes_from g (suc i) (binders owner d.depth d.guarded) ++ l)
      (ap₂ ◌++◌ (ap (nodes_from h (suc i + size g)) e) (ap (λ (n : ℕ). nodes_due owner n gs ds) (omega arith))))

  pub walked_sequence : (g h : Expression) → Before (sequence g h) → get_or tag i 0 ≡ 3
      → After here_linked guarded owner (parts d.depth) (g ∷ h ∷ gs)
  unfolding expression_items_of nodes_from size node_of
  walked_sequence g h before t = relinked tokens tag items ns i link guarded owner d ds (sequence g h) gs before small sequence_item
      (sequence_node (suc i) (suc i + size g)) (suc i + size g) guarded here_linked (parts d.depth) (g ∷ h ∷ gs)
      (ap (λ (l : List ExpressionItem). sequence_item ∷ l) (append_assoc (expression_items_of g) (expression_items_of h) (items_due gs)))
      (parts_nodes (sequence_node (suc i) (suc i + size g)) g h d.depth (map guard (binders owner d.depth d.guarded))
      (binders-guard owner d.depth d.guarded d.depth (omega arith)))
      (parts_fit (sequence g h) g h d.depth before before.fit.0.closed.0 before.fit.0.closed.1 (omega arith))
      (parts_completed g h d.depth) (λ q l. refl) (rw t) (stays_low before)
      (linked_long link d.parent i ∙ before.link_long)

  pub walked_alternative : (g h : Expression) → Before (alternative g h) → get_or tag i 0 ≡ 4
      → After here_linked guarded owner (parts d.guarded) (g ∷ h ∷ gs)
  unfolding expression_items_of nodes_from size node_of
  walked_alternative g h before t = relinked tokens tag items ns i link guarded owner d ds (alternative g h) gs before small alternative_item
      (alternative_node (suc i) (suc i + size g)) (suc i + size g) guarded here_linked (parts d.guarded) (g ∷ h ∷ gs)
      (ap (λ (l : List ExpressionItem). alternative_item ∷ l) (append_assoc (expression_items_of g) (expression_items_of h) (items_due gs)))
      (parts_nodes (alternative_node (suc i) (suc i + size g)) g h d.guarded (binders owner d.depth d.guarded) refl)
      (parts_fit (alternative g h) g h d.guarded before before.fit.0.closed.0 before.fit.0.closed.1 before.fit.0.guarded_open)
      (parts_completed g h d.guarded) (λ q l. refl) (rw t) (stays_low before)
      (linked_long link d.parent i ∙ before.link_long)

  -- The body, inside one more open fixed point, which is not guarded.
  body_binders : (g : Expression) → Before (fixed_point g)
      → record { node = i; guarded = false } ∷ binders owner d.depth d.guarded ≡ binders (set owner d.depth i) (suc d.depth) d.guarded
  body_binders g before =
      ap₂ ◌∷◌ (rw (get_or-set_same owner d.depth i 0 (omega (arith, before.fit.0.within, before.owner_long)), le-ltb d.depth d.guarded before.fit.0.guarded_open))
      (sym (binders-set owner d.depth d.guarded d.depth i (omega arith)))

  pub walked_fixed_point : (g : Expression) → Before (fixed_point g) → get_or tag i 0 ≡ 5
      → After here_linked guarded (set owner d.depth i) (due (suc d.depth) d.guarded None ∷ ds) (g ∷ gs)
  unfolding expression_items_of nodes_from size node_of linked
  walked_fixed_point g before t = unlinked tokens tag items ns i link guarded owner d ds (fixed_point g) gs before small fixed_point_item
      (fixed_point_node (suc i)) (set owner d.depth i) (due (suc d.depth) d.guarded None ∷ ds) (g ∷ gs)
      refl
      (ap (λ (l : List Node). fixed_point_node (suc i) ∷ l) (ap₂ ◌++◌ (ap (nodes_from g (suc i)) (body_binders g before))
      (ap (λ (n : ℕ). nodes_due owner n gs ds) (omega arith)
      ∙ sym (nodes_due-set tokens i d.depth owner d.depth i (suc i + size g) gs ds (omega arith) before.fit.1)))) (
        record {
          closed = before.fit.0.closed;
          guarded_open = omega (arith, before.fit.0.guarded_open);
          within = omega (arith, before.fit.0.within);
          parent_past = tt;
        },
        dues_on tokens i (suc i) d.depth (suc d.depth) gs ds (omega arith) (omega arith) before.fit.1,
      )
      (ap (λ (n : ℕ). completed here_linked n gs ds) (omega arith)) (λ n b. rw t)
      (length-set owner d.depth i ∙ before.owner_long)

  pub walked_variable : (n : ℕ) → Before (variable n) → get_or tag i 0 ≡ 6
      → After (set here_linked i (get_or owner (d.depth - 1 - n) 0)) (joined (ltb (d.depth - 1 - n) d.guarded) guarded i) owner ds gs
  unfolding expression_items_of nodes_from size node_of
  walked_variable n before t =
      let place = d.depth - 1 - n in
      let v = get_or owner place 0 in
      let b = ltb place d.guarded in
      let x = variable_of (get_or (binders owner d.depth d.guarded) n no_binder) in
      relinked tokens tag items ns i link guarded owner d ds (variable n) gs before small (variable_item n) x v (joined b guarded i)
      (set here_linked i v) ds gs
      refl (ap (λ (k : ℕ). x ∷ nodes_due owner k gs ds) (add-one i)) (leaf_fit (variable n) before)
      (ap (λ (k : ℕ). completed (set here_linked i v) k gs ds) (sym (add-one i))) (joined-below b guarded i)
      (rw (t, joined_here b guarded i before.guarded_low, binders-at owner d.depth d.guarded n before.fit.0.closed))
      (joined_low b guarded i before.guarded_low)
      (length-set here_linked i v ∙ linked_long link d.parent i ∙ before.link_long)

  -- The part, with the same fixed points open, as many of them guarded.
  pub walked_repetition : (g : Expression) → Before (repetition g) → get_or tag i 0 ≡ 7
      → After (set here_linked i i) guarded owner (due d.depth d.guarded None ∷ ds) (g ∷ gs)
  unfolding expression_items_of nodes_from size node_of linked
  walked_repetition g before t = relinked tokens tag items ns i link guarded owner d ds (repetition g) gs before small repetition_item
      (repetition_node (suc i) i) i guarded (set here_linked i i) (due d.depth d.guarded None ∷ ds) (g ∷ gs)
      refl
      (ap (λ (n : ℕ). (repetition_node (suc i) i ∷ nodes_from g (suc i) (binders owner d.depth d.guarded)) ++ nodes_due owner n gs ds) (omega arith)) (
        record {
          closed = before.fit.0.closed;
          guarded_open = before.fit.0.guarded_open;
          within = omega (arith, before.fit.0.within);
          parent_past = tt;
        },
        rest_fit (repetition g) before,
      )
      (ap (λ (n : ℕ). completed (set here_linked i i) n gs ds) (omega arith)) (λ q l. refl) (rw t) (stays_low before)
      (length-set here_linked i i ∙ linked_long link d.parent i ∙ before.link_long)
