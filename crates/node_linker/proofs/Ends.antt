-- The first turn and the end of the pass: what holds before it begins, and that its links are then the definition's.
use mathlib.Core.Path.{◌≡◌, refl, sym, ap, subst, ◌∙◌}
use mathlib.Core.List.{List, [], ◌∷◌, append-nil, map}
use Prim.Native.Nat.{ℕ, ◌+◌, ◌<◌}
use native.Mathlib.Numerals.{add-one}
use native.Mathlib.Omega.{arith}
use lib.ListN.{get_or, take, length, drop_of_length-le, get_or-map}
use lib.Seq.{get_or-take, ext_get_or}
use Rattle.sheet.specs.Expression.{Expression, size}
use Rattle.sheet.specs.Items.{ExpressionItem, epsilon_item}
use Rattle.sheet.specs.laws.ExpressionItems.{expression_items_of, expression_tag}
use Rattle.sheet.proofs.laws.ExpressionItems.{expression_items_length}
use Rattle.columns.specs.Holds.{number_after, NodesOf}
use Rattle.columns.specs.declared.NodeColumns.{NodeColumns}
use Rattle.types.specs.Nodes.{bottom_node, nodes_from, nodes}
use Rattle.types.proofs.laws.NodeLaws.{nodes-length}
use Rattle.columns.proofs.laws.TabulateLaws.{tabulate-length, tabulate-at}
use Rattle.columns.specs.HeldNodes.{held_node, held_nodes}
use Rattle.columns.specs.declared.NodeLinks.{NodeLinks}
use Rattle.node_linker.specs.declared.Due.{Due}
use Rattle.columns.specs.Linked.{SheetExpression, LinksOf}
use Rattle.columns.proofs.laws.HeldOnce.{held_once}
use Rattle.node_linker.proofs.Turn.{Walk, first_walk, whole, walk_step, CanStep}
use Rattle.node_linker.proofs.Parts.{pending}
use Rattle.node_linker.proofs.Completed.{completed}
use Rattle.node_linker.proofs.Walking.{Columns, Walking, none-due, walking_step, walking_can}

-- Columns that hold an expression have the tags and the numbers of its items.
column_at : (f : ExpressionItem → ℕ) (count : ℕ) (column : List ℕ) (items : List ExpressionItem) → f epsilon_item ≡ 0 → count ≡ length items
    → take count column ≡ map f items → (q : ℕ) → q < length items → get_or column q 0 ≡ f (get_or items q epsilon_item)
column_at f count column items none counted e q l =
    sym (get_or-take count column q 0 (omega arith)) ∙ ap (λ (m : List ℕ). get_or m q 0) e
    ∙ ap (get_or (map f items) q) (sym none) ∙ get_or-map f items q epsilon_item

pub columns_of : (c : NodeColumns) (e : Expression) (places : List ℕ) → NodesOf c e places
    → Columns c.tag c.number (expression_items_of e)
unfolding expression_tag number_after
columns_of c e places h = record {
  tags = column_at expression_tag c.count c.tag (expression_items_of e) refl h.nodes h.tags_held;
  numbers = column_at number_after c.count c.number (expression_items_of e) refl h.nodes h.numbers_held;
  most = omega (arith, h.nodes, h.nodes_fit);
}

-- What holds before node i, for the columns of a sheet's expression.
abbrev pub WalkingFor : NodeColumns → ℕ → Walk → Type 0
WalkingFor c i w = (s : SheetExpression c)
    → Walking s.tokens c.tag (expression_items_of s.expression) (nodes s.expression) i w

pub walking_first : (c : NodeColumns) → WalkingFor c 0 (first_walk whole)
unfolding nodes
walking_first c s = record {
  parts = s.expression ∷ [];
  walked = record {
    fit = (record { closed = s.closed; guarded_open = omega arith; within = omega arith; parent_past = tt }, tt);
    items_left = sym (append-nil (expression_items_of s.expression));
    nodes_left = sym (append-nil (nodes_from s.expression 0 []));
    done = λ q l. absurd (omega arith);
    guarded_low = omega arith;
    link_long = refl;
    owner_long = refl;
  };
  stack_long = refl;
  height_small = omega arith;
}

-- A turn of the code, at node i.
module _ (c : NodeColumns) (w : Walk) where
  pub can_walk : (i : ℕ) → WalkingFor c i w → SheetExpression c → i < c.count → CanStep (get_or c.tag i 0) (get_or c.number i 0) i w
  can_walk i h s l = walking_can s.tokens c.tag (expression_items_of s.expression) (nodes s.expression) c.number
      (columns_of c s.expression s.places s.held) i (omega (arith, s.held.nodes)) w (h s)

  pub walk_on : (r : Walk) (i : ℕ) → WalkingFor c i w → i < c.count → r ≡ walk_step (get_or c.tag i 0) (get_or c.number i 0) i w
      → WalkingFor c (i + 1) r
  walk_on r i h l e s = rw (e, add-one i)
      (walking_step s.tokens c.tag (expression_items_of s.expression) (nodes s.expression) c.number
      (columns_of c s.expression s.places s.held) i (omega (arith, s.held.nodes)) w (h s))

  pub walk-ended : (i : ℕ) → WalkingFor c i w → i ≡ c.count → WalkingFor c c.count w
  walk-ended i h e = subst (λ (n : ℕ). WalkingFor c n w) e h

  abbrev links : NodeLinks
  links = record { count = c.count; tag = c.tag; link = w.link; guarded = w.guarded }

  completed_none : (link : List ℕ) (at : ℕ) (gs : List Expression) (ds : List Due) → gs ≡ [] → completed link at gs ds ≡ link
  completed_none link at [] ds e = refl
  completed_none link at (g ∷ gs) ds e = absurd (omega (arith, ap length e))

  -- At the end no right part is still to come.
  all_held : (s : SheetExpression c) → Walking s.tokens c.tag (expression_items_of s.expression) (nodes s.expression) c.count w
      → held_nodes links ≡ nodes s.expression
  unfolding held_nodes nodes
  all_held s h = ext_get_or bottom_node (held_nodes links) (nodes s.expression)
      (tabulate-length (held_node c.tag w.link w.guarded) 0 c.count ∙ counted ∙ sym (nodes-length s.expression 0 []))
      (λ q l. let k : q < c.count = omega (arith, tabulate-length (held_node c.tag w.link w.guarded) 0 c.count) in
      tabulate-at (held_node c.tag w.link w.guarded) bottom_node 0 c.count q k
      ∙ ap (held_node c.tag w.link w.guarded) (omega arith) ∙ done q k)
    where
      items : List ExpressionItem
      items = expression_items_of s.expression

      ended : h.parts ≡ []
      ended = none-due h.parts (sym (drop_of_length-le items {i = c.count} (omega (arith, s.held.nodes))) ∙ h.walked.items_left)

      done : (q : ℕ) → q < c.count → held_node c.tag w.link w.guarded q ≡ get_or (nodes s.expression) q bottom_node
      done q k = ap (λ (l : List ℕ). held_node c.tag l w.guarded q)
          (sym (completed_none w.link c.count h.parts (pending w.stack w.height) ended)) ∙ h.walked.done q k

      counted : c.count ≡ size s.expression
      counted = s.held.nodes ∙ expression_items_length s.expression

  pub walking_last : WalkingFor c c.count w → SheetExpression c → LinksOf c links
  walking_last h s = record {
    as_many = refl;
    counted = λ e places p. p.nodes ∙ expression_items_length e;
    linked = λ e places p. all_held s (h s) ∙ ap nodes (held_once c s.expression e s.places places s.held p);
  }
