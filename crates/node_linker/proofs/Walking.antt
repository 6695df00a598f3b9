-- What holds before each turn of the code's pass, from its arrays: the turn stays within them, and keeps it.
use mathlib.Core.Path.{◌≡◌, refl, sym, ap, subst, ◌∙◌}
use mathlib.Core.List.{List, [], ◌∷◌, ◌++◌}
use Prim.Native.Nat.{ℕ, zero, suc, ◌-◌, ◌≤◌, ◌<◌}
use native.Mathlib.Omega.{arith}
use Rattle.std.specs.Prelude.{Some, None}
use Rattle.node_linker.specs.Walking.{ParentBelow}
use Rattle.node_linker.proofs.Parts.{parent_more}
use lib.ListN.{get_or, set, drop, length, length-set, length-append, length-drop}
use Rattle.sheet.specs.Expression.{Expression, epsilon, bottom, token, sequence, alternative, fixed_point, variable, repetition}
use Rattle.sheet.specs.Items.{ExpressionItem, epsilon_item, bottom_item, token_item, sequence_item, alternative_item, fixed_point_item, variable_item, repetition_item}
use Rattle.sheet.specs.laws.ExpressionItems.{expression_items_of, expression_tag}
use Rattle.columns.specs.Holds.{number_after}
use Rattle.types.specs.Nodes.{Node}
use Rattle.node_linker.specs.declared.Due.{Due}
use Rattle.node_linker.specs.Walking.{due, linked, links_after, owners_after, guarded_after, parts_due}
use Rattle.node_linker.proofs.Turn.{Walk, walk, due_at, next_due, stack_with, height_with, step_at, walk_step, CanStep}
use Rattle.node_linker.proofs.Parts.{pending, pending_push, items_due, DuesFit}
use Rattle.node_linker.proofs.Walked.{Walked, drop-head}
use Rattle.node_linker.proofs.Turns.{walked_epsilon, walked_bottom, walked_token, walked_sequence, walked_alternative, walked_fixed_point, walked_variable, walked_repetition}

-- ---- an expression's own item

abbrev own_item : Expression → ExpressionItem
own_item epsilon = epsilon_item
own_item bottom = bottom_item
own_item (token k) = token_item k
own_item (sequence g h) = sequence_item
own_item (alternative g h) = alternative_item
own_item (fixed_point g) = fixed_point_item
own_item (variable n) = variable_item n
own_item (repetition g) = repetition_item

-- It is the first of the items, before those of the parts.
abbrev part_items : Expression → List ExpressionItem
part_items epsilon = []
part_items bottom = []
part_items (token k) = []
part_items (sequence g h) = expression_items_of g ++ expression_items_of h
part_items (alternative g h) = expression_items_of g ++ expression_items_of h
part_items (fixed_point g) = expression_items_of g
part_items (variable n) = []
part_items (repetition g) = expression_items_of g

own-first : (g : Expression) → expression_items_of g ≡ own_item g ∷ part_items g
unfolding expression_items_of
own-first epsilon = refl
own-first bottom = refl
own-first (token k) = refl
own-first (sequence g h) = refl
own-first (alternative g h) = refl
own-first (fixed_point g) = refl
own-first (variable n) = refl
own-first (repetition g) = refl

due_items : (gs : List Expression) (ds : List Due) (tokens i most : ℕ) → DuesFit tokens i most gs ds → length ds ≤ length (items_due gs)
due_items [] [] tokens i most h = omega arith
due_items (g ∷ gs) (d ∷ ds) tokens i most h =
    rw (own-first g, length-append (own_item g ∷ part_items g) (items_due gs)) (omega (arith, due_items gs ds tokens i d.depth h.1))
due_items [] (d ∷ ds) tokens i most h = elim h [ ]
due_items (g ∷ gs) [] tokens i most h = elim h [ ]

-- Where no items are left, no expression is still to come.
pub none-due : (gs : List Expression) → [] ≡ items_due gs → gs ≡ []
none-due [] e = refl
none-due (g ∷ gs) e = absurd (omega (arith, ap length (e ∙ ap (λ (l : List ExpressionItem). l ++ items_due gs) (own-first g))))

pending-length : (stack : List Due) (h : ℕ) → length (pending stack h) ≡ h
pending-length stack zero = refl
pending-length stack (suc h) = ap suc (pending-length stack h)

-- ---- before node i

-- The columns of tags and of numbers are those of the items.
pub record Columns (tag number : List ℕ) (items : List ExpressionItem) : Type 0 where
  pub tags : (q : ℕ) → q < length items → get_or tag q 0 ≡ expression_tag (get_or items q epsilon_item)
  pub numbers : (q : ℕ) → q < length items → get_or number q 0 ≡ number_after (get_or items q epsilon_item)
  pub most : length items ≤ 64

module _ (tokens : ℕ) (tag : List ℕ) (items : List ExpressionItem) (ns : List Node) where
  pub record Walking (i : ℕ) (w : Walk) : Type 0 where
    pub parts : List Expression
    pub walked : Walked tokens tag items ns i w.link w.guarded w.owner (pending w.stack w.height) parts
    pub stack_long : length w.stack ≡ 64
    pub height_small : w.height ≤ suc i

  height_left : (i : ℕ) (w : Walk) → Walking i w → w.height ≤ length items - i
  height_left i w h =
      let long = ap length h.walked.items_left in
      omega (
        arith,
        due_items h.parts (pending w.stack w.height) tokens i i h.walked.fit,
        pending-length w.stack w.height,
        length-drop i items,
        long,
      )

  -- ---- the turn, at a stack that is not empty

  module _ (i : ℕ) (w : Walk) (k : ℕ) (gs : List Expression) (small : i < 64) (long : length w.stack ≡ 64) (low : k ≤ i) (room : k < 63)
    where
      abbrev top : Due
      top = due_at w k

      abbrev linked_here : List ℕ
      linked_here = linked w.link top.parent i

      abbrev At : List Expression → Type 0
      At = Walked tokens tag items ns i w.link w.guarded w.owner (pending w.stack (suc k))

      -- Two entries on the stack.
      two_pending : (x y : Due) → pending (set (set w.stack k y) (suc k) x) (suc (suc k)) ≡ x ∷ y ∷ pending w.stack k
      two_pending x y = pending_push (set w.stack k y) (suc k) x (omega (arith, length-set w.stack k y))
          ∙ ap (λ (l : List Due). x ∷ l) (pending_push w.stack k y (omega arith))

      two_long : (x y : Due) → length (set (set w.stack k y) (suc k) x) ≡ 64
      two_long x y = length-set (set w.stack k y) (suc k) x ∙ length-set w.stack k y ∙ long

      -- A node with a left part and a right part.
      two_turned : (right_guarded : ℕ) (a b : Expression)
          → Walked tokens tag items ns (suc i) linked_here w.guarded w.owner
          (due top.depth top.guarded None ∷ due top.depth right_guarded (Some i) ∷ pending w.stack k) (a ∷ b ∷ gs)
          → Walking (suc i) (walk linked_here w.guarded w.owner
          (set (set w.stack k (due top.depth right_guarded (Some i))) (suc k) (due top.depth top.guarded None)) (suc (suc k)))
      two_turned right_guarded a b h =
          let left = due top.depth top.guarded None in
          let right = due top.depth right_guarded (Some i) in
          record {
            parts = a ∷ b ∷ gs;
            walked = subst (λ (l : List Due). Walked tokens tag items ns (suc i) linked_here w.guarded w.owner l (a ∷ b ∷ gs))
                (sym (two_pending left right)) h;
            stack_long = two_long left right;
            height_small = omega arith;
          }

      -- A node with one part, for which x is due.
      one_turned : (link owner : List ℕ) (x : Due) (a : Expression)
          → Walked tokens tag items ns (suc i) link w.guarded owner (x ∷ pending w.stack k) (a ∷ gs)
          → Walking (suc i) (walk link w.guarded owner (set w.stack k x) (suc k))
      one_turned link owner x a h = record {
        parts = a ∷ gs;
        walked = subst (λ (l : List Due). Walked tokens tag items ns (suc i) link w.guarded owner l (a ∷ gs))
            (sym (pending_push w.stack k x (omega arith))) h;
        stack_long = length-set w.stack k x ∙ long;
        height_small = omega arith;
      }

      turned : (g : Expression) → At (g ∷ gs)
          → get_or tag i 0 ≡ expression_tag (own_item g) → Walking (suc i) (step_at k (expression_tag (own_item g)) (number_after (own_item g)) i w)
      unfolding step_at links_after owners_after guarded_after parts_due stack_with height_with expression_tag number_after
      turned epsilon h t = record {
        parts = gs;
        walked = walked_epsilon tokens tag items ns i w.link w.guarded w.owner top (pending w.stack k) gs small h t;
        stack_long = long;
        height_small = omega arith;
      }
      turned bottom h t = record {
        parts = gs;
        walked = walked_bottom tokens tag items ns i w.link w.guarded w.owner top (pending w.stack k) gs small h t;
        stack_long = long;
        height_small = omega arith;
      }
      turned (token n) h t = record {
        parts = gs;
        walked = walked_token tokens tag items ns i w.link w.guarded w.owner top (pending w.stack k) gs small n h t;
        stack_long = long;
        height_small = omega arith;
      }
      turned (sequence a b) h t = two_turned top.depth a b
          (walked_sequence tokens tag items ns i w.link w.guarded w.owner top (pending w.stack k) gs small a b h t)
      turned (alternative a b) h t = two_turned top.guarded a b
          (walked_alternative tokens tag items ns i w.link w.guarded w.owner top (pending w.stack k) gs small a b h t)
      turned (fixed_point a) h t = one_turned linked_here (set w.owner top.depth i) (due (suc top.depth) top.guarded None) a
          (walked_fixed_point tokens tag items ns i w.link w.guarded w.owner top (pending w.stack k) gs small a h t)
      turned (variable n) h t = record {
        parts = gs;
        walked = walked_variable tokens tag items ns i w.link w.guarded w.owner top (pending w.stack k) gs small n h t;
        stack_long = long;
        height_small = omega arith;
      }
      turned (repetition a) h t = one_turned (set linked_here i i) w.owner (due top.depth top.guarded None) a
          (walked_repetition tokens tag items ns i w.link w.guarded w.owner top (pending w.stack k) gs small a h t)

      variable_bound : (g : Expression) → At (g ∷ gs)
          → expression_tag (own_item g) ≡ 6 → number_after (own_item g) < top.depth
      unfolding expression_tag number_after
      variable_bound epsilon h e = absurd (omega arith)
      variable_bound bottom h e = absurd (omega arith)
      variable_bound (token n) h e = absurd (omega arith)
      variable_bound (sequence a b) h e = absurd (omega arith)
      variable_bound (alternative a b) h e = absurd (omega arith)
      variable_bound (fixed_point a) h e = absurd (omega arith)
      variable_bound (variable n) h e = h.fit.0.closed
      variable_bound (repetition a) h e = absurd (omega arith)

  -- ---- the turn, as the code makes it

  module _ (number : List ℕ) (columns : Columns tag number items) (i : ℕ) (more : i < length items) where
    own_at : (g : Expression) (gs : List Expression) → drop i items ≡ items_due (g ∷ gs) → get_or items i epsilon_item ≡ own_item g
    own_at g gs e = drop-head i items (part_items g ++ items_due gs) (own_item g) epsilon_item
        (e ∙ ap (λ (l : List ExpressionItem). l ++ items_due gs) (own-first g))

    tag_at : (g : Expression) (gs : List Expression) → drop i items ≡ items_due (g ∷ gs) → get_or tag i 0 ≡ expression_tag (own_item g)
    tag_at g gs e = columns.tags i more ∙ ap expression_tag (own_at g gs e)

    number_at : (g : Expression) (gs : List Expression) → drop i items ≡ items_due (g ∷ gs) → get_or number i 0 ≡ number_after (own_item g)
    number_at g gs e = columns.numbers i more ∙ ap number_after (own_at g gs e)

    abbrev stepped : Walk → Walk
    stepped = walk_step (get_or tag i 0) (get_or number i 0) i

    top_is : (k : ℕ) {n : ℕ} → n ≡ suc k → k ≡ n - 1
    top_is k e = omega arith

    pub walking_step : (w : Walk) → Walking i w → Walking (suc i) (stepped w)
    unfolding walk_step
    walking_step w h = go h.parts w.height refl h.walked
      where
        go : (gs : List Expression) (height : ℕ) → w.height ≡ height
            → Walked tokens tag items ns i w.link w.guarded w.owner (pending w.stack height) gs → Walking (suc i) (stepped w)
        go [] height e d = absurd (omega (arith, length-drop i items, ap length d.items_left))
        go (g ∷ gs) zero e d = absurd d.fit
        go (g ∷ gs) (suc k) e d =
            rw (tag_at g gs d.items_left, number_at g gs d.items_left)
            (subst (λ (n : ℕ). Walking (suc i) (step_at n (expression_tag (own_item g)) (number_after (own_item g)) i w)) (top_is k e)
            (turned i w k gs (omega (arith, columns.most)) h.stack_long
            (omega (arith, h.height_small)) (omega (arith, height_left i w h, h.height_small, columns.most)) g d (tag_at g gs d.items_left)))

    pub walking_can : (w : Walk) → Walking i w → CanStep (get_or tag i 0) (get_or number i 0) i w
    walking_can w h = go h.parts w.height refl h.walked
      where
        go : (gs : List Expression) (height : ℕ) → w.height ≡ height
            → Walked tokens tag items ns i w.link w.guarded w.owner (pending w.stack height) gs
            → CanStep (get_or tag i 0) (get_or number i 0) i w
        go [] height e d = absurd (omega (arith, length-drop i items, ap length d.items_left))
        go (g ∷ gs) zero e d = absurd d.fit
        go (g ∷ gs) (suc k) e d =
            let is_top : due_at w k ≡ next_due w = ap (due_at w) (top_is k e) in
            record {
              some_due = omega arith;
              room = omega (arith, height_left i w h, h.height_small, columns.most);
              can_link = record {
                node_fits = omega (arith, columns.most);
                depth_fits = subst (λ (t : Due). t.depth < 64) is_top (omega (arith, d.fit.0.within, columns.most));
                parent_fits = subst (λ (t : Due). ParentBelow 64 t.parent) is_top
                    (parent_more (due_at w k).parent i 64 (omega (arith, columns.most)) d.fit.0.parent_past);
                variable_open = λ t. subst (λ (x : Due). get_or number i 0 < x.depth) is_top
                    (rw (number_at g gs d.items_left) (variable_bound i w k gs (omega (arith, columns.most))
                    h.stack_long (omega (arith, h.height_small)) (omega (arith, height_left i w h, h.height_small, columns.most)) g d
                    (sym (tag_at g gs d.items_left) ∙ t)));
              };
            }
