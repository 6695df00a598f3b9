-- The expressions still to come during the pass, with their nodes and the fixed points that are open there. The code has no
-- expressions: it has their open fixed points, and the stack.
use mathlib.Core.Path.{◌≡◌, refl, ap, ap₂, ◌∙◌}
use mathlib.Core.List.{List, [], ◌∷◌, ◌++◌, map}
use Prim.Native.Nat.{ℕ, zero, suc, ◌+◌, ◌-◌, ◌≤◌, ◌<◌}
use native.Mathlib.Omega.{arith}
use Rattle.std.specs.Prelude.{Option, Some, None}
use lib.Dec.{ltb}
use lib.ListN.{get_or, set, length}
use lib.Seq.{get_or-set_same, get_or-set_other}
use borrow.Author.Tests.{lt-ltb}
use Rattle.sheet.specs.Expression.{Expression, size}
use Rattle.sheet.specs.Items.{ExpressionItem}
use Rattle.sheet.specs.laws.ExpressionItems.{expression_items_of}
use Rattle.sheet.specs.WellFormed.{Closed}
use Rattle.types.specs.Nodes.{Node, Binder, no_binder, guard, nodes_from}
use Rattle.node_linker.specs.declared.Due.{Due}
use Rattle.node_linker.specs.Walking.{due, ParentBelow}

-- ---- the stack

-- The lowest so many entries, the top first.
abbrev pub pending : List Due → ℕ → List Due
pending stack zero = []
pending stack (suc k) = get_or stack k (due 0 0 None) ∷ pending stack k

pending-set : (stack : List Due) (k h : ℕ) (x : Due) → k ≤ h → pending (set stack h x) k ≡ pending stack k
pending-set stack zero h x l = refl
pending-set stack (suc k) h x l =
    ap₂ ◌∷◌ (get_or-set_other stack h k x (due 0 0 None) (λ e. omega arith)) (pending-set stack k h x (omega arith))

pub pending_push : (stack : List Due) (h : ℕ) (x : Due) → h < length stack → pending (set stack h x) (suc h) ≡ x ∷ pending stack h
pending_push stack h x l = ap₂ ◌∷◌ (get_or-set_same stack h x (due 0 0 None) l) (pending-set stack h h x (omega arith))

-- ---- open fixed points

-- The open fixed point at this place, counted from the outermost, of which so many are guarded.
abbrev pub binder : List ℕ → ℕ → ℕ → Binder
binder owner guarded k = record { node = get_or owner k 0; guarded = ltb k guarded }

-- The open fixed points, the innermost first.
abbrev pub binders : List ℕ → ℕ → ℕ → List Binder
binders owner zero guarded = []
binders owner (suc d) guarded = binder owner guarded d ∷ binders owner d guarded

pub binders-set : (owner : List ℕ) (d guarded k v : ℕ) → d ≤ k → binders (set owner k v) d guarded ≡ binders owner d guarded
binders-set owner zero guarded k v l = refl
binders-set owner (suc d) guarded k v l =
    ap₂ ◌∷◌ (ap (λ (n : ℕ). record { node = n; guarded = ltb d guarded }) (get_or-set_other owner k d v 0 (λ e. omega arith)))
    (binders-set owner d guarded k v (omega arith))

pub binders-guard : (owner : List ℕ) (d guarded all : ℕ) → d ≤ all → map guard (binders owner d guarded) ≡ binders owner d all
binders-guard owner zero guarded all l = refl
binders-guard owner (suc d) guarded all l =
    ap₂ ◌∷◌ (rw (lt-ltb d all (omega arith))) (binders-guard owner d guarded all (omega arith))

pub binders-at : (owner : List ℕ) (d guarded n : ℕ) → n < d → get_or (binders owner d guarded) n no_binder ≡ binder owner guarded (d - 1 - n)
binders-at owner zero guarded n l = absurd (omega arith)
binders-at owner (suc d) guarded zero l = ap (binder owner guarded) (omega arith)
binders-at owner (suc d) guarded (suc n) l = binders-at owner d guarded n (omega arith) ∙ ap (binder owner guarded) (omega arith)

-- ---- the expressions still to come

abbrev pub items_due : List Expression → List ExpressionItem
items_due [] = []
items_due (g ∷ gs) = expression_items_of g ++ items_due gs

-- Their nodes, from this node on.
abbrev pub nodes_due : List ℕ → ℕ → List Expression → List Due → List Node
nodes_due owner at [] ds = []
nodes_due owner at (g ∷ gs) [] = []
nodes_due owner at (g ∷ gs) (d ∷ ds) = nodes_from g at (binders owner d.depth d.guarded) ++ nodes_due owner (at + size g) gs ds

-- An expression and its entry on the stack. The parent has been passed at node i.
pub record DueFits (tokens i most : ℕ) (g : Expression) (d : Due) : Type 0 where
  pub closed : Closed tokens d.depth g
  pub guarded_open : d.guarded ≤ d.depth
  pub within : d.depth ≤ most
  pub parent_past : ParentBelow i d.parent

pub parent_more : (parent : Option ℕ) (i j : ℕ) → i ≤ j → ParentBelow i parent → ParentBelow j parent
parent_more None i j l h = tt
parent_more (Some p) i j l h = omega arith

-- All of them, none inside fewer open fixed points than those that come later.
abbrev pub DuesFit : ℕ → ℕ → ℕ → List Expression → List Due → Type 0
DuesFit tokens i most [] [] = Unit
DuesFit tokens i most [] (d ∷ ds) = ⊥
DuesFit tokens i most (g ∷ gs) [] = ⊥
DuesFit tokens i most (g ∷ gs) (d ∷ ds) = DueFits tokens i most g d × DuesFit tokens i d.depth gs ds

pub dues_on : (tokens i j most more : ℕ) (gs : List Expression) (ds : List Due) → i ≤ j → most ≤ more
    → DuesFit tokens i most gs ds → DuesFit tokens j more gs ds
dues_on tokens i j most more [] [] l m h = tt
dues_on tokens i j most more (g ∷ gs) (d ∷ ds) l m h = (
  record {
    closed = h.0.closed;
    guarded_open = h.0.guarded_open;
    within = omega (arith, h.0.within);
    parent_past = parent_more d.parent i j l h.0.parent_past;
  },
  dues_on tokens i j d.depth d.depth gs ds l (omega arith) h.1,
)
dues_on tokens i j most more [] (d ∷ ds) l m h = elim h [ ]
dues_on tokens i j most more (g ∷ gs) [] l m h = elim h [ ]

-- A fixed point that opens deeper is none of theirs.
pub nodes_due-set : (tokens i most : ℕ) (owner : List ℕ) (k v at : ℕ) (gs : List Expression) (ds : List Due) → most ≤ k
    → DuesFit tokens i most gs ds → nodes_due (set owner k v) at gs ds ≡ nodes_due owner at gs ds
nodes_due-set tokens i most owner k v at [] [] l h = refl
nodes_due-set tokens i most owner k v at (g ∷ gs) (d ∷ ds) l h =
    ap₂ ◌++◌ (ap (nodes_from g at) (binders-set owner d.depth d.guarded k v (omega (arith, h.0.within))))
    (nodes_due-set tokens i d.depth owner k v (at + size g) gs ds (omega (arith, h.0.within)) h.1)
nodes_due-set tokens i most owner k v at [] (d ∷ ds) l h = elim h [ ]
nodes_due-set tokens i most owner k v at (g ∷ gs) [] l h = elim h [ ]
