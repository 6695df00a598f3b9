-- What holds before each turn of the pass, on lists: the turns keep it, one law for each kind of expression.
use mathlib.Core.Path.{◌≡◌, refl, sym, ap, subst, ◌∙◌}
use mathlib.Core.Bool.{Bool}
use mathlib.Core.List.{List, [], ◌∷◌}
use mathlib.Core.Logic.{◌⊎◌, inl, inr}
use Prim.Native.Nat.{ℕ, zero, suc, ◌+◌, ◌^◌, ◌<◌}
use native.Mathlib.Omega.{arith}
use native.Mathlib.Nat.{pow-suc}
use lib.ListN.{get_or, set, drop, length, length-set}
use lib.Seq.{get_or-set_same, get_or-set_other}
use Rattle.basics.specs.Bits.{bit}
use Rattle.basics.proofs.laws.Order.{compare_cases}
use Rattle.sheet.specs.Expression.{Expression, size}
use Rattle.sheet.specs.Items.{ExpressionItem}
use Rattle.types.specs.Nodes.{Node, bottom_node}
use Rattle.columns.specs.HeldNodes.{node_of, held_node}
use Rattle.node_linker.specs.declared.Due.{Due}
use Rattle.node_linker.specs.Walking.{linked}
use Rattle.node_linker.proofs.Parts.{items_due, nodes_due, DuesFit, dues_on}
use Rattle.node_linker.proofs.Completed.{linked_long, completed, completed_agrees, completed-here}

-- ---- lists from a place on

pub drop-head : {A : Type 0} (i : ℕ) (l r : List A) (x other : A) → drop i l ≡ x ∷ r → get_or l i other ≡ x
drop-head zero [] r x other e = cc
drop-head zero (a ∷ l) r x other e = cc
drop-head (suc i) [] r x other e = cc
drop-head (suc i) (a ∷ l) r x other e = drop-head i l r x other e

drop-tail : {A : Type 0} (i : ℕ) (l r : List A) (x : A) → drop i l ≡ x ∷ r → drop (suc i) l ≡ r
drop-tail zero [] r x e = cc
drop-tail zero (a ∷ l) r x e = cc
drop-tail (suc i) [] r x e = cc
drop-tail (suc i) (a ∷ l) r x e = drop-tail i l r x e

-- ---- before node i

module _ (tokens : ℕ) (tag : List ℕ) (items : List ExpressionItem) (ns : List Node) where
  -- The expressions gs are still to come, with the entries ds on the stack.
  pub record Walked (i : ℕ) (link : List ℕ) (guarded : ℕ) (owner : List ℕ) (ds : List Due) (gs : List Expression) : Type 0 where
    pub fit : DuesFit tokens i i gs ds
    pub items_left : drop i items ≡ items_due gs
    pub nodes_left : drop i ns ≡ nodes_due owner i gs ds
    pub done : (q : ℕ) → q < i → held_node tag (completed link i gs ds) guarded q ≡ get_or ns q bottom_node
    pub guarded_low : guarded < 2 ^ i
    pub link_long : length link ≡ 64
    pub owner_long : length owner ≡ 64

  done_more : (i : ℕ) (l m : List ℕ) (s t : ℕ) → ((q : ℕ) → q < i → held_node tag l s q ≡ get_or ns q bottom_node)
      → ((q : ℕ) → q < i → get_or m q 0 ≡ get_or l q 0) → ((q : ℕ) → q < i → bit t q ≡ bit s q)
      → node_of (get_or tag i 0) (get_or m i 0) (bit t i) i ≡ get_or ns i bottom_node
      → (q : ℕ) → q < suc i → held_node tag m t q ≡ get_or ns q bottom_node
  unfolding held_node
  done_more i l m s t old links bits here q h = go (compare_cases q i)
    where
      go : (q < i) ⊎ ((q ≡ i) ⊎ (i < q)) → node_of (get_or tag q 0) (get_or m q 0) (bit t q) q ≡ get_or ns q bottom_node
      go (inl k) = rw (links q k, bits q k) (old q k)
      go (inr (inl e)) = subst (λ (n : ℕ). node_of (get_or tag n 0) (get_or m n 0) (bit t n) n ≡ get_or ns n bottom_node) (sym e) here
      go (inr (inr k)) = absurd (omega arith)

  module _ (i : ℕ) (link : List ℕ) (guarded : ℕ) (owner : List ℕ) (d : Due) (ds : List Due) (g : Expression) (gs : List Expression)
      (before : Walked i link guarded owner (d ∷ ds) (g ∷ gs)) (small : i < 64) where
    -- The links with this node as its parent's.
    abbrev now_linked : List ℕ
    now_linked = linked link d.parent i

    now_long : length now_linked ≡ 64
    now_long = linked_long link d.parent i ∙ before.link_long

    rest_fit : DuesFit tokens (suc i) d.depth gs ds
    rest_fit = dues_on tokens i (suc i) d.depth d.depth gs ds (omega arith) (omega arith) before.fit.1

    advance : (item : ExpressionItem) (x : Node) (m : List ℕ) (t : ℕ) (owners : List ℕ) (es : List Due) (hs : List Expression)
        → items_due (g ∷ gs) ≡ item ∷ items_due hs → nodes_due owner i (g ∷ gs) (d ∷ ds) ≡ x ∷ nodes_due owners (suc i) hs es
        → DuesFit tokens (suc i) (suc i) hs es
        → ((q : ℕ) → q < i → get_or (completed m (suc i) hs es) q 0 ≡ get_or (completed link i (g ∷ gs) (d ∷ ds)) q 0)
        → ((q : ℕ) → q < i → bit t q ≡ bit guarded q)
        → node_of (get_or tag i 0) (get_or (completed m (suc i) hs es) i 0) (bit t i) i ≡ x
        → t < 2 ^ suc i → length m ≡ 64 → length owners ≡ 64
        → Walked (suc i) m t owners es hs
    advance item x m t owners es hs its nodes fits links bits here low m_long o_long = record {
      fit = fits;
      items_left = drop-tail i items (items_due hs) item (before.items_left ∙ its);
      nodes_left = drop-tail i ns (nodes_due owners (suc i) hs es) x (before.nodes_left ∙ nodes);
      done = done_more i (completed link i (g ∷ gs) (d ∷ ds)) (completed m (suc i) hs es) guarded t before.done links bits
          (here ∙ sym (drop-head i ns (nodes_due owners (suc i) hs es) x bottom_node (before.nodes_left ∙ nodes)));
      guarded_low = low;
      link_long = m_long;
      owner_long = o_long;
    }

    low_on : guarded < 2 ^ suc i
    low_on = omega (arith, before.guarded_low, pow-suc 2 i)

    -- Nothing is linked at this node.
    pub unlinked : (item : ExpressionItem) (x : Node) (owners : List ℕ) (es : List Due) (hs : List Expression)
        → items_due (g ∷ gs) ≡ item ∷ items_due hs → nodes_due owner i (g ∷ gs) (d ∷ ds) ≡ x ∷ nodes_due owners (suc i) hs es
        → DuesFit tokens (suc i) (suc i) hs es → completed now_linked (suc i) hs es ≡ completed link i (g ∷ gs) (d ∷ ds)
        → ((n : ℕ) (b : Bool) → node_of (get_or tag i 0) n b i ≡ x) → length owners ≡ 64
        → Walked (suc i) now_linked guarded owners es hs
    unlinked item x owners es hs its nodes fits links here o_long =
        advance item x now_linked guarded owners es hs its nodes fits (λ q l. ap (λ (m : List ℕ). get_or m q 0) links) (λ q l. refl)
        (here (get_or (completed now_linked (suc i) hs es) i 0) (bit guarded i)) low_on now_long o_long

    -- This node's link is v, at once or when its right part is met.
    pub relinked : (item : ExpressionItem) (x : Node) (v t : ℕ) (m : List ℕ) (es : List Due) (hs : List Expression)
        → items_due (g ∷ gs) ≡ item ∷ items_due hs → nodes_due owner i (g ∷ gs) (d ∷ ds) ≡ x ∷ nodes_due owner (suc i) hs es
        → DuesFit tokens (suc i) (suc i) hs es
        → completed m (suc i) hs es ≡ completed (set now_linked i v) (i + size g) gs ds
        → ((q : ℕ) → q < i → bit t q ≡ bit guarded q)
        → node_of (get_or tag i 0) v (bit t i) i ≡ x → t < 2 ^ suc i → length m ≡ 64
        → Walked (suc i) m t owner es hs
    relinked item x v t m es hs its nodes fits links bits here low m_long =
        advance item x m t owner es hs its nodes fits
        (λ q l. ap (λ (n : List ℕ). get_or n q 0) links
        ∙ completed_agrees (set now_linked i v) now_linked (i + size g) q gs ds (length-set now_linked i v)
        (get_or-set_other now_linked i q v 0 (λ e. omega arith)))
        bits
        (ap (λ (n : ℕ). node_of (get_or tag i 0) n (bit t i) i) (
        ap (λ (n : List ℕ). get_or n i 0) links
        ∙ completed-here tokens d.depth (set now_linked i v) (i + size g) i gs ds small before.fit.1
        ∙ get_or-set_same now_linked i v 0 (omega (arith, now_long)))
        ∙ here)
        low m_long before.owner_long
