-- The links as they will be once the right parts still to come have been met: each is then its parent's link.
use mathlib.Core.Path.{◌≡◌, refl, sym, ◌∙◌}
use mathlib.Core.List.{List, [], ◌∷◌}
use Prim.Native.Nat.{ℕ, zero, suc, ◌+◌, ◌<◌}
use native.Mathlib.Omega.{arith}
use Rattle.std.specs.Prelude.{Option, Some, None}
use lib.ListN.{get_or, set, length, length-set}
use lib.Seq.{get_or-set_other}
use Rattle.sheet.specs.Expression.{Expression, size}
use Rattle.node_linker.specs.declared.Due.{Due}
use Rattle.node_linker.specs.Walking.{linked, ParentBelow}
use Rattle.node_linker.proofs.Parts.{DuesFit}

pub linked_long : (link : List ℕ) (parent : Option ℕ) (v : ℕ) → length (linked link parent v) ≡ length link
unfolding linked
linked_long link None v = refl
linked_long link (Some p) v = length-set link p v

-- The links from which a right part's node is to be seen.
abbrev pub completed : List ℕ → ℕ → List Expression → List Due → List ℕ
completed link at [] ds = link
completed link at (g ∷ gs) [] = link
completed link at (g ∷ gs) (d ∷ ds) = completed (linked link d.parent at) (at + size g) gs ds

set_agrees : (l m : List ℕ) (p v q : ℕ) → length l ≡ length m → get_or l q 0 ≡ get_or m q 0 → get_or (set l p v) q 0 ≡ get_or (set m p v) q 0
set_agrees [] [] p v q long e = refl
set_agrees [] (y ∷ m) p v q long e = absurd (omega arith)
set_agrees (x ∷ l) [] p v q long e = absurd (omega arith)
set_agrees (x ∷ l) (y ∷ m) zero v zero long e = refl
set_agrees (x ∷ l) (y ∷ m) zero v (suc q) long e = e
set_agrees (x ∷ l) (y ∷ m) (suc p) v zero long e = e
set_agrees (x ∷ l) (y ∷ m) (suc p) v (suc q) long e = set_agrees l m p v q (omega arith) e

linked_agrees : (l m : List ℕ) (parent : Option ℕ) (v q : ℕ) → length l ≡ length m → get_or l q 0 ≡ get_or m q 0
    → get_or (linked l parent v) q 0 ≡ get_or (linked m parent v) q 0
unfolding linked
linked_agrees l m None v q long e = e
linked_agrees l m (Some p) v q long e = set_agrees l m p v q long e

-- Links that agree at a node agree there when they are completed.
pub completed_agrees : (l m : List ℕ) (at q : ℕ) (gs : List Expression) (ds : List Due) → length l ≡ length m → get_or l q 0 ≡ get_or m q 0
    → get_or (completed l at gs ds) q 0 ≡ get_or (completed m at gs ds) q 0
completed_agrees l m at q [] ds long e = e
completed_agrees l m at q (g ∷ gs) [] long e = e
completed_agrees l m at q (g ∷ gs) (d ∷ ds) long e =
    completed_agrees (linked l d.parent at) (linked m d.parent at) (at + size g) q gs ds
    (linked_long l d.parent at ∙ long ∙ sym (linked_long m d.parent at)) (linked_agrees l m d.parent at q long e)

linked_other : (link : List ℕ) (parent : Option ℕ) (v i : ℕ) → ParentBelow i parent → get_or (linked link parent v) i 0 ≡ get_or link i 0
unfolding linked
linked_other link None v i past = refl
linked_other link (Some p) v i past = get_or-set_other link p i v 0 (λ e. omega arith)

-- A node that is not yet passed is nobody's parent.
pub completed-here : (tokens most : ℕ) (link : List ℕ) (at i : ℕ) (gs : List Expression) (ds : List Due) → i < 64
    → DuesFit tokens i most gs ds → get_or (completed link at gs ds) i 0 ≡ get_or link i 0
completed-here tokens most link at i [] ds l h = refl
completed-here tokens most link at i (g ∷ gs) (d ∷ ds) l h =
    completed-here tokens d.depth (linked link d.parent at) (at + size g) i gs ds l h.1
    ∙ linked_other link d.parent at i h.0.parent_past
completed-here tokens most link at i (g ∷ gs) [] l h = elim h [ ]
