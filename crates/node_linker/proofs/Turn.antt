-- One turn of the code's loop, with the loop's variables as one record.
use mathlib.Core.Path.{◌≡◌, ap}
use mathlib.Core.List.{List}
use Prim.Native.Nat.{ℕ, suc, ◌+◌, ◌-◌, ◌<◌}
use native.Mathlib.Omega.{arith}
use Rattle.std.specs.Prelude.{None}
use lib.ListN.{get_or, set, replicate}
use Rattle.node_linker.specs.declared.Due.{Due}
use Rattle.node_linker.specs.declared.NodeParts.{NodeParts}
use Rattle.node_linker.specs.declared.NodeParts.TheVariants.{Leaf, One, Two}
use Rattle.node_linker.specs.Walking.{due, links_after, owners_after, guarded_after, parts_due, CanLink}

-- The links so far, the node of each open fixed point, the outermost first, and the expressions still to come, the next one last.
pub record Walk : Type 0 where
  pub link : List ℕ
  pub guarded : ℕ
  pub owner : List ℕ
  pub stack : List Due
  pub height : ℕ

abbrev pub walk : List ℕ → ℕ → List ℕ → List Due → ℕ → Walk
walk link guarded owner stack height = record { link = link; guarded = guarded; owner = owner; stack = stack; height = height }

-- Only one expression is due.
abbrev pub first_walk : Due → Walk
first_walk d = walk (replicate 64 0) 0 (replicate 64 0) (replicate 64 d) 1

-- It is the whole: no fixed point is open, and it is no right part.
abbrev pub whole : Due
whole = due 0 0 None

-- The entry at this place of the stack, and the expression that comes next.
abbrev pub due_at : Walk → ℕ → Due
due_at w top = get_or w.stack top (due 0 0 None)

abbrev pub next_due : Walk → Due
next_due w = due_at w (w.height - 1)

-- The parts of a node take the place of its own entry, the left one above the right.
unfoldable pub stack_with : List Due → ℕ → NodeParts → List Due
stack_with stack top Leaf = stack
stack_with stack top (One part) = set stack top part
stack_with stack top (Two left right) = set (set stack top right) (suc top) left

unfoldable pub height_with : ℕ → NodeParts → ℕ
height_with top Leaf = top
height_with top (One part) = suc top
height_with top (Two left right) = suc (suc top)

-- Node i has this tag and number, and its expression's entry is at the top.
unfoldable pub step_at : ℕ → ℕ → ℕ → ℕ → Walk → Walk
step_at top tag number i w =
    let d = due_at w top in
    walk (links_after tag number i d w.owner w.link) (guarded_after tag number i d w.guarded) (owners_after tag i d w.owner)
    (stack_with w.stack top (parts_due tag i d)) (height_with top (parts_due tag i d))

unfoldable pub walk_step : ℕ → ℕ → ℕ → Walk → Walk
walk_step tag number i w = step_at (w.height - 1) tag number i w

-- When a turn stays within the arrays.
pub record CanStep (tag number i : ℕ) (w : Walk) : Type 0 where
  pub some_due : 0 < w.height
  pub room : w.height < 64
  pub can_link : CanLink tag number i (next_due w)

-- What the calls of a turn have stored and answered.
pub record Called (tag number i : ℕ) (w : Walk) (link : List ℕ) (guarded : ℕ) (owner : List ℕ) (parts : NodeParts) : Type 0 where
  pub link_is : link ≡ links_after tag number i (next_due w) w.owner w.link
  pub guarded_is : guarded ≡ guarded_after tag number i (next_due w) w.guarded
  pub owner_is : owner ≡ owners_after tag i (next_due w) w.owner
  pub parts_is : parts ≡ parts_due tag i (next_due w)

-- And then the match on the parts.
module _ {tag number i : ℕ} {w : Walk} {link : List ℕ} {guarded : ℕ} {owner : List ℕ} {parts : NodeParts}
    (called : Called tag number i w link guarded owner parts) where
  turned : (stack : List Due) (height : ℕ) → stack ≡ stack_with w.stack (w.height - 1) parts → height ≡ height_with (w.height - 1) parts
      → walk link guarded owner stack height ≡ walk_step tag number i w
  unfolding walk_step step_at
  turned stack height e f = rw (e, f, called.link_is, called.guarded_is, called.owner_is, called.parts_is)

  pub turned_leaf : parts ≡ Leaf → walk link guarded owner w.stack (w.height - 1) ≡ walk_step tag number i w
  unfolding stack_with height_with
  turned_leaf e = turned w.stack (w.height - 1) (rw e) (rw e)

  pub turned_one : {part : Due} → 0 < w.height → parts ≡ One part
      → walk link guarded owner (set w.stack (w.height - 1) part) w.height ≡ walk_step tag number i w
  unfolding stack_with height_with
  turned_one {part} l e = turned (set w.stack (w.height - 1) part) w.height (rw e) (rw e (omega arith))

  pub turned_two : {left right : Due} → 0 < w.height → parts ≡ Two left right
      → walk link guarded owner (set (set w.stack (w.height - 1) right) w.height left) (w.height + 1) ≡ walk_step tag number i w
  unfolding stack_with height_with
  turned_two {left} {right} l e =
      let next : w.height ≡ suc (w.height - 1) = omega arith in
      turned (set (set w.stack (w.height - 1) right) w.height left) (w.height + 1)
      (rw e (ap (λ (n : ℕ). set (set w.stack (w.height - 1) right) n left) next)) (rw e (omega arith))
