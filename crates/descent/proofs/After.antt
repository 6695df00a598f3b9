-- What an answer leaves, whatever is read, and what comes after a node: the same for nodes that the table leads on alike; after a left part
-- the right part; and nothing where a call ends.
use mathlib.Core.Path.{◌≡◌, sym, subst, ◌∙◌}
use mathlib.Core.List.{List}
use mathlib.Core.Logic.{inl, inr, ⊎_elim}
use Prim.Native.Nat.{ℕ, suc, ◌/◌, ◌%◌, ◌≤◌, ◌<◌}
use native.Mathlib.Omega.{arith}
use Rattle.sheet.specs.Expression.{Expression}
use Rattle.recogniser.specs.Descends.{Descent, left, stuck, Descends}
use Rattle.descent_table.specs.TableOf.{link_at, up_at}
use Rattle.descent.specs.Steps.{stuck_at, Below, After, nothing_more, goes_on, fails_on, Through, reads, fails, Pending, none_pending, next_pending}

-- ---- how many tokens an answer leaves, whatever is read

pub below-more : (a b r : ℕ) → a ≤ b → Below a r → Below b r
below-more a b r l h = ⊎_elim (λ x. inl x) (λ x. inr (omega (arith, l, x))) h

pub below_stuck : (k b r : ℕ) → r ≡ stuck_at k → Below b r
below_stuck k b r z = inl (omega (arith, z))

pub below_even : (b r : ℕ) → Below b r → (r % 2 ≡ 1 → ⊥) → r / 2 < b
below_even b r h n = ⊎_elim (λ x. absurd (n x)) (λ x. x) h

-- ---- what comes after two nodes is the same, if the table leads to it alike

module _ (e : Expression) (table : List ℕ) (root : ℕ) where
  pub after_same : {n m : ℕ} {s : List ℕ} {o : Descent} → up_at table m ≡ up_at table n → After e table root n s o
      → After e table root m s o
  after_same z (nothing_more l) = nothing_more (subst (λ i. i ≤ root) (sym z) l)
  after_same z (goes_on p y l x a) = goes_on p (z ∙ y) l x a
  after_same z (fails_on p y l x) = fails_on p (z ∙ y) l x

  pub pending_same : {n m : ℕ} → up_at table m ≡ up_at table n → Pending e table root n → Pending e table root m
  pending_same z (none_pending l) = none_pending (subst (λ i. i ≤ root) (sym z) l)
  pending_same z (next_pending p y l k u w a) = next_pending p (z ∙ y) l k u w a

  -- A node that does what its part does, and after which comes the same.
  pub through_part : {n m : ℕ} {s : List ℕ} {o : Descent} → up_at table m ≡ up_at table n
      → ((r : Descent) → Descends e m s r → Descends e n s r)
      → Through e table root m s o → Through e table root n s o
  through_part z f (reads {s' = s'} x a) = reads (f (left s') x) (after_same (sym z) a)
  through_part z f (fails {s' = s'} x) = fails (f (stuck s') x)

  -- A sequence whose left part is read, and after that its right part.
  pub through_left : {n m : ℕ} {s : List ℕ} {o : Descent} → root ≤ n → up_at table m ≡ suc n
      → ((s' : List ℕ) (r : Descent) → Descends e m s (left s') → Descends e (link_at table n) s' r → Descends e n s r)
      → ((s' : List ℕ) → Descends e m s (stuck s') → Descends e n s (stuck s'))
      → Through e table root m s o → Through e table root n s o
  through_left l z f g (reads {s' = s'} x (nothing_more y)) = absurd (omega (arith, l, z, y))
  through_left {n} l z f g (reads {s' = s'} {o = o} x (goes_on {s' = s''} p y k w a)) =
      let same : p ≡ n = omega (arith, z, y) in
      reads (f s' (left s'') x (subst (λ i. Descends e (link_at table i) s' (left s'')) same w))
      (subst (λ i. After e table root i s'' o) same a)
  through_left {n} l z f g (reads {s' = s'} x (fails_on {s' = s''} p y k w)) =
      let same : p ≡ n = omega (arith, z, y) in
      fails (f s' (stuck s'') x (subst (λ i. Descends e (link_at table i) s' (stuck s'')) same w))
  through_left l z f g (fails {s' = s'} x) = fails (g s' x)

-- A call that ends at the node that it enters reads that node alone.
pub own_call : (e : Expression) (table : List ℕ) (n : ℕ) → up_at table n ≤ n → {s : List ℕ} {o : Descent} → Through e table n n s o
    → Descends e n s o
own_call e table n l (reads x (nothing_more y)) = x
own_call e table n l (reads x (goes_on p y k w a)) = absurd (omega (arith, l, y, k))
own_call e table n l (reads x (fails_on p y k w)) = absurd (omega (arith, l, y, k))
own_call e table n l (fails x) = x
