-- The pending nonterminals and the stack that holds all but the first: entries below a store, bounds that hold of all, and what is pending
-- once a tail is pushed.
use Rattle.std.specs.Prelude.{◌≡◌, refl, List, [], ◌∷◌, ◌++◌, ℕ, zero, suc, ◌+◌, ◌-◌, ◌≤◌, ◌<◌, length, get_or, set}
use Rattle.std.proofs.Common.{sym, ap, ap₂, ◌∙◌, arith, length-set, get_or-set_same, get_or-set_other}
use Rattle.std.proofs.Math.Path.{subst}
use Rattle.basics.specs.Lists.{All}
use Rattle.normal_form.specs.Productions.{Row}
use Rattle.machine_turn.specs.Stack.{stacked, pending, pushed, Ready}

-- Where the entry on top is the first that is pending, all are on the stack.
pub pending-stacked : (stack : List ℕ) (below : ℕ) → pending stack below (get_or stack below 0) ≡ stacked stack below
unfolding pending stacked
pending-stacked stack zero = refl
pending-stacked stack (suc below) = refl

pub length-stacked : (stack : List ℕ) (size : ℕ) → length (stacked stack size) ≡ size
unfolding stacked
length-stacked stack zero = refl
length-stacked stack (suc size) = ap suc (length-stacked stack size)

pub length-pending : (stack : List ℕ) (depth first : ℕ) → length (pending stack depth first) ≡ depth
unfolding pending
length-pending stack zero first = refl
length-pending stack (suc below) first = ap suc (length-stacked stack below)

-- A store above the entries in use changes none of them.
stacked-set : (stack : List ℕ) (i v size : ℕ) → size < i → stacked (set stack i v) size ≡ stacked stack size
unfolding stacked
stacked-set stack i v zero h = refl
stacked-set stack i v (suc size) h =
    ap₂ ◌∷◌ (get_or-set_other stack i (suc size) v 0 (λ e. omega arith)) (stacked-set stack i v size (omega arith))

-- ---- bounds

module _ (bound : ℕ) where
  pub all_wider : (n : ℕ) (l : List ℕ) → n ≤ bound → All (λ m. m < n) l → All (λ m. m < bound) l
  all_wider n [] k h = tt
  all_wider n (a ∷ l) k h = (omega (arith, h.0), all_wider n l k h.1)

  pub all-joined : (l r : List ℕ) → All (λ m. m < bound) l → All (λ m. m < bound) r → All (λ m. m < bound) (l ++ r)
  all-joined [] r h k = k
  all-joined (a ∷ l) r h k = (h.0, all-joined l r h.1 k)

  behind_first : (stack : List ℕ) (below first : ℕ) → All (λ m. m < bound) (pending stack (suc below) first)
      → (first < bound) × All (λ m. m < bound) (pending stack below (get_or stack below 0))
  unfolding pending
  behind_first stack below first h = (h.0, subst (All (λ m. m < bound)) (sym (pending-stacked stack below)) h.1)

  -- The first one, and those behind it.
  pub all-behind : (stack : List ℕ) (depth first : ℕ) → 0 < depth → All (λ m. m < bound) (pending stack depth first)
      → (first < bound) × All (λ m. m < bound) (pending stack (depth - 1) (get_or stack (depth - 1) 0))
  all-behind stack depth first k h =
      let e : depth ≡ suc (depth - 1) = omega arith in
      behind_first stack (depth - 1) first (subst (λ (d : ℕ). All (λ m. m < bound) (pending stack d first)) e h)

-- What the functions that only look at the entries ask.
pub ready_entries : {bytes starts productions : List ℕ} {empty : ℕ} {rows : List Row} {n : ℕ} {stack : List ℕ} {depth first : ℕ}
    → Ready bytes starts productions empty rows n stack depth first → (depth ≤ length stack) × All (λ m. m < 64) (pending stack depth first)
ready_entries {n = n} {stack = stack} {depth = depth} {first = first} r =
    (r.inside, all_wider 64 n (pending stack depth first) r.most r.below)

-- ---- a pushed tail

pub length-pushed : (stack : List ℕ) (base : ℕ) (tail : List ℕ) → length (pushed stack base tail) ≡ length stack
unfolding pushed
length-pushed stack base [] = refl
length-pushed stack base (n ∷ tail) = simp length-set (length-pushed stack _ tail)

stacked-pushed : (stack : List ℕ) (below : ℕ) (tail : List ℕ) → suc below + length tail ≤ length stack
    → stacked (pushed stack (suc below) tail) (below + length tail) ≡ tail ++ stacked stack below
unfolding pushed stacked
stacked-pushed stack below [] h = let e : below + 0 ≡ below = omega arith in ap (λ (k : ℕ). stacked stack k) e
stacked-pushed stack below (n ∷ tail) h =
    let low = pushed stack (suc below) tail in
    let top = suc below + length tail in
    let e : below + length (n ∷ tail) ≡ suc (below + length tail) = omega arith in
    let f : suc (below + length tail) ≡ top = omega arith in
    let inside : top < length low = omega (arith, length-pushed stack (suc below) tail) in
    ap (λ (k : ℕ). stacked (set low top n) k) e
    ∙ ap₂ ◌∷◌ (ap (λ (k : ℕ). get_or (set low top n) k 0) f ∙ get_or-set_same low top n 0 inside)
    (stacked-set low top n (below + length tail) (omega arith) ∙ stacked-pushed stack below tail (omega arith))

-- A tail in the place of its taker: its first member is the first that is pending, the others are pushed.
pub pending-pushed : (stack : List ℕ) (below n : ℕ) (tail : List ℕ) → suc below + length tail ≤ length stack
    → pending (pushed stack (suc below) tail) (suc below + length tail) n ≡ n ∷ tail ++ stacked stack below
unfolding pending
pending-pushed stack below n tail h =
    let e : suc below + length tail ≡ suc (below + length tail) = omega arith in
    ap (λ (k : ℕ). pending (pushed stack (suc below) tail) k n) e ∙ ap (λ (l : List ℕ). n ∷ l) (stacked-pushed stack below tail h)
