-- A tail in the place of its taker: what an entry of each kind stands for, and what then is pending, or that the stack does not hold it.
use mathlib.Core.Path.{◌≡◌, refl, sym, ap, ◌∙◌}
use mathlib.Core.Bool.{Bool, cond}
use mathlib.Core.List.{List, [], ◌∷◌}
use Prim.Native.Nat.{ℕ, suc, ◌+◌, ◌-◌, ◌/◌, ◌%◌, ◌≤◌, ◌<◌}
use native.Mathlib.Omega.{arith}
use lib.Dec.{ltb}
use lib.ListN.{length, get_or, set, take, drop, length-take, length-drop}
use lib.Seq.{drop-cons}
use borrow.Author.Tests.{lt-ltb, le-ltb}
use Rattle.image_reader.specs.Tables.{part, tail_by, entry_tail}
use Rattle.machine_turn.specs.Stack.{pushed}
use Rattle.machine_turn.specs.Steps.{TakeStep, replaced}
use Rattle.machine_turn.specs.declared.Taken.{Taken}
use Rattle.machine_turn.specs.declared.Taken.TheVariants.{Pending, TooDeep}

-- What code leaves is what a step says.
abbrev pub Leaves : Taken → List ℕ → TakeStep → Type 0
Leaves r stack s = (r ≡ s.outcome) × (stack ≡ s.stack)

pub leaves_same : (r : Taken) (stack : List ℕ) (s s' : TakeStep) → s ≡ s' → Leaves r stack s → Leaves r stack s'
leaves_same r stack s s' e h = (h.0 ∙ ap (λ (x : TakeStep). x.outcome) e, h.1 ∙ ap (λ (x : TakeStep). x.stack) e)

-- ---- a tail of at least one member

module _ (stack : List ℕ) (below n : ℕ) (tail : List ℕ) where
  abbrev by_test : Bool → TakeStep
  by_test b =
      cond b (record { outcome = TooDeep; stack = stack })
      (record { outcome = Pending (suc below + length tail) n; stack = pushed stack (suc below) tail })

  pub tail_too_deep : length stack < suc below + length tail → Leaves TooDeep stack (replaced stack below (n ∷ tail))
  unfolding replaced
  tail_too_deep h =
      leaves_same TooDeep stack _ (by_test (ltb (length stack) (suc below + length tail)))
      (sym (ap by_test (lt-ltb (length stack) (suc below + length tail) h))) (refl, refl)

  pub tail_fits : suc below + length tail ≤ length stack → (depth : ℕ) (stack' : List ℕ)
      → depth ≡ suc below + length tail → stack' ≡ pushed stack (suc below) tail
      → Leaves (Pending depth n) stack' (replaced stack below (n ∷ tail))
  unfolding replaced
  tail_fits h depth stack' e f =
      leaves_same (Pending depth n) stack' _ (by_test (ltb (length stack) (suc below + length tail)))
      (sym (ap by_test (le-ltb (length stack) (suc below + length tail) h))) (ap (λ (d : ℕ). Pending d n) e, f)

-- ---- a tail in the image's bytes

module _ (bytes stack : List ℕ) (at below : ℕ) (some_members : 1 ≤ get_or bytes at 0)
    (inside : at + 1 + get_or bytes at 0 ≤ length bytes) where
  abbrev size : ℕ
  size = get_or bytes at 0

  abbrev rest : List ℕ
  rest = part bytes (at + 2) (size - 1)

  abbrev first_member : ℕ
  first_member = get_or bytes (at + 1) 0

  length_rest : length rest ≡ size - 1
  length_rest = simp (length-take, length-drop) (omega arith)

  part_first : part bytes (at + 1) size ≡ first_member ∷ rest
  part_first =
      let i = at + 1 in
      let e : size ≡ suc (size - 1) = omega arith in
      let f : suc i ≡ at + 2 = omega arith in
      let within : i < length bytes = omega arith in
      ap (λ (s : ℕ). take s (drop i bytes)) e
      ∙ ap (take (suc (size - 1))) (drop-cons bytes i 0 within)
      ∙ ap (λ (j : ℕ). get_or bytes i 0 ∷ take (size - 1) (drop j bytes)) f

  pub long_too_deep : below < length stack → length stack - below < size
      → Leaves TooDeep stack (replaced stack below (part bytes (at + 1) size))
  long_too_deep u h =
      leaves_same TooDeep stack _ _ (sym (ap (replaced stack below) part_first))
      (tail_too_deep stack below first_member rest (omega (arith, length_rest, u, h, some_members)))

  pub long_fits : below < length stack → size ≤ length stack - below → (stack' : List ℕ) → stack' ≡ pushed stack (below + 1) rest
      → Leaves (Pending (below + size) first_member) stack' (replaced stack below (part bytes (at + 1) size))
  long_fits u h stack' f =
      let room : suc below + length rest ≤ length stack = omega (arith, length_rest, u, h, some_members) in
      let depth : below + size ≡ suc below + length rest = omega (arith, length_rest, some_members) in
      let base : below + 1 ≡ suc below = omega arith in
      leaves_same (Pending (below + size) first_member) stack' _ _ (sym (ap (replaced stack below) part_first))
      (tail_fits stack below first_member rest room (below + size) stack' depth (f ∙ ap (λ (b : ℕ). pushed stack b rest) base))

-- ---- a tail by its entry

module _ (bytes : List ℕ) (start entry : ℕ) (stack : List ℕ) (below : ℕ) (under : below < length stack) where
  abbrev step : TakeStep
  step = replaced stack below (entry_tail bytes start entry)

  by_size : (k : ℕ) → entry / 16384 ≡ k → replaced stack below (tail_by k bytes start entry) ≡ step
  by_size k e = sym (ap (λ (j : ℕ). replaced stack below (tail_by j bytes start entry)) e)

  pub entry_of-none : entry / 16384 ≡ 0 → Leaves (Pending below (get_or stack below 0)) stack step
  unfolding tail_by replaced
  entry_of-none e = leaves_same _ stack _ step (by_size 0 e) (refl, refl)

  pub entry_of_one : entry / 16384 ≡ 1 → Leaves (Pending (below + 1) (entry % 64)) stack step
  unfolding tail_by pushed
  entry_of_one e =
      leaves_same (Pending (below + 1) (entry % 64)) stack _ step (by_size 1 e)
      (tail_fits stack below (entry % 64) [] (omega (arith, under)) (below + 1) stack (omega arith) refl)

  pub entry_of_two_deep : entry / 16384 ≡ 2 → length stack - below < 2 → Leaves TooDeep stack step
  unfolding tail_by
  entry_of_two_deep e h =
      leaves_same TooDeep stack _ step (by_size 2 e)
      (tail_too_deep stack below (entry % 64) (entry / 64 % 64 ∷ []) (omega (arith, under, h)))

  pub entry_of_two : entry / 16384 ≡ 2 → 2 ≤ length stack - below
      → Leaves (Pending (below + 2) (entry % 64)) (set stack (below + 1) (entry / 64 % 64)) step
  unfolding tail_by pushed
  entry_of_two e h =
      let top : below + 1 ≡ suc below + 0 = omega arith in
      leaves_same (Pending (below + 2) (entry % 64)) (set stack (below + 1) (entry / 64 % 64)) _ step (by_size 2 e)
      (tail_fits stack below (entry % 64) (entry / 64 % 64 ∷ []) (omega (arith, under, h)) (below + 2)
      (set stack (below + 1) (entry / 64 % 64)) (omega arith) (ap (λ (j : ℕ). set stack j (entry / 64 % 64)) top))

  pub entry_of-more : entry / 16384 ≡ 3 → (r : Taken) (stack' : List ℕ)
      → Leaves r stack'
      (replaced stack below (part bytes (start + entry % 16384 + 1) (get_or bytes (start + entry % 16384) 0)))
      → Leaves r stack' step
  unfolding tail_by
  entry_of-more e r stack' h = leaves_same r stack' _ step (by_size 3 e) h
