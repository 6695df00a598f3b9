-- What the functions that go through the pending nonterminals answer, from the first on: the taker, and whether all are nullable.
use Rattle.std.specs.Prelude.{Option, Some, None}
use mathlib.Core.Path.{◌≡◌, refl, sym, ap, ◌∙◌}
use mathlib.Core.Bool.{Bool, true, false, ◌&&◌}
use mathlib.Core.List.{List}
use Prim.Native.Nat.{ℕ, zero, suc, ◌+◌, ◌-◌, ◌*◌, ◌≤◌, ◌<◌}
use native.Mathlib.Omega.{arith}
use lib.ListN.{get_or}
use borrow.Author.Tests.{eq-eqb, ne_eqb}
use Rattle.basics.specs.Bits.{bit}
use Rattle.machine_turn.specs.Stack.{pending}
use Rattle.machine_turn.proofs.laws.StackLaws.{pending-stacked}
use Rattle.machine_turn.specs.Steps.{taker, all_members}
use Rattle.machine_turn.specs.declared.Taker.{Taker}

-- ---- the taker, from the first on

module _ (productions : List ℕ) (empty : ℕ) (stack : List ℕ) (rule : ℕ) where
  abbrev taker_at : ℕ → ℕ → Taker
  taker_at below n = record { below = below; nonterminal = n; entry = get_or productions (n * 32 + rule) 0 }

  abbrev entry_of : ℕ → ℕ
  entry_of n = get_or productions (n * 32 + rule) 0

  found_first : (below n : ℕ) → (entry_of n ≡ 0 → ⊥) → Some (taker_at below n) ≡ taker productions empty stack (suc below) n rule
  unfolding taker
  found_first below n e = rw (ne_eqb (entry_of n) 0 e)

  stops_first : (below n : ℕ) → entry_of n ≡ 0 → bit empty n ≡ false → None ≡ taker productions empty stack (suc below) n rule
  unfolding taker
  stops_first below n e f = rw (eq-eqb (entry_of n) 0 e, f)

  passes_first : (below n : ℕ) → entry_of n ≡ 0 → bit empty n ≡ true
      → (t : Option Taker) → taker productions empty stack below (get_or stack below 0) rule ≡ t
      → taker productions empty stack (suc below) n rule ≡ t
  unfolding taker
  passes_first below n e f t g = rw (eq-eqb (entry_of n) 0 e, f) g

  before_first : (depth n : ℕ) → 0 < depth
      → taker productions empty stack (suc (depth - 1)) n rule ≡ taker productions empty stack depth n rule
  before_first depth n k = let e : suc (depth - 1) ≡ depth = omega arith in ap (λ (d : ℕ). taker productions empty stack d n rule) e

  pub taker_found : (depth n : ℕ) → 0 < depth → (entry_of n ≡ 0 → ⊥)
      → Some (taker_at (depth - 1) n) ≡ taker productions empty stack depth n rule
  taker_found depth n k e = found_first (depth - 1) n e ∙ before_first depth n k

  pub taker_stops : (depth n : ℕ) → 0 < depth → entry_of n ≡ 0 → bit empty n ≡ false
      → None ≡ taker productions empty stack depth n rule
  taker_stops depth n k e f = stops_first (depth - 1) n e f ∙ before_first depth n k

  pub taker_passes : (depth n : ℕ) → 0 < depth → entry_of n ≡ 0 → bit empty n ≡ true
      → taker productions empty stack (depth - 1) (get_or stack (depth - 1) 0) rule ≡ taker productions empty stack depth n rule
  taker_passes depth n k e f = sym (passes_first (depth - 1) n e f _ refl) ∙ before_first depth n k

  pub taker-none : (depth n : ℕ) → depth ≤ 0 → None ≡ taker productions empty stack depth n rule
  unfolding taker
  taker-none zero n k = refl
  taker-none (suc depth) n k = absurd (omega arith)

-- ---- all nullable, from the first on

module _ (empty : ℕ) (stack : List ℕ) where
  abbrev behind : ℕ → Bool
  behind depth = all_members empty (pending stack (depth - 1) (get_or stack (depth - 1) 0))

  members_first : (depth n : ℕ) → 0 < depth → bit empty n && behind depth ≡ all_members empty (pending stack depth n)
  unfolding pending all_members
  members_first depth n k =
      let e : suc (depth - 1) ≡ depth = omega arith in
      ap (λ (l : List ℕ). bit empty n && all_members empty l) (pending-stacked stack (depth - 1))
      ∙ ap (λ (d : ℕ). all_members empty (pending stack d n)) e

  pub members_stop : (depth n : ℕ) → 0 < depth → bit empty n ≡ false → false ≡ all_members empty (pending stack depth n)
  members_stop depth n k e = sym (ap (λ (b : Bool). b && behind depth) e) ∙ members_first depth n k

  pub members_pass : (depth n : ℕ) → 0 < depth → bit empty n ≡ true
      → all_members empty (pending stack (depth - 1) (get_or stack (depth - 1) 0)) ≡ all_members empty (pending stack depth n)
  members_pass depth n k e = sym (ap (λ (b : Bool). b && behind depth) e) ∙ members_first depth n k

  pub members-none : (depth n : ℕ) → depth ≤ 0 → true ≡ all_members empty (pending stack depth n)
  unfolding pending all_members
  members-none zero n k = refl
  members-none (suc depth) n k = absurd (omega arith)
