-- One byte to the left by the tables: the last positions and those that lead to alive ones, as far as the byte's class has them, are the
-- positions alive before it.
use mathlib.Core.Path.{◌≡◌, sym, ap, subst, ◌∙◌}
use mathlib.Core.Bool.{true, cond}
use mathlib.Core.List.{List, [], ◌∷◌}
use mathlib.Core.Logic.{◌⊎◌, inl, inr, ⊎_elim}
use Prim.Native.Nat.{ℕ, zero, suc, ◌+◌, ◌^◌, ◌≤◌, ◌<◌}
use native.Mathlib.Omega.{arith}
use lib.Bits.{bit_or, bit_and}
use lib.ListN.{get_or, drop}
use Rattle.basics.specs.Bits.{bit, ◌∈◌}
use Rattle.basics.proofs.laws.BitLaws.{∈_cases, ∈_left, ∈_right, ∈_zero, ∈_cond, ∈_when, ∈_one, ∈_self}
use Rattle.basics.proofs.laws.Order.{compare_cases}
use Rattle.lexer.specs.Positions.{Position}
use Rattle.lexer.specs.Walk.{has_byte}
use Rattle.lexer.specs.Alive.{meets, alive_before}
use Rattle.lexer.proofs.laws.PositionList.{PositionFrom, first_place, later_place, place_within}
use Rattle.lexer.proofs.laws.AliveLaws.{in_both, both_in, same_members, meets-some, last-alive, leading-alive, in_alive}
use Rattle.scanner.specs.ClassTable.{having}
use Rattle.scanner.specs.Meaning.{HeldAt}
use Rattle.leading_sets.specs.Leading.{over_positions, leading_part, leading}
use Rattle.alive_scanner.specs.Blocks.{AliveReady}

-- The members of a class table's set.
having_in : {ps : List Position} {i j : ℕ} {p : Position} → PositionFrom ps i j p → (b : ℕ) → has_byte p b ≡ true → j ∈ having ps i b
unfolding having
having_in (first_place {p = p} {i = i}) b e = ∈_left (cond (has_byte p b) (2 ^ i) 0) _ i (∈_when (has_byte p b) (2 ^ i) i e (∈_self i))
having_in (later_place {q = q} {i = i} {j = j} t) b e = ∈_right (cond (has_byte q b) (2 ^ i) 0) _ j (having_in t b e)

in_having : (ps : List Position) (i b j : ℕ) → j ∈ having ps i b → (p : Position) × PositionFrom ps i j p × (has_byte p b ≡ true)
unfolding having
in_having [] i b j h = ∈_zero j h
in_having (p ∷ ps) i b j h =
    ⊎_elim
    (λ x.
    let y = ∈_cond (has_byte p b) (2 ^ i) j x in
    subst (λ (k : ℕ). (q : Position) × PositionFrom (p ∷ ps) i k q × (has_byte q b ≡ true)) (∈_one i j y.1) (p, first_place, y.0))
    (λ x. let y = in_having ps (suc i) b j x in (y.0, later_place y.1, y.2))
    (∈_cases (cond (has_byte p b) (2 ^ i) 0) (having ps (suc i) b) j h)

-- The members of what leads to a set.
in_leading : (follow : List ℕ) (set i n j : ℕ) → j ∈ over_positions (leading_part follow set) i n → meets (get_or follow j 0) set ≡ true
unfolding over_positions leading_part
in_leading follow set i zero j h = ∈_zero j h
in_leading follow set i (suc n) j h =
    ⊎_elim
    (λ x.
    let y = ∈_cond (meets (get_or follow i 0) set) (2 ^ i) j x in
    subst (λ (k : ℕ). meets (get_or follow k 0) set ≡ true) (∈_one i j y.1) y.0)
    (λ x. in_leading follow set (suc i) n j x)
    (∈_cases (leading_part follow set i) (over_positions (leading_part follow set) (suc i) n) j h)

leading_in : (follow : List ℕ) (set i n j : ℕ) → i ≤ j → j < i + n → meets (get_or follow j 0) set ≡ true
    → j ∈ over_positions (leading_part follow set) i n
unfolding over_positions leading_part
leading_in follow set i zero j l m e = absurd (omega arith)
leading_in follow set i (suc n) j l m e = go (compare_cases i j) (λ k. leading_in follow set (suc i) n j k (omega arith) e)
  where
    go : (i < j) ⊎ ((i ≡ j) ⊎ (j < i)) → (suc i ≤ j → j ∈ over_positions (leading_part follow set) (suc i) n)
        → j ∈ bit_or (leading_part follow set i) (over_positions (leading_part follow set) (suc i) n)
    go (inl k) f = ∈_right (leading_part follow set i) (over_positions (leading_part follow set) (suc i) n) j (f k)
    go (inr (inl k)) f =
        ∈_left (leading_part follow set i) (over_positions (leading_part follow set) (suc i) n) j
        (subst (λ (x : ℕ). x ∈ leading_part follow set i) k
        (∈_when (meets (get_or follow i 0) set) (2 ^ i) i (subst (λ (x : ℕ). meets (get_or follow x 0) set ≡ true) (sym k) e) (∈_self i)))
    go (inr (inr k)) f = absurd (omega arith)

-- A position's follow set and whether it is last, as the tables have them.
held_place : (tables : List ℕ) (last : ℕ) {ps : List Position} {i j : ℕ} {p : Position} → HeldAt tables last i ps → PositionFrom ps i j p
    → (get_or (drop 256 tables) j 0 ≡ p.follow) × (bit last j ≡ p.last)
held_place tables last h first_place = (h.0, h.2)
held_place tables last h (later_place t) = held_place tables last h.3 t

module _ (ps : List Position) (last : ℕ) (tables unions : List ℕ) (ready : AliveReady ps last tables unions) where
  abbrev follow : List ℕ
  follow = drop 256 tables

  abbrev before : ℕ → ℕ
  before next = bit_or last (leading follow next)

  to_alive : (b next j : ℕ) → j ∈ bit_and (before next) (having ps 0 b) → j ∈ alive_before ps b next
  to_alive b next j h =
      let both = in_both (before next) (having ps 0 b) j h in
      let k = in_having ps 0 b j both.1 in
      let p = held_place tables last ready.prepared.held k.1 in
      ⊎_elim
      (λ l. last-alive k.1 b next k.2 (sym p.1 ∙ l))
      (λ x.
      let y = meets-some (get_or follow j 0) next (in_leading follow next 0 64 j x) in
      leading-alive k.1 b next y.0 k.2 (subst (λ (s : ℕ). y.0 ∈ s) p.0 y.1) y.2)
      (∈_cases last (leading follow next) j both.0)

  from_alive : (b next j : ℕ) → j ∈ alive_before ps b next → j ∈ bit_and (before next) (having ps 0 b)
  from_alive b next j h =
      let a = in_alive ps b next j h in
      let p = held_place tables last ready.prepared.held a.1 in
      let w = place_within a.1 in
      both_in (before next) (having ps 0 b) j
      (⊎_elim
      (λ l. ∈_left last (leading follow next) j (p.1 ∙ l))
      (λ m.
      ∈_right last (leading follow next) j
      (leading_in follow next 0 64 j (omega arith) (omega (arith, w, ready.prepared.few))
      (ap (λ (s : ℕ). meets s next) p.0 ∙ m)))
      a.3)
      (having_in a.1 b a.2)

  pub backward : (b next : ℕ) → b < 256 → bit_and (before next) (get_or tables b 0) ≡ alive_before ps b next
  backward b next small =
      ap (bit_and (before next)) (ready.prepared.own_classes b small)
      ∙ same_members (bit_and (before next) (having ps 0 b)) (alive_before ps b next) (to_alive b next) (from_alive b next)
