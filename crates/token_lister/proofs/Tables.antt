-- The tables of the positions that columns hold: one position more, and all of them after the sweep.
use mathlib.Core.Path.{◌≡◌, refl, sym, ap, ◌∙◌, subst}
use mathlib.Core.List.{List, [], ◌∷◌, ◌++◌}
use Prim.Native.Nat.{ℕ, ◌+◌, ◌^◌, ◌≤◌, ◌<◌}
use native.Mathlib.Omega.{arith}
use native.Mathlib.Numerals.{add-one}
use lib.ListN.{length, get_or, take}
use lib.Seq.{take-suc, take_all, length-take-le}
use Rattle.basics.specs.Bits.{bit}
use Rattle.basics.proofs.laws.Members.{all-at}
use Rattle.lexer.specs.Positions.{Position}
use Rattle.lexer.specs.laws.PositionBounds.{ByteClass, PositionsInRange}
use Rattle.columns.specs.HeldPositions.{held_position, held_positions}
use Rattle.columns.proofs.laws.HeldAt.{positions-counted, position-held}
use Rattle.columns.specs.declared.PositionColumns.{PositionColumns}
use Rattle.scanner.specs.Meaning.{Prepared}
use Rattle.class_table.specs.Holding.{position, no_position, Joined, Holding, SweptOver}
use Rattle.class_table.proofs.laws.JoiningLaws.{holds_more}
use Rattle.class_table.proofs.laws.HoldingLaws.{swept_prepared}

module _ (p : PositionColumns) (rules : ℕ) (most : rules ≤ 32) (range : PositionsInRange rules (held_positions p) p.first) where
  abbrev all : List Position
  all = held_positions p

  size : length (held_positions p) ≡ p.count
  size = positions-counted p (held_positions p) refl

  pub few : p.count ≤ 64
  few = omega (arith, size, range.count_most)

  -- Position i, as its columns have it.
  entry : (i : ℕ) → i < p.count
      → position (get_or p.low i 0) (get_or p.high i 0) (get_or p.rule i 0) (bit p.last i) (get_or p.follow i 0)
      ≡ get_or (held_positions p) i no_position
  unfolding held_position
  entry i l = position-held p all refl i no_position l

  pub held-more : (i one : ℕ) (t t' : List ℕ) → i < p.count → one ≡ 2 ^ i
      → Joined t (get_or p.low i 0) (get_or p.high i 0) (get_or p.rule i 0) (get_or p.follow i 0) i one t'
      → Holding (take i (held_positions p)) t → Holding (take (i + 1) (held_positions p)) t'
  held-more i one t t' l e j h =
      let inside : i < length all = omega (arith, size) in
      let under : (get_or all i no_position).rule < rules = all-at (λ q. q.rule < rules) all range.rules_under i no_position inside in
      let byte : get_or p.rule i 0 < 256 = omega (arith, ap (λ (q : Position). q.rule) (entry i l)) in
      subst (λ (ps : List Position). Holding ps t')
      (ap (λ (q : Position). take i all ++ (q ∷ [])) (entry i l)
      ∙ sym (take-suc all i no_position inside)
      ∙ ap (λ (n : ℕ). take n all) (sym (add-one i)))
      (holds_more (take i all) _ _ _ (bit p.last i) _ i one t t' byte (length-take-le i all (omega arith)) (omega (arith, few)) e j h)

  pub all-swept : (i : ℕ) (t t' : List ℕ) → p.count ≤ i → Holding (take i (held_positions p)) t → SweptOver t t'
      → Prepared (held_positions p) p.last t'
  all-swept i t t' l h s =
      swept_prepared all t t' p.last (subst (λ (ps : List Position). Holding ps t) (take_all i all (omega (arith, size))) h) s
      (omega (arith, size, few))
      (λ k m. (all-at ByteClass all range.byte_classes k no_position m).0)
      (λ k m. ap (λ (q : Position). q.last) (entry k (omega (arith, size))))
      range.rules_rising
