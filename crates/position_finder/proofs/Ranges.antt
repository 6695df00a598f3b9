-- Several regexes, each with its positions after those before it: what the sets of all of them are at a position of the first one,
-- and at a later position.
use mathlib.Core.Path.{◌≡◌, refl, sym, ap, ◌∙◌}
use mathlib.Core.Bool as B
use mathlib.Core.Bool.{Bool, true, false, ◌||◌, cond}
use mathlib.Core.List.{List, [], ◌∷◌}
use mathlib.Core.Logic.{⊎_elim}
use Prim.Native.Nat.{ℕ, suc, ◌+◌, ◌≤◌, ◌<◌}
use native.Mathlib.Omega.{arith}
use lib.Bits.{bit_or, or_zero_r}
use borrow.Author.Tests.{lt-ltb, le-ltb}
use Rattle.basics.specs.Bits.{bit, ◌∈◌}
use Rattle.basics.proofs.laws.BitLaws.{bit-or, bit-zero, bit_ext_all, ∈_cases, ∈_zero}
use Rattle.sheet.specs.Regex.{Regex, class_count}
use Rattle.lexer.specs.Positions.{last, follow}
use Rattle.lexer.proofs.laws.PositionSets.{last_within, follow_within}
use Rattle.position_finder.specs.Forests.{all_last, all_follow, owner}

no_member : (s i : ℕ) → (i ∈ s → ⊥) → bit s i ≡ false
no_member s i f = go (bit s i) refl
  where
    go : (b : Bool) → bit s i ≡ b → bit s i ≡ false
    go true e = absurd (f e)
    go false e = e

no_members : (s : ℕ) → ((i : ℕ) → i ∈ s → ⊥) → s ≡ 0
no_members s f = bit_ext_all s 0 (λ i. no_member s i (f i) ∙ sym (bit-zero i))

last_from : (rs : List Regex) (base i : ℕ) → i ∈ all_last rs base → base ≤ i
unfolding all_last
last_from [] base i h = ∈_zero i h
last_from (r ∷ rs) base i h =
    ⊎_elim (λ x. (last_within r base i x).0) (λ x. let y = last_from rs (base + class_count r) i x in omega arith)
    (∈_cases (last r base) (all_last rs (base + class_count r)) i h)

follow_from : (rs : List Regex) (base p i : ℕ) → i ∈ all_follow rs base p → base ≤ p
unfolding all_follow
follow_from [] base p i h = ∈_zero i h
follow_from (r ∷ rs) base p i h =
    ⊎_elim (λ x. (follow_within r base p i x).0.0) (λ x. let y = follow_from rs (base + class_count r) p i x in omega arith)
    (∈_cases (follow r base p) (all_follow rs (base + class_count r) p) i h)

module _ (r : Regex) (rs : List Regex) (base p : ℕ) where
  pub last-here : p < base + class_count r → bit (all_last (r ∷ rs) base) p ≡ bit (last r base) p
  unfolding all_last
  last-here h =
      let rest = all_last rs (base + class_count r) in
      bit-or (last r base) rest p
      ∙ ap (λ (b : Bool). bit (last r base) p || b) (no_member rest p (λ x. let y = last_from rs (base + class_count r) p x in omega arith))
      ∙ B.or-false (bit (last r base) p)

  pub last_later : base + class_count r ≤ p → bit (all_last (r ∷ rs) base) p ≡ bit (all_last rs (base + class_count r)) p
  unfolding all_last
  last_later h =
      let rest = all_last rs (base + class_count r) in
      bit-or (last r base) rest p
      ∙ ap (λ (b : Bool). b || bit rest p) (no_member (last r base) p (λ x. let y = last_within r base p x in omega arith))

  pub follow-here : p < base + class_count r → all_follow (r ∷ rs) base p ≡ follow r base p
  unfolding all_follow
  follow-here h =
      ap (bit_or (follow r base p))
      (no_members (all_follow rs (base + class_count r) p) (λ i x. let y = follow_from rs (base + class_count r) p i x in omega arith))
      ∙ or_zero_r (follow r base p)

  pub follow_later : base + class_count r ≤ p → all_follow (r ∷ rs) base p ≡ all_follow rs (base + class_count r) p
  unfolding all_follow
  follow_later h =
      ap (λ (s : ℕ). bit_or s (all_follow rs (base + class_count r) p))
      (no_members (follow r base p) (λ i x. let y = (follow_within r base p i x).0 in omega arith))

  pub owner-here : (k : ℕ) → p < base + class_count r → owner (r ∷ rs) k base p ≡ k
  unfolding owner
  owner-here k h = ap (λ (t : Bool). cond t k (owner rs (suc k) (base + class_count r) p)) (lt-ltb p (base + class_count r) h)

  pub owner_later : (k : ℕ) → base + class_count r ≤ p → owner (r ∷ rs) k base p ≡ owner rs (suc k) (base + class_count r) p
  unfolding owner
  owner_later k h = ap (λ (t : Bool). cond t k (owner rs (suc k) (base + class_count r) p)) (le-ltb p (base + class_count r) h)
