-- The members of a regex's first, last and follow sets, by its parts; and where they lie: a regex of n byte classes whose positions
-- start at a base has its sets within base .. base + n. Which words the sets stand for is said in Chains.
use Rattle.std.specs.Prelude.{◌≡◌, true, ◌⊎◌, ℕ, ◌+◌, ◌≤◌, ◌<◌}
use Rattle.std.proofs.Math.Bool.{cond}
use Rattle.std.proofs.Math.Logic.{inl, inr, ⊎_elim}
use Rattle.std.proofs.Common.{arith}
use Rattle.std.specs.Int.Bits.{bit_or}
use Rattle.basics.specs.Bits.{bit, ◌∈◌}
use Rattle.basics.proofs.laws.BitLaws.{∈_cases, ∈_left, ∈_right, ∈_zero, ∈_cond, ∈_when, ∈_one}
use Rattle.sheet.specs.Regex.{Regex, empty, class, concat, union, star, class_count}
use Rattle.lexer.specs.Positions.{nullable, first, last, follow}

-- A concatenation begins as its first part does, or as its second if the first has the empty word; it ends as its second part does,
-- or as its first if the second has the empty word; and from an end of the first it goes on at a beginning of the second.
module _ (r s : Regex) (base : ℕ) where
  pub concat_first_right : nullable r ≡ true → (q : ℕ) → q ∈ first s (base + class_count r) → q ∈ first (concat r s) base
  unfolding first
  concat_first_right e q h = ∈_right (first r base) _ q (∈_when (nullable r) (first s (base + class_count r)) q e h)

  pub concat_first_left : (q : ℕ) → q ∈ first r base → q ∈ first (concat r s) base
  unfolding first
  concat_first_left q h = ∈_left (first r base) _ q h

  pub concat_first-cases : (q : ℕ) → q ∈ first (concat r s) base
      → (q ∈ first r base) ⊎ ((nullable r ≡ true) × (q ∈ first s (base + class_count r)))
  unfolding first
  concat_first-cases q h =
      ⊎_elim inl (λ x. inr (∈_cond (nullable r) (first s (base + class_count r)) q x))
      (∈_cases (first r base) (cond (nullable r) (first s (base + class_count r)) 0) q h)

  pub concat_last_left : nullable s ≡ true → (q : ℕ) → q ∈ last r base → q ∈ last (concat r s) base
  unfolding last
  concat_last_left e q h = ∈_left (cond (nullable s) (last r base) 0) _ q (∈_when (nullable s) (last r base) q e h)

  pub concat_last_right : (q : ℕ) → q ∈ last s (base + class_count r) → q ∈ last (concat r s) base
  unfolding last
  concat_last_right q h = ∈_right (cond (nullable s) (last r base) 0) _ q h

  pub concat_last-cases : (q : ℕ) → q ∈ last (concat r s) base
      → ((nullable s ≡ true) × (q ∈ last r base)) ⊎ (q ∈ last s (base + class_count r))
  unfolding last
  concat_last-cases q h =
      ⊎_elim (λ x. inl (∈_cond (nullable s) (last r base) q x)) inr
      (∈_cases (cond (nullable s) (last r base) 0) (last s (base + class_count r)) q h)

  pub concat_follow_join : (p q : ℕ) → p ∈ last r base → q ∈ first s (base + class_count r) → q ∈ follow (concat r s) base p
  unfolding follow
  concat_follow_join p q h k =
      ∈_right (bit_or (follow r base p) (follow s (base + class_count r) p)) _ q
      (∈_when (bit (last r base) p) (first s (base + class_count r)) q h k)

  pub concat_follow_left : (p q : ℕ) → q ∈ follow r base p → q ∈ follow (concat r s) base p
  unfolding follow
  concat_follow_left p q h =
      ∈_left (bit_or (follow r base p) (follow s (base + class_count r) p)) _ q (∈_left (follow r base p) _ q h)

  pub concat_follow_right : (p q : ℕ) → q ∈ follow s (base + class_count r) p → q ∈ follow (concat r s) base p
  unfolding follow
  concat_follow_right p q h =
      ∈_left (bit_or (follow r base p) (follow s (base + class_count r) p)) _ q (∈_right (follow r base p) _ q h)

  pub concat_follow-cases : (p q : ℕ) → q ∈ follow (concat r s) base p
      → (q ∈ follow r base p) ⊎ ((q ∈ follow s (base + class_count r) p) ⊎ ((p ∈ last r base) × (q ∈ first s (base + class_count r))))
  unfolding follow
  concat_follow-cases p q h =
      let join = cond (bit (last r base) p) (first s (base + class_count r)) 0 in
      ⊎_elim
      (λ x. ⊎_elim inl (λ y. inr (inl y)) (∈_cases (follow r base p) (follow s (base + class_count r) p) q x))
      (λ x. inr (inr (∈_cond (bit (last r base) p) (first s (base + class_count r)) q x)))
      (∈_cases (bit_or (follow r base p) (follow s (base + class_count r) p)) join q h)

-- A union's sets are those of both parts together.
module _ (r s : Regex) (base : ℕ) where
  pub union_first_left : (q : ℕ) → q ∈ first r base → q ∈ first (union r s) base
  unfolding first
  union_first_left q h = ∈_left (first r base) _ q h

  pub union_first_right : (q : ℕ) → q ∈ first s (base + class_count r) → q ∈ first (union r s) base
  unfolding first
  union_first_right q h = ∈_right (first r base) _ q h

  pub union_first-cases : (q : ℕ) → q ∈ first (union r s) base → (q ∈ first r base) ⊎ (q ∈ first s (base + class_count r))
  unfolding first
  union_first-cases q h = ∈_cases (first r base) (first s (base + class_count r)) q h

  pub union_last_left : (q : ℕ) → q ∈ last r base → q ∈ last (union r s) base
  unfolding last
  union_last_left q h = ∈_left (last r base) _ q h

  pub union_last_right : (q : ℕ) → q ∈ last s (base + class_count r) → q ∈ last (union r s) base
  unfolding last
  union_last_right q h = ∈_right (last r base) _ q h

  pub union_last-cases : (q : ℕ) → q ∈ last (union r s) base → (q ∈ last r base) ⊎ (q ∈ last s (base + class_count r))
  unfolding last
  union_last-cases q h = ∈_cases (last r base) (last s (base + class_count r)) q h

  pub union_follow_left : (p q : ℕ) → q ∈ follow r base p → q ∈ follow (union r s) base p
  unfolding follow
  union_follow_left p q h = ∈_left (follow r base p) _ q h

  pub union_follow_right : (p q : ℕ) → q ∈ follow s (base + class_count r) p → q ∈ follow (union r s) base p
  unfolding follow
  union_follow_right p q h = ∈_right (follow r base p) _ q h

  pub union_follow-cases : (p q : ℕ) → q ∈ follow (union r s) base p → (q ∈ follow r base p) ⊎ (q ∈ follow s (base + class_count r) p)
  unfolding follow
  union_follow-cases p q h = ∈_cases (follow r base p) (follow s (base + class_count r) p) q h

-- A star begins and ends as its part does, and goes on from an end of the part at a beginning.
module _ (r : Regex) (base : ℕ) where
  pub star_follow_again : (p q : ℕ) → p ∈ last r base → q ∈ first r base → q ∈ follow (star r) base p
  unfolding follow
  star_follow_again p q h k = ∈_right (follow r base p) _ q (∈_when (bit (last r base) p) (first r base) q h k)

  pub star_follow : (p q : ℕ) → q ∈ follow r base p → q ∈ follow (star r) base p
  unfolding follow
  star_follow p q h = ∈_left (follow r base p) _ q h

  pub star_follow-cases : (p q : ℕ) → q ∈ follow (star r) base p → (q ∈ follow r base p) ⊎ ((p ∈ last r base) × (q ∈ first r base))
  unfolding follow
  star_follow-cases p q h =
      ⊎_elim inl (λ x. inr (∈_cond (bit (last r base) p) (first r base) q x))
      (∈_cases (follow r base p) (cond (bit (last r base) p) (first r base) 0) q h)

-- i is one of the n positions from a base on.
abbrev pub Within : ℕ → ℕ → ℕ → Type 0
Within base n i = (base ≤ i) × (i < base + n)

-- A position is not in two neighbouring ranges.
pub not_both : {X : Type 0} (base n m i : ℕ) → Within base n i → Within (base + n) m i → X
not_both base n m i h k = absurd (omega arith)

-- What is in either of two neighbouring ranges is in both together.
either_within : (base n m i : ℕ) → Within base n i ⊎ Within (base + n) m i → Within base (n + m) i
either_within base n m i h = ⊎_elim (λ x. omega arith) (λ x. omega arith) h

pub first_within : (r : Regex) (base i : ℕ) → i ∈ first r base → Within base (class_count r) i
unfolding first class_count
first_within empty base i h = ∈_zero i h
first_within (class low high) base i h = omega (arith, ∈_one base i h)
first_within (concat r s) base i h =
    either_within base (class_count r) (class_count s) i
    (⊎_elim (λ x. inl (first_within r base i x)) (λ x. inr (first_within s (base + class_count r) i x.1))
    (concat_first-cases r s base i h))
first_within (union r s) base i h =
    either_within base (class_count r) (class_count s) i
    (⊎_elim (λ x. inl (first_within r base i x)) (λ x. inr (first_within s (base + class_count r) i x)) (union_first-cases r s base i h))
first_within (star r) base i h = first_within r base i h

pub last_within : (r : Regex) (base i : ℕ) → i ∈ last r base → Within base (class_count r) i
unfolding last class_count
last_within empty base i h = ∈_zero i h
last_within (class low high) base i h = omega (arith, ∈_one base i h)
last_within (concat r s) base i h =
    either_within base (class_count r) (class_count s) i
    (⊎_elim (λ x. inl (last_within r base i x.1)) (λ x. inr (last_within s (base + class_count r) i x)) (concat_last-cases r s base i h))
last_within (union r s) base i h =
    either_within base (class_count r) (class_count s) i
    (⊎_elim (λ x. inl (last_within r base i x)) (λ x. inr (last_within s (base + class_count r) i x)) (union_last-cases r s base i h))
last_within (star r) base i h = last_within r base i h

-- Both a position and what follows it are the regex's own.
abbrev pub BothWithin : ℕ → ℕ → ℕ → ℕ → Type 0
BothWithin base n p i = Within base n p × Within base n i

both_left : (base n m p i : ℕ) → BothWithin base n p i → BothWithin base (n + m) p i
both_left base n m p i h = (either_within base n m p (inl h.0), either_within base n m i (inl h.1))

both_right : (base n m p i : ℕ) → BothWithin (base + n) m p i → BothWithin base (n + m) p i
both_right base n m p i h = (either_within base n m p (inr h.0), either_within base n m i (inr h.1))

pub follow_within : (r : Regex) (base p i : ℕ) → i ∈ follow r base p → BothWithin base (class_count r) p i
unfolding follow class_count
follow_within empty base p i h = ∈_zero i h
follow_within (class low high) base p i h = ∈_zero i h
follow_within (concat r s) base p i h =
    let c = class_count r in
    let d = class_count s in
    ⊎_elim
    (λ x. both_left base c d p i (follow_within r base p i x))
    (⊎_elim
    (λ x. both_right base c d p i (follow_within s (base + c) p i x))
    (λ x. (
      either_within base c d p (inl (last_within r base p x.0)),
      either_within base c d i (inr (first_within s (base + c) i x.1)),
    )))
    (concat_follow-cases r s base p i h)
follow_within (union r s) base p i h =
    let c = class_count r in
    let d = class_count s in
    ⊎_elim
    (λ x. both_left base c d p i (follow_within r base p i x))
    (λ x. both_right base c d p i (follow_within s (base + c) p i x))
    (union_follow-cases r s base p i h)
follow_within (star r) base p i h =
    ⊎_elim
    (follow_within r base p i)
    (λ x. (last_within r base p x.0, first_within r base i x.1))
    (star_follow-cases r base p i h)
