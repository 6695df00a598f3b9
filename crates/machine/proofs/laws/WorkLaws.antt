-- What the turns of a reading cost at most: with walks that are made again where they are in vain, the text's length and the budget; with
-- alive positions alone, the text's length. And turns to one place have one cost. What the code does is not said here.
use Rattle.std.specs.Prelude.{◌≡◌, List, length, drop}
use Rattle.std.proofs.Math.Path.{refl, ap}
use Rattle.std.proofs.Common.{sym, ◌∙◌, length-drop}
use Rattle.std.proofs.Math.Logic.{⊎_elim}
use Prim.Native.Nat.{ℕ, zero, suc, ◌+◌, ◌-◌, ◌≤◌, ◌<◌}
use native.Mathlib.Omega.{arith}
use Rattle.basics.proofs.laws.Order.{compare_cases}
use Rattle.lexer.specs.Positions.{Position}
use Rattle.lexer.specs.Match.{matched}
use Rattle.lexer.specs.Walk.{longest_match}
use Rattle.lexer.specs.Alive.{walk_bytes, match_bytes, vain_bytes, cut_bytes}
use Rattle.lexer.proofs.laws.LongestMatchLaws.{match_within}
use Rattle.lexer.proofs.laws.AliveLaws.{cut_bytes_right, walk_bytes_most, match_bytes_most}
use Rattle.lexer.proofs.laws.VainLaws.{match_or-vain}
use Rattle.machine.specs.Work.{charge, least_budget, budget, TurnsTo, none_yet, one_more}

-- What may be charged is the text's length, and at most a fixed number more.
pub budget_covers : (text : List ℕ) → length text ≤ budget text
unfolding budget
budget_covers text = omega arith

pub budget_most : (text : List ℕ) → budget text ≤ length text + least_budget
unfolding budget
budget_most text = omega arith

-- A place, and what was walked, charged and walked with alive positions up to it.
record Sums : Type 0 where
  place : ℕ
  walked : ℕ
  charged : ℕ
  cut : ℕ

abbrev sums : ℕ → ℕ → ℕ → ℕ → Sums
sums place walked charged cut = record { place = place; walked = walked; charged = charged; cut = cut }

module _ (ps : List Position) (first : ℕ) (text : List ℕ) where
  -- A walk goes over the bytes of its match, and else it is charged.
  walked_or_charged : (rest : List ℕ) → walk_bytes ps first rest ≤ match_bytes (longest_match ps first rest) + vain_bytes ps first rest
  unfolding vain_bytes
  walked_or_charged rest =
      ⊎_elim (λ h. omega (arith, h.0)) (λ h. omega (arith, h)) (match_or-vain (walk_bytes ps first rest) (longest_match ps first rest))

  bytes_of : (rest : List ℕ) (rule n : ℕ) → longest_match ps first rest ≡ matched rule n → match_bytes (longest_match ps first rest) ≡ n
  unfolding match_bytes
  bytes_of rest rule n e = ap match_bytes e

  pub turns_within : {p w v c : ℕ} → TurnsTo ps first text p w v c → p ≤ length text
  turns_within none_yet = omega arith
  turns_within (one_more {p} rule n t l e) =
      omega (arith, l, (match_within ps first (drop p text) rule n e).1, length-drop p text)

  pub walked_at_most : {p w v c : ℕ} → TurnsTo ps first text p w v c → w ≤ p + v
  unfolding charge
  walked_at_most none_yet = omega arith
  walked_at_most (one_more {p} rule n t l e) =
      omega (arith, walked_at_most t, walked_or_charged (drop p text), bytes_of (drop p text) rule n e)

  pub cut_as_read : {p w v c : ℕ} → TurnsTo ps first text p w v c → c ≡ p
  cut_as_read none_yet = refl
  cut_as_read (one_more {p} rule n t l e) =
      omega (arith, cut_as_read t, cut_bytes_right ps first (drop p text), bytes_of (drop p text) rule n e)

  -- With what is charged within the budget, the next walk included.
  pub work_before : {p w v c : ℕ} → TurnsTo ps first text p w v c → v ≤ budget text
      → w + walk_bytes ps first (drop p text) ≤ length text + budget text
  work_before {p} t h =
      omega (arith, h, walked_at_most t, turns_within t, walk_bytes_most ps first (drop p text), length-drop p text)

  -- The walk that is made again included, where the budget allows it.
  pub work_again : {p w v c : ℕ} → TurnsTo ps first text p w v c → v + charge ps first (drop p text) ≤ budget text
      → w + (walk_bytes ps first (drop p text) + vain_bytes ps first (drop p text)) ≤ length text + budget text
  unfolding charge vain_bytes
  work_again {p} {w} {v} t h =
      ⊎_elim
      (λ z. omega (arith, z.1, work_before t (omega (arith, h))))
      (λ z. omega (arith, z, walked_at_most t, turns_within t, h))
      (match_or-vain (walk_bytes ps first (drop p text)) (longest_match ps first (drop p text)))

  -- With alive positions alone, whatever is charged.
  pub work_after : {p w v c : ℕ} → TurnsTo ps first text p w v c → c + cut_bytes ps first (drop p text) ≤ length text
  work_after {p} t =
      omega (
        arith,
        cut_as_read t,
        turns_within t,
        cut_bytes_right ps first (drop p text),
        match_bytes_most ps first (drop p text),
        walk_bytes_most ps first (drop p text),
        length-drop p text,
      )

  -- A whole reading that goes by alive positions from place p on, to place q: twice the text's length, and the budget.
  pub work_in_all : {p w v c q w' v' c' : ℕ} → TurnsTo ps first text p w v c → v ≤ budget text → TurnsTo ps first text q w' v' c' → p ≤ q
      → w + walk_bytes ps first (drop p text) + (c' - c + cut_bytes ps first (drop q text)) ≤ length text + (length text - p) + budget text
  work_in_all t h u l = omega (arith, work_before t h, work_after u, cut_as_read t, cut_as_read u, turns_within t)

  -- ---- turns to one place have one cost

  -- One more turn, by a match of so many bytes.
  abbrev turned_by : ℕ → Sums → Sums
  turned_by n a =
      let rest = drop a.place text in
      sums (a.place + n) (a.walked + (walk_bytes ps first rest + vain_bytes ps first rest)) (a.charged + charge ps first rest)
      (a.cut + cut_bytes ps first rest)

  abbrev turned : Sums → Sums
  turned a = turned_by (match_bytes (longest_match ps first (drop a.place text))) a

  after_turns : ℕ → Sums
  after_turns zero = sums 0 0 0 0
  after_turns (suc k) = turned (after_turns k)

  -- Turns to a place are so many in number, and fewer end before it, for a match has one byte or more.
  turn_count : {p w v c : ℕ} → TurnsTo ps first text p w v c
      → (k : ℕ) × (after_turns k ≡ sums p w v c) × ((j : ℕ) → j < k → (after_turns j).place < p)
  unfolding after_turns
  turn_count none_yet = (0, refl, λ j h. absurd (omega arith))
  turn_count (one_more {p} {walked = w} {charged = v} {cut = c} rule n t l e) =
      let before = turn_count t in
      let k = before.0 in
      let there : (after_turns k).place ≡ p = ap (λ (a : Sums). a.place) before.1 in
      let longer : p < p + n = omega (arith, (match_within ps first (drop p text) rule n e).0) in (
        suc k,
        ap turned before.1 ∙ ap (λ (m : ℕ). turned_by m (sums p w v c)) (bytes_of (drop p text) rule n e),
        λ j h.
            ⊎_elim
            (λ less. omega (arith, before.2 j less, longer))
            (⊎_elim (λ same. omega (arith, ap (λ (i : ℕ). (after_turns i).place) same, there, longer)) (λ more. absurd (omega arith)))
            (compare_cases j k),
      )

  pub turns_one : {p w v c w' v' c' : ℕ} → TurnsTo ps first text p w v c → TurnsTo ps first text p w' v' c'
      → (w ≡ w') × (v ≡ v') × (c ≡ c')
  turns_one {p} {w} {v} {c} {w'} {v'} {c'} t u =
      let a = turn_count t in
      let b = turn_count u in
      let same : a.0 ≡ b.0 =
      ⊎_elim
      (λ less. absurd (omega (arith, b.2 a.0 less, ap (λ (x : Sums). x.place) a.1)))
      (⊎_elim (λ e. e) (λ more. absurd (omega (arith, a.2 b.0 more, ap (λ (x : Sums). x.place) b.1))))
      (compare_cases a.0 b.0) in
      let e : sums p w v c ≡ sums p w' v' c' = sym a.1 ∙ ap after_turns same ∙ b.1 in
      (ap (λ (x : Sums). x.walked) e, ap (λ (x : Sums). x.charged) e, ap (λ (x : Sums). x.cut) e)
