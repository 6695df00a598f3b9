-- Where rules never fall, the first kept position that is last has the lowest rule: over such a list `ended_rule` may be found by the
-- lowest position alone. And a walk that holds nothing finds nothing more.
use Rattle.std.specs.Prelude.{◌≡◌, refl, Bool, true, false, ◌&&◌, cond, List, [], ◌∷◌, ℕ, suc, ◌≤◌, ◌<◌, ◌^◌, min}
use Rattle.std.proofs.Common.{ap, ap₂, ◌∙◌, ⊎_elim, arith}
use Rattle.std.proofs.Math.Option.{Option, none, some}
use Rattle.std.specs.Int.Bits.{bit_or}
use Rattle.basics.specs.Bits.{bit, ◌∈◌}
use Rattle.basics.proofs.laws.BitLaws.{bit-zero}
use Rattle.basics.proofs.laws.Order.{lt-or-le}
use Rattle.lexer.specs.Positions.{Position}
use Rattle.lexer.specs.Match.{Match, longer}
use Rattle.lexer.specs.Walk.{has_byte, keep, follows, lower, ended_rule, walk}
use Rattle.lexer.proofs.laws.PositionList.{PositionFrom, first_place, later_place, place_within}
use Rattle.lexer.proofs.laws.Least.{LeastOf, least_one}
use Rattle.lexer.proofs.laws.WalkLaws.{EndsRule, ended-least}
use Rattle.lexer.specs.laws.PositionBounds.{NeverFalling}

pub rising_low : {ps : List Position} {i j : ℕ} {p : Position} (low : ℕ) → NeverFalling low ps → PositionFrom ps i j p → low ≤ p.rule
rising_low low f first_place = f.0
rising_low low f (later_place {q = q} t) = let h = rising_low q.rule f.1 t in omega (arith, f.0)

pub rising_order : {ps : List Position} {i j l : ℕ} {p q : Position} (low : ℕ) → NeverFalling low ps → PositionFrom ps i j p
    → PositionFrom ps i l q → j ≤ l → p.rule ≤ q.rule
rising_order low f first_place first_place h = omega arith
rising_order low f (first_place {p = p}) (later_place u) h = rising_low p.rule f.1 u
rising_order low f (later_place t) first_place h = let w = place_within t in absurd (omega arith)
rising_order low f (later_place {q = q} t) (later_place u) h = rising_order q.rule f.1 t u h

-- The rule of the first kept position, from position i on, that is last.
unfoldable pub first_ended : List Position → ℕ → ℕ → Option ℕ
first_ended [] i kept = none
first_ended (p ∷ ps) i kept = elim (bit kept i && p.last) [ true ↦ some p.rule | false ↦ first_ended ps (suc i) kept ]

lower_stays : (p : Position) (ps : List Position) (i kept : ℕ) → NeverFalling p.rule ps → (o : Option ℕ) → LeastOf (EndsRule ps i kept) o
    → lower p.rule o ≡ some p.rule
unfolding lower
lower_stays p ps i kept f none h = refl
lower_stays p ps i kept f (some m) h =
    let l : p.rule ≤ h.0.1.rule = rising_low p.rule f h.0.2 in
    let e : min p.rule m ≡ p.rule = omega (arith, h.0.5) in
    ap (λ (x : ℕ). some x) e

pub ended-first : (ps : List Position) (low : ℕ) → NeverFalling low ps → (i kept : ℕ) → ended_rule ps i kept ≡ first_ended ps i kept
unfolding ended_rule first_ended
ended-first [] low f i kept = refl
ended-first (p ∷ ps) low f i kept = go (bit kept i && p.last) (ended-first ps p.rule f.1 (suc i) kept)
  where
    go : (b : Bool) → ended_rule ps (suc i) kept ≡ first_ended ps (suc i) kept
        → ◌≡◌ {A = Option ℕ} (elim b [ true ↦ lower p.rule (ended_rule ps (suc i) kept) | false ↦ ended_rule ps (suc i) kept ])
        (elim b [ true ↦ some p.rule | false ↦ first_ended ps (suc i) kept ])
    go true h = lower_stays p ps (suc i) kept f.1 (ended_rule ps (suc i) kept) (ended-least ps (suc i) kept)
    go false h = h

-- The same by places: the lowest kept place that is last, and none.
pub ended-at : {ps : List Position} {i j : ℕ} {p : Position} (low : ℕ) → NeverFalling low ps → (kept : ℕ) → PositionFrom ps i j p
    → j ∈ kept → p.last ≡ true
    → ((l : ℕ) (q : Position) → l < j → PositionFrom ps i l q → l ∈ kept → q.last ≡ true → ⊥) → ended_rule ps i kept ≡ some p.rule
ended-at {ps} {i} {j} {p} low f kept t h e g =
    least_one (EndsRule ps i kept) (ended_rule ps i kept) (some p.rule) (ended-least ps i kept) (
      (j, p, t, h, e, refl),
      λ k l x.
          ⊎_elim (λ y. g x.0 x.1 y x.2 x.3 x.4) (λ y. omega (arith, rising_order low f t x.2 y, x.5)) (lt-or-le x.0 j),
    )

pub ended_none : (ps : List Position) (i kept : ℕ) → ((j : ℕ) (p : Position) → PositionFrom ps i j p → j ∈ kept → p.last ≡ true → ⊥)
    → ended_rule ps i kept ≡ none
ended_none ps i kept f =
    least_one (EndsRule ps i kept) (ended_rule ps i kept) none (ended-least ps i kept) (λ k x. f x.0 x.1 x.2 x.3 x.4)

-- Nothing held: nothing is kept, nothing ends, and the match found so far stays.
pub keep_nothing : (ps : List Position) (i b : ℕ) → keep ps i 0 b ≡ 0
unfolding keep
keep_nothing [] i b = refl
keep_nothing (p ∷ ps) i b =
    ap₂ (λ (x : Bool) (s : ℕ). bit_or (cond (x && has_byte p b) (2 ^ i) 0) s) (bit-zero i) (keep_nothing ps (suc i) b)

pub follows_nothing : (ps : List Position) (i : ℕ) → follows ps i 0 ≡ 0
unfolding follows
follows_nothing [] i = refl
follows_nothing (p ∷ ps) i = ap₂ (λ (x : Bool) (s : ℕ). bit_or (cond x p.follow 0) s) (bit-zero i) (follows_nothing ps (suc i))

pub ended_nothing : (ps : List Position) (i : ℕ) → ended_rule ps i 0 ≡ none
unfolding ended_rule
ended_nothing [] i = refl
ended_nothing (p ∷ ps) i =
    ap (λ (x : Bool). elim (x && p.last) [ true ↦ lower p.rule (ended_rule ps (suc i) 0) | false ↦ ended_rule ps (suc i) 0 ]) (bit-zero i)
    ∙ ended_nothing ps (suc i)

pub walk_nothing : (ps : List Position) (text : List ℕ) (n : ℕ) (best : Match) → walk ps 0 text n best ≡ best
unfolding walk longer
walk_nothing ps [] n best = refl
walk_nothing ps (b ∷ text) n best =
    let k : keep ps 0 0 b ≡ 0 = keep_nothing ps 0 b in
    let h : follows ps 0 (keep ps 0 0 b) ≡ 0 = ap (follows ps 0) k ∙ follows_nothing ps 0 in
    let o : ended_rule ps 0 (keep ps 0 0 b) ≡ none = ap (ended_rule ps 0) k ∙ ended_nothing ps 0 in
    ap₂ (λ (s : ℕ) (x : Option ℕ). walk ps s text (suc n) (longer x (suc n) best)) h o ∙ walk_nothing ps text (suc n) best
