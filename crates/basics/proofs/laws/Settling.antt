-- A step that is taken until it changes nothing: if what is left to change falls with each change, it does end at a place where
-- the step changes nothing, and what the step keeps holds there.
use Rattle.std.specs.Prelude.{◌≡◌, Bool, List, map, length, replicate}
use Rattle.std.proofs.Math.Path.{refl}
use Rattle.std.proofs.Common.{sym, ap, ◌∙◌, arith}
use Rattle.std.proofs.Math.Bool.{true, false}
use Prim.Native.Nat.{ℕ, zero, suc, ◌≤◌, ◌<◌}
use Rattle.basics.specs.Rounds.{rounds}
use Rattle.basics.specs.Settle.{settle}

module _ {A : Type 0} (same : A → A → Bool) (step : A → A) (P : A → Type 0) (left : A → ℕ) (keeps : (a : A) → P a → P (step a))
    (falls : (a : A) → P a → same a (step a) ≡ false → left (step a) < left a) where
  abbrev pub Settled : A → Type 0
  Settled a = P a × (same a (step a) ≡ true)

  pub settled : (k : ℕ) (a : A) → P a → left a ≤ k → Settled (settle same step k a)
  unfolding settle
  settled zero a p h = (p, go (same a (step a)) refl)
    where
      go : (b : Bool) → same a (step a) ≡ b → same a (step a) ≡ true
      go true e = e
      go false e = let f = falls a p e in absurd (omega arith)
  settled (suc k) a p h = go (settled k (step a) (keeps a p)) (same a (step a)) refl
    where
      go : (left (step a) ≤ k → Settled (settle same step k (step a))) → (b : Bool) → same a (step a) ≡ b
          → Settled (elim b [ true ↦ a | false ↦ settle same step k (step a) ])
      go ih true e = (p, e)
      go ih false e = let f = falls a p e in ih (omega arith)

-- What the step keeps holds wherever it ends.
pub settle_keeps : {A : Type 0} (same : A → A → Bool) (step : A → A) (P : A → Type 0) → ((a : A) → P a → P (step a)) → (k : ℕ) (a : A) → P a
    → P (settle same step k a)
unfolding settle
settle_keeps same step P keeps zero a p = p
settle_keeps same step P keeps (suc k) a p = go (settle_keeps same step P keeps k (step a) (keeps a p)) (same a (step a))
  where
    go : P (settle same step k (step a)) → (b : Bool) → P (elim b [ true ↦ a | false ↦ settle same step k (step a) ])
    go ih true = p
    go ih false = ih

-- ---- where a step that changes nothing is the end, so many steps lead to the same place

-- So many steps.
unfoldable times : {A : Type 0} → (A → A) → ℕ → A → A
times step zero a = a
times step (suc k) a = times step k (step a)

times-last : {A : Type 0} (step : A → A) (k : ℕ) (a : A) → times step (suc k) a ≡ step (times step k a)
unfolding times
times-last step zero a = refl
times-last step (suc k) a = times-last step k (step a)

times_stays : {A : Type 0} (step : A → A) (k : ℕ) (a : A) → step a ≡ a → times step k a ≡ a
unfolding times
times_stays step zero a e = refl
times_stays step (suc k) a e = ap (times step k) e ∙ times_stays step k a e

settle-times : {A : Type 0} (same : A → A → Bool) (step : A → A) → ((a b : A) → same a b ≡ true → a ≡ b) → (k : ℕ) (a : A)
    → settle same step k a ≡ times step k a
unfolding settle times
settle-times same step equal zero a = refl
settle-times same step equal (suc k) a = go (settle-times same step equal k (step a)) (same a (step a)) refl
  where
    go : settle same step k (step a) ≡ times step k (step a) → (b : Bool) → same a (step a) ≡ b
        → elim b [ true ↦ a | false ↦ settle same step k (step a) ] ≡ times step k (step a)
    go ih true e = let z = sym (equal a (step a) e) in sym (ap (times step k) z ∙ times_stays step k a z)
    go ih false e = ih

rounds-times : {A E : Type 0} (least : A) (equation : List A → E → A) (es : List E) (k : ℕ)
    → rounds least equation es k ≡ times (λ (l : List A). map (equation l) es) k (replicate (length es) least)
unfolding rounds times
rounds-times least equation es zero = refl
rounds-times least equation es (suc k) =
    ap (λ (l : List _). map (equation l) es) (rounds-times least equation es k)
    ∙ sym (times-last (λ (l : List _). map (equation l) es) k (replicate (length es) least))

-- Rounds that stop once nothing changes lead to the same values.
pub settled_rounds : {A E : Type 0} (same : List A → List A → Bool) → ((a b : List A) → same a b ≡ true → a ≡ b) → (least : A)
    (equation : List A → E → A) (es : List E) (k : ℕ)
    → settle same (λ l. map (equation l) es) k (replicate (length es) least) ≡ rounds least equation es k
settled_rounds same equal least equation es k =
    settle-times same (λ l. map (equation l) es) equal k (replicate (length es) least) ∙ sym (rounds-times least equation es k)
