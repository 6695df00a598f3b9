-- One turn more: the matches found ahead that are left, and what was charged. And turns that stop at no walk in vain.
use mathlib.Core.Path.{◌≡◌, refl, sym, subst}
use mathlib.Core.List.{List, [], ◌∷◌}
use mathlib.Core.Logic.{⊎_elim}
use Prim.Native.Nat.{ℕ, suc, ◌+◌, ◌<◌}
use native.Mathlib.Omega.{arith}
use native.Mathlib.Numerals.{add-one}
use lib.ListN.{length, get_or, drop, drop_of_length-le}
use lib.Seq.{drop-cons}
use Rattle.basics.proofs.laws.Order.{lt-or-le}
use Rattle.lexer.specs.Match.{matched}
use Rattle.lexer.specs.Alive.{walk_bytes, vain_bytes, cut_bytes}
use Rattle.image.specs.Image.{Image}
use Rattle.machine.specs.Trace.{match_at, Ended}
use Rattle.machine.specs.Work.{charge, TurnsTo, one_more}
use Rattle.alive_scanner.specs.Ahead.{Ahead}
use Rattle.machine_loop.specs.declared.Turns.{Turns}
use Rattle.machine_loop.specs.declared.Turns.TheVariants.{Done, Reached, InVain}
use Rattle.machine_loop.specs.declared.Machine.{Machine}
use Rattle.machine_loop.specs.Turning.{ChargedAt, Charged, TurnsLead, NotInVain}

module _ (i : Image) (text matches : List ℕ) where
  -- The words left after one more turn: the tail, and none where there is none.
  pub by_words : (P : List ℕ → List ℕ → Type 0) (turn : ℕ) → ((word : ℕ) (words : List ℕ) → P (word ∷ words) words) → P [] []
      → P (drop turn matches) (drop (turn + 1) matches)
  by_words P turn f none =
      ⊎_elim
      (λ l.
      subst (λ (x : List ℕ). P x (drop (turn + 1) matches)) (sym (drop-cons matches turn 0 l))
      (subst (λ (k : ℕ). P (get_or matches turn 0 ∷ drop (suc turn) matches) (drop k matches)) (sym (add-one turn))
      (f (get_or matches turn 0) (drop (suc turn) matches))))
      (λ l.
      subst (λ (x : List ℕ). P x (drop (turn + 1) matches)) (sym (drop_of_length-le matches {i = turn} l))
      (subst (P []) (sym (drop_of_length-le matches {i = turn + 1} (omega arith))) none))
      (lt-or-le turn (length matches))

  module _ (p rule n turn : ℕ) (m : match_at i text p ≡ matched rule n) where
    pub ahead_next : (to : ℕ) → Ahead i.positions i.first text to p (drop turn matches)
        → Ahead i.positions i.first text to (p + n) (drop (turn + 1) matches)
    ahead_next to =
        by_words (λ (l k : List ℕ). Ahead i.positions i.first text to p l → Ahead i.positions i.first text to (p + n) k) turn
        (λ word words a. a.1 rule n m) (λ a. omega (arith, a))

    pub charged_next : (v : ℕ) → p < length text → (drop turn matches ≡ [] → vain_bytes i.positions i.first (drop p text) ≡ 0)
        → Charged i text p (drop turn matches) v → Charged i text (p + n) (drop (turn + 1) matches) v
    unfolding charge
    charged_next v inside =
        by_words
        (λ (l k : List ℕ). (l ≡ [] → vain_bytes i.positions i.first (drop p text) ≡ 0) → Charged i text p l v → Charged i text (p + n) k v) turn
        (λ word words z c. c.1 rule n m)
        (λ z c.
        let rest = drop p text in
        let walked = c.0 + (walk_bytes i.positions i.first rest + vain_bytes i.positions i.first rest) in
        let cut = c.1 + cut_bytes i.positions i.first rest in
        (walked, cut, subst (λ (x : ℕ). TurnsTo i.positions i.first text (p + n) walked x cut) (no_charge (z refl)) (one_more rule n c.2 inside m)))
      where
        no_charge : vain_bytes i.positions i.first (drop p text) ≡ 0 → v + charge i.positions i.first (drop p text) ≡ v
        no_charge z = omega (arith, z)

  -- At each place it is at most so much, if the walk there is not in vain where no match was found ahead.
  pub charged_at : (p v : ℕ) (words : List ℕ) → (words ≡ [] → vain_bytes i.positions i.first (drop p text) ≡ 0) → Charged i text p words v
      → ChargedAt i text p v
  unfolding charge
  charged_at p v [] z c = (c.0, v, c.1, c.2, omega (arith, z refl))
  charged_at p v (word ∷ words) z c = c.0

-- Matches found ahead that lead to where the turns end leave no walk to be made, so that none is in vain.
pub no_walk : (i : Image) (m : Machine) (text : List ℕ) (place : ℕ) (matches : List ℕ) (stop : ℕ) (whole : Ended) (stack : List ℕ)
    (turned : Turns) → TurnsLead i m text place matches stop stop whole stack turned → NotInVain turned
no_walk i m text place matches stop whole stack (Done a) l = tt
no_walk i m text place matches stop whole stack (Reached s) l = tt
no_walk i m text place matches stop whole stack (InVain s n) l = absurd (omega (arith, l.1, l.2))
