-- What is held before a set, remembered by byte: for each byte a set, and the last positions with those that lead to the set.
use mathlib.Core.Path.{◌≡◌, sym, ap, ◌∙◌}
use mathlib.Core.List.{List}
use Prim.Native.Nat.{ℕ, ◌<◌}
use native.Mathlib.Omega.{arith}
use native.Mathlib.Decide.{ℕ_discrete}
use lib.Bits.{bit_or, or_zero_r}
use lib.ListN.{length, get_or, set, replicate, length-set, length-replicate, get_or-replicate}
use lib.Seq.{get_or-set_same, get_or-set_other}
use Rattle.leading_sets.specs.Leading.{leading, Unions}
use Rattle.leading_sets.proofs.laws.LeadingLaws.{leading_joins}

-- Entry b of `held-sets` is held before entry b of `sets`, whatever positions the unions are of.
pub record Remembered (last : ℕ) (unions sets held_sets : List ℕ) : Type 0 where
  pub sets_whole : length sets ≡ 256
  pub held_sets_whole : length held_sets ≡ 256
  pub held_of : (follow : List ℕ) → Unions follow unions → (b : ℕ) → b < 256 → get_or held_sets b 0 ≡ bit_or last (leading follow (get_or sets b 0))

-- Before no position the last ones are held.
pub remembered_none : (last : ℕ) (unions : List ℕ) → Remembered last unions (replicate 256 0) (replicate 256 last)
remembered_none last unions = record {
  sets_whole = length-replicate {A = ℕ} 256 0;
  held_sets_whole = length-replicate 256 last;
  held_of = λ follow u b l.
      get_or-replicate 256 b last 0 l
      ∙ sym (ap (λ (x : ℕ). bit_or last (leading follow x)) (get_or-replicate {A = ℕ} 256 b 0 0 l) ∙ ap (bit_or last) (leading_joins follow).none ∙ or_zero_r last);
}

-- One more pair, at its byte.
pub remembered_more : (last : ℕ) (unions sets held_sets : List ℕ) (byte next held : ℕ) → byte < 256
    → ((follow : List ℕ) → Unions follow unions → held ≡ bit_or last (leading follow next))
    → Remembered last unions sets held_sets → Remembered last unions (set sets byte next) (set held_sets byte held)
remembered_more last unions sets held_sets byte next held small e old = record {
  sets_whole = simp length-set old.sets_whole;
  held_sets_whole = simp length-set old.held_sets_whole;
  held_of = λ follow u b l.
      elim (ℕ_discrete b byte) [
        | yes z ↦
            rw z
            (get_or-set_same held_sets byte held 0 (omega (arith, old.held_sets_whole)) ∙ e follow u
            ∙ ap (λ (x : ℕ). bit_or last (leading follow x)) (sym (get_or-set_same sets byte next 0 (omega (arith, old.sets_whole)))))
        | no z ↦
            get_or-set_other held_sets byte b held 0 z ∙ old.held_of follow u b l
            ∙ ap (λ (x : ℕ). bit_or last (leading follow x)) (sym (get_or-set_other sets byte b next 0 z))
      ];
}
