-- The walk over a set as the code goes: the positions met so far and the members left are the positions that the walk meets, each once and
-- rising; and what was joined is what stands at those met.
use mathlib.Core.Path.{◌≡◌, refl, sym, ap, ◌∙◌}
use mathlib.Core.List.{List, [], ◌∷◌, ◌++◌, append-nil, append_assoc}
use Prim.Native.Nat.{ℕ, ◌<◌, ◌^◌}
use lib.Bits.{bit_or, or_zero_l, or_zero_r}
use lib.ListN.{get_or}
use Rattle.basics.proofs.laws.BitLaws.{or_assoc}
use Rattle.lexer.specs.SetWalk.{set_walk, members}
use Rattle.lexer.proofs.laws.SetWalkLaws.{members-zero, walk-meets-members}
use Rattle.scanner.specs.Sets.{joined}

pub record Walked (sets : List ℕ) (set left so_far : ℕ) : Type 0 where
  pub met : List ℕ
  pub in_order : set_walk set ≡ met ++ members left
  pub at_met : so_far ≡ joined sets met

-- One position more is met.
joined_more : (sets l : List ℕ) (i : ℕ) → bit_or (joined sets l) (get_or sets i 0) ≡ joined sets (l ++ (i ∷ []))
unfolding joined
joined_more sets [] i = or_zero_l (get_or sets i 0) ∙ sym (or_zero_r (get_or sets i 0))
joined_more sets (j ∷ l) i =
    or_assoc (get_or sets j 0) (joined sets l) (get_or sets i 0) ∙ ap (bit_or (get_or sets j 0)) (joined_more sets l i)

module _ (sets : List ℕ) (set : ℕ) where
  pub walked_start : set < 2 ^ 64 → Walked sets set set 0
  unfolding joined
  walked_start l = record { met = []; in_order = walk-meets-members set l; at_met = refl }

  pub walked_step : (left so_far i others : ℕ) → members left ≡ i ∷ members others → Walked sets set left so_far
      → Walked sets set others (bit_or so_far (get_or sets i 0))
  walked_step left so_far i others e w = record {
    met = w.met ++ (i ∷ []);
    in_order = w.in_order ∙ ap (λ (l : List ℕ). w.met ++ l) e ∙ sym (append_assoc w.met (i ∷ []) (members others));
    at_met = ap (λ (s : ℕ). bit_or s (get_or sets i 0)) w.at_met ∙ joined_more sets w.met i;
  }

  pub walked_end : (left so_far : ℕ) → left ≡ 0 → Walked sets set left so_far → so_far ≡ joined sets (set_walk set)
  walked_end left so_far e w =
      let all : set_walk set ≡ w.met =
      w.in_order ∙ ap (λ (l : List ℕ). w.met ++ l) (ap members e ∙ members-zero) ∙ append-nil w.met in
      w.at_met ∙ ap (joined sets) (sym all)
