-- What one walk costs: the bytes of its match, or bytes walked in vain.
use Rattle.std.specs.Prelude.{◌≡◌, Bool, true, false, refl, cond, ℕ, ◌⊎◌, eqb}
use Rattle.std.proofs.Common.{inl, inr, eqb-true}
use Rattle.lexer.specs.Match.{Match}
use Rattle.lexer.specs.Alive.{vain, match_bytes}

-- A walk goes over the bytes of its match, or it is in vain.
pub match_or-vain : (n : ℕ) (m : Match) → ((n ≡ match_bytes m) × (vain n m ≡ 0)) ⊎ (vain n m ≡ n)
unfolding vain
match_or-vain n m = go (eqb n (match_bytes m)) refl
  where
    go : (x : Bool) → eqb n (match_bytes m) ≡ x → ((n ≡ match_bytes m) × (cond x 0 n ≡ 0)) ⊎ (cond x 0 n ≡ n)
    go true e = inl (eqb-true n (match_bytes m) e, refl)
    go false e = inr refl
