-- One token more in the two arrays, or none, by a rule's action.
use mathlib.Core.Path.{◌≡◌, refl, ap, ◌∙◌}
use mathlib.Core.List.{List, [], ◌∷◌, ◌++◌, append-nil}
use Prim.Native.Nat.{ℕ, zero, suc, ◌+◌, ◌-◌, ◌<◌}
use native.Mathlib.Omega.{arith}
use lib.ListN.{length, drop, set, length-append, length-drop}
use Rattle.basics.specs.Lists.{written_over}
use Rattle.basics.proofs.laws.Buffers.{written_one}
use Rattle.recogniser.specs.Listing.{Listed, listed, with_action}
use Rattle.token_lister.specs.Listing.{joined, Written}

one_more : (new buffer list : List ℕ) (v count : ℕ) → count ≡ length new → count < length list → list ≡ written_over new buffer
    → set list count v ≡ written_over (new ++ (v ∷ [])) buffer
unfolding written_over
one_more new buffer list v count e h w =
    let size : length list ≡ length new + (length buffer - length new) =
    ap length w ∙ length-append new (drop (length new) buffer) ∙ ap (λ (k : ℕ). length new + k) (length-drop (length new) buffer) in
    let longer : suc (length new) ≡ length (new ++ (v ∷ [])) = omega (arith, length-append new (v ∷ [])) in
    ap (λ (l : List ℕ). set l count v) w
    ∙ ap (λ (k : ℕ). set (new ++ drop (length new) buffer) k v) e
    ∙ written_one new buffer v (length new) refl (omega arith)
    ∙ ap (λ (k : ℕ). (new ++ (v ∷ [])) ++ drop k buffer) longer

module _ (l : Listed) (count place : ℕ) (list list' starts starts' : List ℕ) (w : Written l count list list' starts starts') where
  pub skipped : (action : ℕ) → action ≡ 0
      → Written (joined l (with_action action place (listed [] [] place))) count list list' starts starts'
  unfolding joined with_action
  skipped zero e = record {
    tokens_counted = rw (append-nil l.tokens) w.tokens_counted;
    starts_counted = rw (append-nil l.starts) w.starts_counted;
    tokens_written = rw (append-nil l.tokens) w.tokens_written;
    starts_written = rw (append-nil l.starts) w.starts_written;
  }
  skipped (suc t) e = absurd (omega arith)

  pub token_put : (action : ℕ) → (action ≡ 0 → ⊥) → count < length list' → count < length starts'
      → Written (joined l (with_action action place (listed [] [] place))) (count + 1) list (set list' count (action - 1)) starts (set starts' count place)
  unfolding joined with_action
  token_put zero f a b = absurd (f refl)
  token_put (suc t) f a b = record {
    tokens_counted = omega (arith, w.tokens_counted, length-append l.tokens (t ∷ []));
    starts_counted = omega (arith, w.starts_counted, length-append l.starts (place ∷ []));
    tokens_written =
        ap (set list' count) (let z : suc t - 1 ≡ t = omega arith in z)
        ∙ one_more l.tokens list list' t count w.tokens_counted a w.tokens_written;
    starts_written = one_more l.starts starts starts' place count w.starts_counted b w.starts_written;
  }
