-- A front that is filled with zeros, up to the count or to the buffer's end. On plain lists: nothing here speaks of the code.
use Rattle.std.specs.Prelude.{◌≡◌, List, ◌++◌, ℕ, min, length, take, drop, replicate}
use Rattle.std.proofs.Common.{refl, ap₂, ◌∙◌, arith, length-take-le}
use Rattle.std.proofs.lemmas.List.{drop_min}
use Rattle.buffers.specs.Cleared.{cleared}

pub filled : (n : ℕ) (d : List ℕ) {stop : ℕ} {p : List ℕ} → stop ≡ min n (length d) → p ≡ replicate (length (take stop d)) 0
    → p ++ drop stop d ≡ cleared n d
unfolding cleared
filled n d {stop} {p} s e =
    let l : length (take stop d) ≡ min n (length d) = length-take-le stop d (omega arith) ∙ s in
    rw (e, l, s) (ap₂ ◌++◌ refl (drop_min n d))
