-- The laws of a buffer whose front is filled with zeros.
use Rattle.std.specs.Prelude.{◌≡◌, List, ◌++◌, ℕ, min, ◌≤◌, length, drop, replicate}
use Rattle.std.proofs.Common.{append-nil, arith, length-append, length-drop, drop_of_length-le}
use Rattle.std.proofs.lemmas.List.{length-replicate}
use Rattle.buffers.specs.Cleared.{cleared}

-- A front that the buffer has.
pub cleared-front : (n : ℕ) (d : List ℕ) → n ≤ length d → cleared n d ≡ replicate n 0 ++ drop n d
unfolding cleared
cleared-front n d h = let e : min n (length d) ≡ n = omega arith in rw e

-- The whole buffer.
pub cleared-all : (n : ℕ) (d : List ℕ) → length d ≤ n → cleared n d ≡ replicate (length d) 0
unfolding cleared
cleared-all n d h =
    let e : min n (length d) ≡ length d = omega arith in
    rw (e, drop_of_length-le d {i = n} h) (append-nil (replicate (length d) 0))

-- Clearing keeps the length.
pub length-cleared : (n : ℕ) (d : List ℕ) → length (cleared n d) ≡ length d
unfolding cleared
length-cleared n d = simp (length-append, length-replicate, length-drop) (omega arith)
