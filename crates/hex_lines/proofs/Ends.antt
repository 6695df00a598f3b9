-- How long a line is, by the place of its line end. On plain lists: nothing here speaks of the code.
use Rattle.std.proofs.Common.{◌≡◌, ◌≢◌, ℕ, zero, suc, ◌+◌, ◌<◌, List, [], ◌∷◌, length, get_or, arith, ap, refl, ◌∙◌, eq-eqb, ne_eqb}
use Rattle.std.proofs.lemmas.Bool.{cond-true, cond-false}
use Rattle.hex_lines.specs.LineEnds.{line_length}

-- The line end is at a place, and none before it.
pub ends_at : (xs : List ℕ) (i : ℕ) → i < length xs → get_or xs i 0 ≡ 10 → ((k : ℕ) → k < i → get_or xs k 0 ≢ 10) → line_length xs ≡ i + 1
unfolding line_length
ends_at [] i l h n = absurd (omega arith)
ends_at (x ∷ xs) zero l h n = cond-true _ _ _ (eq-eqb x 10 h)
ends_at (x ∷ xs) (suc i) l h n =
    let rest : line_length xs ≡ i + 1 = ends_at xs i (omega arith) h (λ k m. n (suc k) (omega arith)) in
    cond-false _ _ _ (ne_eqb x 10 (n zero (omega arith))) ∙ omega arith

-- There is none.
pub ends_never : (xs : List ℕ) → ((k : ℕ) → k < length xs → get_or xs k 0 ≢ 10) → line_length xs ≡ length xs
unfolding line_length
ends_never [] n = refl
ends_never (x ∷ xs) n = cond-false _ _ _ (ne_eqb x 10 (n zero (omega arith))) ∙ ap suc (ends_never xs (λ k m. n (suc k) (omega arith)))
