-- How long the numbers of a line can be, so that a buffer for the longest line has room for every
-- line; and that the written front of a buffer is the line.
use Rattle.std.specs.Prelude.{◌≡◌, List, [], ◌∷◌, ◌++◌, ℕ, ◌+◌, ◌^◌, ◌≤◌, ◌<◌, length, take, drop}
use Rattle.std.proofs.Common.{sym, ap, ◌∙◌, arith, length-append, take_at}
use Rattle.lines.specs.declared.Line.{Line}
use Rattle.lines.specs.Decimal.{decimal}
use Rattle.lines.specs.Lines.{numbers_bytes, line_bytes}
use Rattle.lines.proofs.laws.DecimalLaws.{decimal-length}

-- A blank and the digits of each number, and the line end.
length-numbers : (n : ℕ) (rest : List ℕ)
    → length (numbers_bytes (n ∷ rest)) ≡ 1 + length (decimal n) + length (numbers_bytes rest)
unfolding numbers_bytes
length-numbers n rest = simp length-append (omega arith)

pub one_number : (n : ℕ) → n < 2 ^ 64 → length (numbers_bytes (n ∷ [])) ≤ 22
unfolding numbers_bytes
one_number n h = omega (arith, length-numbers n [], decimal-length 19 n (omega arith))

pub two_numbers : (n m : ℕ) → n < 256 → m < 2 ^ 64 → length (numbers_bytes (n ∷ m ∷ [])) ≤ 26
two_numbers n m h k =
    omega (arith, length-numbers n (m ∷ []), decimal-length 2 n (omega arith), one_number m k)

-- A line was written over the front of d, which is p then, and r is its length.
module _ (l : Line) (d : List ℕ) {r : ℕ} {p : List ℕ} (er : r ≡ length (line_bytes l))
    (ep : p ≡ line_bytes l ++ drop (length (line_bytes l)) d) where
  pub front_is : take r p ≡ line_bytes l
  front_is = rw ep (take_at (line_bytes l) (drop (length (line_bytes l)) d) r (sym er))

  pub front-counts : (r ≤ length p) × (r ≡ length (take r p))
  front-counts = (
    omega (arith, ap length ep ∙ length-append (line_bytes l) (drop (length (line_bytes l)) d)),
    er ∙ sym (ap length front_is),
  )
