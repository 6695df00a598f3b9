-- Laws of the sets of a class table: which positions are in the set of a byte. How a table is filled is not asked here.
use Rattle.std.specs.Prelude.{◌≡◌, ◌&&◌, ◌||◌, List, ◌∷◌, ℕ, suc, eqb}
use Rattle.basics.specs.Bits.{bit}
use Rattle.basics.proofs.laws.BitLaws.{bit-or, bit_one_if}
use Rattle.lexer.specs.Positions.{Position}
use Rattle.lexer.specs.Walk.{has_byte}
use Rattle.scanner.specs.ClassTable.{having}

-- The first position, and those after it.
pub having-first : (p : Position) (ps : List Position) (i b j : ℕ)
    → bit (having (p ∷ ps) i b) j ≡ ((has_byte p b && eqb i j) || bit (having ps (suc i) b) j)
unfolding having
having-first p ps i b j = simp (bit-or, bit_one_if)
