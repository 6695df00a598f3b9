-- Worked lines, in ASCII.
use Rattle.std.specs.Prelude.{◌≡◌, refl, [], ◌∷◌}
use Rattle.lines.specs.declared.Line.TheVariants.{Sheet, Text, Accepted}
use Rattle.lines.specs.Decimal.{digits_in, decimal}
use Rattle.lines.specs.Lines.{numbers_bytes, line_bytes}

-- `accepted 3`
pub accepted_3 : line_bytes (Accepted 3)
    ≡ 97 ∷ 99 ∷ 99 ∷ 101 ∷ 112 ∷ 116 ∷ 101 ∷ 100 ∷ 32 ∷ 51 ∷ 10 ∷ []
unfolding line_bytes numbers_bytes decimal digits_in
accepted_3 = refl

-- `text 15 3`
pub text_15_3 : line_bytes (Text 15 3)
    ≡ 116 ∷ 101 ∷ 120 ∷ 116 ∷ 32 ∷ 49 ∷ 53 ∷ 32 ∷ 51 ∷ 10 ∷ []
unfolding line_bytes numbers_bytes decimal digits_in
text_15_3 = refl

-- `sheet 11 0`
pub sheet_11_0 : line_bytes (Sheet 11 0)
    ≡ 115 ∷ 104 ∷ 101 ∷ 101 ∷ 116 ∷ 32 ∷ 49 ∷ 49 ∷ 32 ∷ 48 ∷ 10 ∷ []
unfolding line_bytes numbers_bytes decimal digits_in
sheet_11_0 = refl
