-- Sheet D's image, byte for byte, and that it is what is written for sheet D. It is the one that document 01 lists with the rules in another
-- order: from request [4] on the words `/` and blank are rules 0 and 1 of the image, and the digits are rule 2.
use Rattle.std.specs.Prelude.{◌≡◌, refl, List, [], ◌∷◌, ◌++◌, ℕ}
use Rattle.sheet.specs.SheetD.{bytes_of_D}
use Rattle.image.specs.Check.{work_bytes}
use Rattle.image.specs.Write.{written, write}
use Rattle.image.specs.laws.Computing.{computing_image}

-- The part of the image that D's rules alone make: version, skips, positions and first set.
abbrev pub rules_of_image_D : List ℕ
rules_of_image_D =
    1 ∷ 3 ∷ 0 ∷ 1 ∷ 0 ∷ 4
    ∷ 47 ∷ 47 ∷ 0 ∷ 1 ∷ 0
    ∷ 32 ∷ 32 ∷ 1 ∷ 1 ∷ 0
    ∷ 48 ∷ 57 ∷ 2 ∷ 1 ∷ 8
    ∷ 48 ∷ 57 ∷ 2 ∷ 1 ∷ 8
    ∷ 7 ∷ []

abbrev pub image_D : List ℕ
image_D =
    rules_of_image_D
    ++ (4 ∷ 0 ∷ 1 ∷ 2 ∷ 1 ∷ 1 ∷ 1 ∷ 1 ∷ 0 ∷ 1 ∷ 2 ∷ 0 ∷ 1 ∷ 2 ∷ 1 ∷ 3 ∷ 1 ∷ 1 ∷ 0 ∷ 1 ∷ 2 ∷ [])

-- This image is written for sheet D, with the work area that document 01 names and room for any image.
pub D_written : write bytes_of_D work_bytes 65536 ≡ written image_D
unfolding computing_image
D_written = refl
