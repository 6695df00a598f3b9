-- Worked cases: the image of sheet D, as values, in the image's order of rules and with the rules numbered as they stand. Its bytes are
-- elsewhere.
use Rattle.std.specs.Prelude.{◌≡◌, refl, true, false, List, [], ◌∷◌, ℕ}
use Rattle.sheet.specs.SheetD.{sheet_D}
use Rattle.normal_form.specs.Productions.{Production}
use Rattle.image.specs.Image.{plain_image, image_of}
use Rattle.image.specs.laws.Computing.{computing_image}

abbrev production : ℕ → List ℕ → Production
production rule tail = record { head = rule; tail = tail }

-- The words `/` and blank are rules 0 and 1, and the digits are rule 2.
pub image_of_D : image_of sheet_D ≡ record {
  skips = false ∷ true ∷ false ∷ [];
  positions = record { low = 47; high = 47; rule = 0; last = true; follow = 0 }
      ∷ record { low = 32; high = 32; rule = 1; last = true; follow = 0 }
      ∷ record { low = 48; high = 57; rule = 2; last = true; follow = 8 }
      ∷ record { low = 48; high = 57; rule = 2; last = true; follow = 8 }
      ∷ [];
  first = 7;
  rows = record { has_epsilon = false; productions = production 2 (1 ∷ []) ∷ [] }
      ∷ record { has_epsilon = true; productions = production 0 (2 ∷ []) ∷ [] }
      ∷ record { has_epsilon = false; productions = production 2 (3 ∷ []) ∷ [] }
      ∷ record { has_epsilon = true; productions = production 0 (2 ∷ []) ∷ [] }
      ∷ [];
}
unfolding computing_image
image_of_D = refl

-- As document 01 lists it, before request [4].
pub plain_image_of_D : plain_image sheet_D ≡ record {
  skips = false ∷ false ∷ true ∷ [];
  positions = record { low = 48; high = 57; rule = 0; last = true; follow = 2 }
      ∷ record { low = 48; high = 57; rule = 0; last = true; follow = 2 }
      ∷ record { low = 47; high = 47; rule = 1; last = true; follow = 0 }
      ∷ record { low = 32; high = 32; rule = 2; last = true; follow = 0 }
      ∷ [];
  first = 13;
  rows = record { has_epsilon = false; productions = production 0 (1 ∷ []) ∷ [] }
      ∷ record { has_epsilon = true; productions = production 1 (2 ∷ []) ∷ [] }
      ∷ record { has_epsilon = false; productions = production 0 (3 ∷ []) ∷ [] }
      ∷ record { has_epsilon = true; productions = production 1 (2 ∷ []) ∷ [] }
      ∷ [];
}
unfolding computing_image
plain_image_of_D = refl
