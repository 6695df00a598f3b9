-- Checking and writing as a pair: "A sheet passes checking exactly if some image buffer is long enough for writing it." It holds of every
-- work area and of whatever is handed over as a sheet, since writing is checking and then question 11.
use Rattle.std.proofs.Math.Path.{◌≡◌, refl, ap, subst}
use Rattle.std.proofs.Common.{sym, ◌∙◌, arith, le-leb, leb-true}
use Rattle.std.specs.Prelude.{Bool, ◌↔◌, ℕ, ◌≤◌}
use Rattle.std.proofs.Math.Bool.{true, false, cond}
use mathlib.Core.List.{List}
use Rattle.std.proofs.Math.ListN.{length}
use Rattle.std.proofs.Math.Dec.{leb}
use Rattle.sheet.specs.Sheet.{Sheet}
use Rattle.image.specs.Image.{image_of, image_bytes}
use Rattle.image.specs.Check.{Verdict, failed, passed, check}
use Rattle.image.specs.Write.{refused, too_long, written, fitted, after_checking, write}

-- The ways to end are different.
pub not_written : {X : Type 0} {question place : ℕ} {image : List ℕ} → refused question place ≡ written image → X
not_written e = let z : ◌≡◌ {A = ℕ} 0 1 = cc in absurd (omega arith)

pub not_long : {X : Type 0} {needed : ℕ} {image : List ℕ} → too_long needed ≡ written image → X
not_long e = let z : ◌≡◌ {A = ℕ} 0 1 = cc in absurd (omega arith)

module _ (room : ℕ) where
  -- Question 11 is passed by an image exactly if it is no longer than the buffer, and it is then what was to be written.
  pub fitting : (image : List ℕ) → length image ≤ room → fitted room image ≡ written image
  unfolding fitted
  fitting image l = rw (le-leb (length image) room l)

  fitted_image : (image other : List ℕ) → fitted room other ≡ written image → (image ≡ other) × (length image ≤ room)
  unfolding fitted
  fitted_image image other e = go (leb (length other) room) refl e
    where
      go : (b : Bool) → leb (length other) room ≡ b → cond b (written other) (too_long (length other)) ≡ written image
          → (image ≡ other) × (length image ≤ room)
      go true l e = let z : other ≡ image = cc in (sym z, subst (λ (i : List ℕ). length i ≤ room) z (leb-true (length other) room l))
      go false l e = not_long e

  -- So an image is written only for a sheet that passes, and it is that sheet's.
  passed_by : (v : Verdict) (image : List ℕ) → after_checking room v ≡ written image
      → (s : Sheet) × (v ≡ passed s) × (image ≡ image_bytes (image_of s)) × (length image ≤ room)
  unfolding after_checking
  passed_by (failed question place) image e = not_written e
  passed_by (passed s) image e = let f = fitted_image image (image_bytes (image_of s)) e in (s, refl, f.0, f.1)

module _ (sheet : List ℕ) (work : ℕ) where
  -- A sheet that passes is written into every buffer from its image's own length on.
  pub passed_written : (s : Sheet) → check sheet work ≡ passed s → (room : ℕ) → length (image_bytes (image_of s)) ≤ room
      → write sheet work room ≡ written (image_bytes (image_of s))
  unfolding write after_checking
  passed_written s e room l = ap (after_checking room) e ∙ fitting room (image_bytes (image_of s)) l

  -- What was written is the image of a sheet that passes, and it fits.
  pub written_passed : (room : ℕ) (image : List ℕ) → write sheet work room ≡ written image
      → (s : Sheet) × (check sheet work ≡ passed s) × (image ≡ image_bytes (image_of s)) × (length image ≤ room)
  unfolding write
  written_passed room image e = passed_by room (check sheet work) image e

  -- "A sheet passes checking exactly if some image buffer is long enough for writing it."
  pub passes_exactly : ((s : Sheet) × (check sheet work ≡ passed s))
      ↔ ((room : ℕ) × (image : List ℕ) × (write sheet work room ≡ written image))
  passes_exactly = (
    (λ h. (length (image_bytes (image_of h.0)), image_bytes (image_of h.0), passed_written h.0 h.1 _ (omega arith))),
    λ h. let p = written_passed h.0 h.1 h.2 in (p.0, p.1),
  )

  -- The buffers for which it does are those from the image's own length on.
  pub written_from : (room : ℕ) (image : List ℕ) → write sheet work room ≡ written image → (other : ℕ)
      → (write sheet work other ≡ written image) ↔ (length image ≤ other)
  written_from room image e other =
      let p = written_passed room image e in (
        (λ f. (written_passed other image f).3),
        λ l. subst (λ (i : List ℕ). length i ≤ other → write sheet work other ≡ written i) (sym p.2) (passed_written p.0 p.1 other) l,
      )

  -- Where a question from 1 to 10 fails, writing refuses by it, and by no other.
  refused_by : (room : ℕ) (v : Verdict) (question place : ℕ) → after_checking room v ≡ refused question place → v ≡ failed question place
  unfolding after_checking fitted
  refused_by room (failed q p) question place e = cc
  refused_by room (passed s) question place e = go (leb (length (image_bytes (image_of s))) room) e
    where
      go : (b : Bool) → cond b (written (image_bytes (image_of s))) (too_long (length (image_bytes (image_of s)))) ≡ refused question place
          → passed s ≡ failed question place
      go true e = let z : ◌≡◌ {A = ℕ} 0 1 = cc in absurd (omega arith)
      go false e = let z : ◌≡◌ {A = ℕ} 0 1 = cc in absurd (omega arith)

  pub refused_exactly : (room question place : ℕ) → (write sheet work room ≡ refused question place) ↔ (check sheet work ≡ failed question place)
  unfolding write after_checking
  refused_exactly room question place = (refused_by room (check sheet work) question place, λ e. ap (after_checking room) e)
