-- Laws of readings one after the other: what was read is gone on with from its end, and a refusal stays.
use mathlib.Core.Path.{◌≡◌, ap, ◌∙◌}
use mathlib.Core.List.{List}
use Prim.Native.Nat.{ℕ}
use lib.Dec.{eqb}
use Rattle.sheet.specs.Field.{Reading, stop, got, and_then, between}
use Rattle.image.specs.ImageReading.{image_field, read_flag}
use Rattle.image_reader.proofs.Parts.{flag_is}

module _ {A B : Type 0} {x : Reading A} (next : A → ℕ → Reading B) where
  pub read_on : {a : A} {end : ℕ} → x ≡ got a end → and_then x next ≡ next a end
  read_on e = ap (λ (r : Reading A). and_then r next) e

  pub read_stops : {q p : ℕ} → x ≡ stop q p → and_then x next ≡ stop q p
  read_stops e = ap (λ (r : Reading A). and_then r next) e

module _ (bytes : List ℕ) (at : ℕ) where
  pub flag_reads : {v end : ℕ} → image_field (between 0 1) bytes at ≡ got v end → read_flag bytes at ≡ got (eqb v 1) end
  flag_reads e = flag_is bytes at ∙ read_on _ e

  pub flag_stops : {q p : ℕ} → image_field (between 0 1) bytes at ≡ stop q p → read_flag bytes at ≡ stop q p
  flag_stops e = flag_is bytes at ∙ read_stops _ e
