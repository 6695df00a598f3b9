-- Laws of a whole image: what reading one answers, and what the tables hold at the end.
use mathlib.Core.Path.{◌≡◌, refl, sym, ap, subst, ◌∙◌}
use mathlib.Core.List.{List}
use Prim.Native.Nat.{ℕ, zero, suc, ◌+◌, ◌*◌}
use native.Mathlib.Omega.{arith}
use lib.ListN.{length, get_or, drop, replicate, length-replicate}
use lib.Seq.{get_or-drop}
use Rattle.std.specs.Prelude.{Result, Ok, Err}
use Rattle.sheet.specs.Field.{Reading, stop, got}
use Rattle.normal_form.specs.Productions.{Row, row_of}
use Rattle.class_table.specs.Holding.{SweptOver}
use Rattle.image.specs.Image.{Image}
use Rattle.image_reader.specs.Tables.{EntriesOf, RowsHeld, Room}
use Rattle.image_reader.specs.Decoded.{Decoded, tables_of, ImageAnswers}
use Rattle.image_reader.specs.declared.ImageRead.{ImageRead}
use Rattle.image_reader.specs.declared.Unreadable.{Unreadable}

-- ---- answers

ok_err : {A E X : Type 0} {a : A} {e : E} → ◌≡◌ {A = Result A E} (Ok a) (Err e) → X
ok_err {A} {E} {X} e = let z : ◌≡◌ {A = ℕ} 0 1 = cc in absurd (omega arith)

ok_injective : {A E : Type 0} {a b : A} → ◌≡◌ {A = Result A E} (Ok a) (Ok b) → a ≡ b
ok_injective e = cc

err_injective : {A E : Type 0} {a b : E} → ◌≡◌ {A = Result A E} (Err a) (Err b) → a ≡ b
err_injective e = cc

module _ {bytes : List ℕ} {tables productions : List ℕ} {x : Reading Image}
    (tables_size : length tables ≡ 448) (productions_size : length productions ≡ 2048) where
  pub image_readable : {read : ImageRead} (i : Image) → x ≡ got i (length bytes) → Decoded bytes (tables_of read tables productions) i
      → ImageAnswers bytes (Ok read) tables productions x
  image_readable i h d = record {
    tables_size = tables_size;
    productions_size = productions_size;
    readable = λ e. (i, h, subst (λ (r : ImageRead). Decoded bytes (tables_of r tables productions) i) (ok_injective e) d);
    refusal = λ e. ok_err e;
  }

  pub image_refused : {e : Unreadable} → x ≡ stop 13 e.place → ImageAnswers bytes (Err e) tables productions x
  image_refused h = record {
    tables_size = tables_size;
    productions_size = productions_size;
    readable = λ f. ok_err (sym f);
    refusal = λ f. h ∙ ap (λ (e : Unreadable). stop 13 e.place) (err_injective f);
  }

-- ---- the table before any row

zeros : (n k : ℕ) → ◌≡◌ {A = ℕ} (get_or (replicate n 0) k 0) 0
zeros zero k = refl
zeros (suc n) zero = refl
zeros (suc n) (suc k) = zeros n k

pub room-whole : Room (replicate 2048 0) 0
room-whole = record { size = length-replicate {A = ℕ} 2048 0; zero_from = λ k h. zeros 2048 k }

-- The sweep leaves the starts of the rows.
pub rows-swept : (bytes : List ℕ) (n : ℕ) (t t' table : List ℕ) (s : ℕ) (rows : List Row) → SweptOver t t'
    → RowsHeld bytes n (drop 384 t) table s rows → RowsHeld bytes n (drop 384 t') table s rows
rows-swept bytes n t t' table s rows w h = record {
  size = h.size;
  empty = h.empty;
  entries = λ m l. subst (λ (x : ℕ). EntriesOf bytes x n table (m * 32) (row_of rows m).productions)
      (get_or-drop 384 t m 0 ∙ sym (w.others (384 + m) (omega arith)) ∙ sym (get_or-drop 384 t' m 0)) (h.entries m l);
}
