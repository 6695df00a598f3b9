-- Laws of rows: the steps over a row are its reading, and the tables with one row more.
use mathlib.Core.Path.{◌≡◌, refl, sym, ap, subst, ◌∙◌}
use mathlib.Core.Logic.{⊎_elim}
use mathlib.Core.List.{List, [], ◌∷◌, ◌++◌}
use Prim.Native.Nat.{ℕ, ◌+◌, ◌*◌, ◌<◌}
use native.Mathlib.Omega.{arith}
use lib.ListN.{length, get_or, set, length-append}
use lib.Seq.{get_or-set_same, get_or-set_other}
use lib.Dec.{eqb}
use Rattle.basics.proofs.laws.Order.{lt-or-le}
use Rattle.sheet.specs.Field.{got, between}
use Rattle.normal_form.specs.Productions.{Row, row_of, no_productions, production_of}
use Rattle.image.specs.ImageReading.{image_field}
use Rattle.image_reader.specs.Answers.{RowEntered, with_flag}
use Rattle.image_reader.specs.Tables.{FlagsOf, EntryIs, EntriesOf, RowsHeld, Room}
use Rattle.image_reader.proofs.Fields.{field_one_byte, field_range}
use Rattle.image_reader.proofs.Flags.{flags_none, flags_more, snoc_below, snoc_last}

module _ (bytes : List ℕ) (at : ℕ) {v at_count : ℕ} (e₁ : image_field (between 0 1) bytes at ≡ got v at_count) where
  -- The ε flag and the count of a row are one byte each.
  pub row_near : {count at_first : ℕ} → ((i : ℕ) → get_or bytes i 0 < 256) → image_field (between 0 32) bytes at_count ≡ got count at_first
      → at_first ≡ at + 2
  row_near hb e₂ =
      let o₁ = field_one_byte (between 0 1) bytes at hb e₁ (omega (arith, field_range 0 1 bytes at e₁)) in
      let o₂ = field_one_byte (between 0 32) bytes at_count hb e₂ (omega (arith, field_range 0 32 bytes at_count e₂)) in
      omega (arith, o₁.after, o₂.after)

-- The rows so far, in the table: the entries of row m start at 32 m, and those of rows to come are zero.
pub record Filling (bytes : List ℕ) (n : ℕ) (starts table : List ℕ) (s i : ℕ) (rows : List Row) : Type 0 where
  pub size : length rows ≡ i
  pub empty : FlagsOf (λ row. row.has_epsilon) no_productions s rows
  pub entries : (m : ℕ) → m < i → EntriesOf bytes (get_or starts m 0) n table (m * 32) (row_of rows m).productions
  pub room : Room table (i * 32)

pub filling_none : (bytes : List ℕ) (n : ℕ) (starts table : List ℕ) → Room table 0 → Filling bytes n starts table 0 0 []
filling_none bytes n starts table z = record {
  size = refl;
  empty = flags_none (λ row. row.has_epsilon) no_productions refl;
  entries = λ m h. absurd (omega arith);
  room = z;
}

module _ (bytes : List ℕ) (n : ℕ) (starts table table' : List ℕ) (s i at v : ℕ) (rows : List Row) (row : Row)
    (f : Filling bytes n starts table s i rows) (inside : i < length starts)
    (h : RowEntered bytes at n (i * 32) table table' v row) where
  abbrev more_starts : List ℕ
  more_starts = set starts i at

  abbrev EntryAt : ℕ → ℕ → ℕ → Row → Type 0
  EntryAt start entry r x = EntryIs bytes start n entry (production_of r x.productions)

  entries_below : (m : ℕ) → m < i → EntriesOf bytes (get_or more_starts m 0) n table' (m * 32) (row_of (rows ++ (row ∷ [])) m).productions
  entries_below m l r k =
      let g : get_or table' (m * 32 + r) 0 ≡ get_or table (m * 32 + r) 0 = h.entered.same (m * 32 + r) (omega arith) in
      let o : row_of (rows ++ (row ∷ [])) m ≡ row_of rows m = snoc_below rows row no_productions m (omega (arith, f.size)) in
      let b : get_or more_starts m 0 ≡ get_or starts m 0 = get_or-set_other starts i m at 0 (λ e. omega arith) in
      subst (λ (x : ℕ). EntryAt x (get_or table' (m * 32 + r) 0) r (row_of (rows ++ (row ∷ [])) m)) (sym b)
      (subst (EntryAt (get_or starts m 0) (get_or table' (m * 32 + r) 0) r) (sym o)
      (subst (λ (x : ℕ). EntryAt (get_or starts m 0) x r (row_of rows m)) (sym g) (f.entries m l r k)))

  entries_last : (m : ℕ) → m ≡ i → EntriesOf bytes (get_or more_starts m 0) n table' (m * 32) (row_of (rows ++ (row ∷ [])) m).productions
  entries_last m e r k =
      let o : row_of (rows ++ (row ∷ [])) m ≡ row = snoc_last rows row no_productions m (f.size ∙ sym e) in
      let b : i * 32 ≡ m * 32 = ap (λ (x : ℕ). x * 32) (sym e) in
      let a : get_or more_starts m 0 ≡ at = ap (λ (x : ℕ). get_or more_starts x 0) e ∙ get_or-set_same starts i at 0 inside in
      subst (λ (x : ℕ). EntryAt x (get_or table' (m * 32 + r) 0) r (row_of (rows ++ (row ∷ [])) m)) (sym a)
      (subst (EntryAt at (get_or table' (m * 32 + r) 0) r) (sym o)
      (subst (λ (x : ℕ). EntryAt at (get_or table' (x + r) 0) r row) b (h.entered.entries r k)))

  pub filling_more : {s' : ℕ} → s' ≡ with_flag s i (eqb v 1)
      → Filling bytes n more_starts table' s' (i + 1) (rows ++ (row ∷ []))
  filling_more {s'} e = record {
    size = length-append rows (row ∷ []) ∙ ap (λ (x : ℕ). x + 1) f.size;
    empty =
        flags_more (λ row. row.has_epsilon) no_productions row s i rows refl f.size f.empty (e ∙ ap (with_flag s i) h.empty);
    entries = λ m l. ⊎_elim (λ k. entries_below m k) (λ k. entries_last m (omega arith)) (lt-or-le m i);
    room = subst (Room table') (omega arith) h.entered.room;
  }

pub filling_end : (bytes : List ℕ) (n : ℕ) (starts table : List ℕ) (s i : ℕ) (rows : List Row) → i ≡ n
    → Filling bytes n starts table s i rows → RowsHeld bytes n starts table s rows
filling_end bytes n starts table s i rows e f = record {
  size = f.size ∙ e;
  empty = f.empty;
  entries = λ m h. f.entries m (omega arith);
}
