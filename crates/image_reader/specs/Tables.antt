-- What the tables hold of an image. The tables are made once, before the text; the machine reads them and the image's bytes.
-- How they are read from bytes is not said here.
use Rattle.std.specs.Prelude.{◌≡◌, Bool, List, [], ◌∷◌, ℕ, zero, suc, ◌+◌, ◌*◌, ◌/◌, ◌%◌, ◌≤◌, ◌<◌, length, get_or, take, drop}
use Rattle.std.proofs.Math.Option.{Option, none, some}
use Rattle.basics.specs.Bits.{bit}
use Rattle.basics.specs.Lists.{All}
use Rattle.normal_form.specs.Productions.{Production, Row, row_of, no_productions, most_tail, production_of}
use Rattle.lexer.specs.Positions.{Position}
use Rattle.class_table.specs.Holding.{no_position, Holding}

-- ---- sets of flags

-- What a function gives for so many numbers, from i on.
unfoldable pub listed : {A : Type 0} → (ℕ → A) → ℕ → ℕ → List A
listed f i zero = []
listed f i (suc n) = f i ∷ listed f (suc i) n

-- The flags that a set holds for the numbers below n.
abbrev pub held_flags : ℕ → ℕ → List Bool
held_flags s n = listed (bit s) 0 n

-- A set's members are the entries whose flag is set; past the list's end stands d.
abbrev pub FlagsOf : {A : Type 0} → (A → Bool) → A → ℕ → List A → Type 0
FlagsOf f d s l = (k : ℕ) → bit s k ≡ f (get_or l k d)

-- ---- positions

-- So many positions in the tables, with the set of those that are last.
pub record PositionsHeld (rules count last : ℕ) (tables : List ℕ) (ps : List Position) : Type 0 where
  pub size : length ps ≡ count
  pub held : Holding ps tables
  pub last_ones : FlagsOf (λ p. p.last) no_position last ps
  pub below : All (λ p. p.rule < rules) ps
  pub ordered : All (λ p. p.low ≤ p.high) ps

-- ---- productions

-- These numbers stand in the image's bytes from a place on, one byte each, and each is below n.
pub record Members (bytes : List ℕ) (at n : ℕ) (l : List ℕ) : Type 0 where
  pub inside : at + length l ≤ length bytes
  pub there : take (length l) (drop at bytes) ≡ l
  pub below : All (λ m. m < n) l

-- So many of them, up to an end.
pub record MembersHeld (bytes : List ℕ) (at n size end : ℕ) (l : List ℕ) : Type 0 where
  pub count : length l ≡ size
  pub place : end ≡ at + size
  pub members : Members bytes at n l

-- A tail in the image's bytes: its length, and then its members.
pub record TailAt (bytes : List ℕ) (n place : ℕ) (tail : List ℕ) : Type 0 where
  pub size : get_or bytes place 0 ≡ length tail
  pub short : length tail ≤ most_tail
  pub members : Members bytes (place + 1) n tail

-- So many bytes from a place on.
abbrev pub part : List ℕ → ℕ → ℕ → List ℕ
part bytes at size = take size (drop at bytes)

-- The tail that an entry of the table of productions stands for, by its two highest bits: a tail of up to two members stands in the entry
-- itself, six bits a member; of a longer one, the entry says how far behind the start of its row its length stands.
unfoldable pub tail_by : ℕ → List ℕ → ℕ → ℕ → List ℕ
tail_by zero bytes start entry = []
tail_by (suc zero) bytes start entry = entry % 64 ∷ []
tail_by (suc (suc zero)) bytes start entry = entry % 64 ∷ entry / 64 % 64 ∷ []
tail_by (suc (suc (suc k))) bytes start entry =
    part bytes (start + entry % 16384 + 1) (get_or bytes (start + entry % 16384) 0)

abbrev pub entry_tail : List ℕ → ℕ → ℕ → List ℕ
entry_tail bytes start entry = tail_by (entry / 16384) bytes start entry

-- An entry that stands for a tail. A longer tail lies within the image's bytes and is not empty.
pub record EntryTail (bytes : List ℕ) (start n entry : ℕ) (tail : List ℕ) : Type 0 where
  pub some_entry : 0 < entry
  pub tail_is : entry_tail bytes start entry ≡ tail
  pub below : All (λ m. m < n) tail
  pub inside : 3 ≤ entry / 16384
      → (1 ≤ get_or bytes (start + entry % 16384) 0)
      × (start + entry % 16384 + 1 + get_or bytes (start + entry % 16384) 0 ≤ length bytes)

-- An entry of the table of productions: 0 for none.
abbrev pub EntryIs : List ℕ → ℕ → ℕ → ℕ → Option Production → Type 0
EntryIs bytes start n entry none = entry ≡ 0
EntryIs bytes start n entry (some p) = EntryTail bytes start n entry p.tail

-- The entries from a base on are those of a row's productions, by rule.
abbrev pub EntriesOf : List ℕ → ℕ → ℕ → List ℕ → ℕ → List Production → Type 0
EntriesOf bytes start n table base ps = (r : ℕ) → r < 32 → EntryIs bytes start n (get_or table (base + r) 0) (production_of r ps)

-- ---- rows

-- All rows in the table, and their starts; s is the set of those with ε.
pub record RowsHeld (bytes : List ℕ) (n : ℕ) (starts table : List ℕ) (s : ℕ) (rows : List Row) : Type 0 where
  pub size : length rows ≡ n
  pub empty : FlagsOf (λ row. row.has_epsilon) no_productions s rows
  pub entries : (m : ℕ) → m < n → EntriesOf bytes (get_or starts m 0) n table (m * 32) (row_of rows m).productions

-- The table is whole, and its entries from a place on are zero: rows from there on can be entered.
pub record Room (table : List ℕ) (at : ℕ) : Type 0 where
  pub size : length table ≡ 2048
  pub zero_from : (k : ℕ) → at ≤ k → get_or table k 0 ≡ 0

-- Two tables are alike below a place.
abbrev pub SameBelow : ℕ → List ℕ → List ℕ → Type 0
SameBelow at table table' = (k : ℕ) → k < at → get_or table' k 0 ≡ get_or table k 0
