-- What the functions that read parts of an image answer: what was read and the place after it, or question 13 at its place. What a whole
-- image's reading answers is said in `Decoded`.
use Rattle.std.specs.Prelude.{◌≡◌, Bool, false, cond, List, ℕ, suc, ◌+◌, ◌^◌, ◌≤◌, ◌<◌, eqb, Result, Ok, Err}
use Rattle.std.specs.Int.Bits.{bit_or}
use Rattle.sheet.specs.Field.{Reading, stop, got, read_many}
use Rattle.normal_form.specs.Productions.{Production, Row}
use Rattle.lexer.specs.Positions.{Position}
use Rattle.image.specs.ImageReading.{read_position, read_production, read_row}
use Rattle.image_reader.specs.Tables.{held_flags, FlagsOf, TailAt, EntriesOf, Room, SameBelow}
use Rattle.image_reader.specs.declared.Bounds.{Bounds}
use Rattle.image_reader.specs.declared.Step.{Step}
use Rattle.image_reader.specs.declared.Unreadable.{Unreadable}
use Rattle.image_reader.specs.declared.PositionRead.{PositionRead}
use Rattle.image_reader.specs.declared.ProductionRead.{ProductionRead}

-- ---- results

-- A number, as the reading that it stands for.
abbrev pub number_reading : Result Step Unreadable → Reading ℕ
number_reading (Ok s) = got s.value s.at
number_reading (Err e) = stop 13 e.place

-- Something else than a number, read up to an end: it stands in a relation to what the function returns.
pub record Taken {A : Type 0} (P : A → Type 0) (end : ℕ) (x : Reading A) : Type 0 where
  pub what : A
  pub reads : x ≡ got what end
  pub holds : P what

-- It was read up to the end that the function returns, or refused at one place with the definition.
abbrev pub Answers : {T A : Type 0} → (T → ℕ) → (T → A → Type 0) → Result T Unreadable → Reading A → Type 0
Answers end P (Ok r) x = Taken (P r) (end r) x
Answers end P (Err e) x = x ≡ stop 13 e.place

-- ---- flags

-- A set with i added where a flag is set.
unfoldable pub with_flag : ℕ → ℕ → Bool → ℕ
with_flag s i b = cond b (bit_or s (2 ^ i)) s

-- So many flags, and the set that holds them.
pub record FlagsRead (count set : ℕ) (flags : List Bool) : Type 0 where
  pub held : flags ≡ held_flags set count
  pub bits : FlagsOf (λ b. b) false set flags

-- ---- positions

-- A position's answer stands for it.
pub record PositionIs (rules : ℕ) (r : PositionRead) (p : Position) : Type 0 where
  pub values : p ≡ record { low = r.low; high = r.high; rule = r.rule; last = eqb r.last 1; follow = r.follow.value }
  pub below : r.rule < rules
  pub ordered : r.low ≤ r.high

-- So many positions.
abbrev pub positions_in : List ℕ → ℕ → ℕ → ℕ → Reading (List Position)
positions_in bytes rules count at = read_many (read_position bytes rules count) (λ before p. p.rule) 0 count at

-- ---- productions and rows

-- The bounds that an image's first numbers set.
pub record InBounds (b : Bounds) : Type 0 where
  pub rules : 1 ≤ b.rules
  pub most_rules : b.rules ≤ 32
  pub nonterminals : 1 ≤ b.nonterminals
  pub most_nonterminals : b.nonterminals ≤ 64

-- A production, so many productions and a row within the bounds that the code holds.
abbrev pub production_in : List ℕ → Bounds → ℕ → ℕ → Reading Production
production_in bytes b = read_production bytes (held_flags b.skips b.rules) b.nonterminals

abbrev pub productions_in : List ℕ → Bounds → ℕ → ℕ → Reading (List Production)
productions_in bytes b count at = read_many (production_in bytes b) (λ least p. suc p.head) 0 count at

abbrev pub row_in : List ℕ → Bounds → ℕ → Reading Row
row_in bytes b at = read_row bytes (held_flags b.skips b.rules) b.nonterminals at

-- A production, read from `at` on.
pub record ProductionHeld (bytes : List ℕ) (n least at : ℕ) (r : ProductionRead) (p : Production) : Type 0 where
  pub head : p.head ≡ r.rule
  pub at_least : least ≤ r.rule
  pub below : r.rule < 32
  pub near : r.tail ≡ at + 1
  pub onward : at ≤ r.end
  pub short : r.end ≤ at + 34
  pub tail : TailAt bytes n r.tail p.tail

-- The productions of the row that starts at a place, entered from a base on. What stands below the base stays, and what follows the
-- row's entries is zero as it was.
pub record ProductionsEntered (bytes : List ℕ) (start n base : ℕ) (table table' : List ℕ) (ps : List Production) : Type 0 where
  pub entries : EntriesOf bytes start n table' base ps
  pub same : SameBelow base table table'
  pub room : Room table' (base + 32)

-- A row, entered likewise; v is its ε flag as a number.
pub record RowEntered (bytes : List ℕ) (start n base : ℕ) (table table' : List ℕ) (v : ℕ) (row : Row) : Type 0 where
  pub empty : eqb v 1 ≡ row.has_epsilon
  pub entered : ProductionsEntered bytes start n base table table' row.productions
