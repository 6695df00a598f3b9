-- What reading an image answers: the definition's own answer to question 13, and the tables of a readable image hold it. The reading of parts is not said here.
use Rattle.std.specs.Prelude.{◌≡◌, false, List, ℕ, ◌≤◌, ◌<◌, length, drop, Result, Ok, Err}
use Rattle.basics.specs.Lists.{All}
use Rattle.sheet.specs.Field.{Reading, stop, got}
use Rattle.lexer.specs.Positions.{Position}
use Rattle.lexer.specs.laws.PositionBounds.{NeverFalling}
use Rattle.scanner.specs.Meaning.{Prepared}
use Rattle.image.specs.Image.{Image}
use Rattle.image_reader.specs.Tables.{FlagsOf, RowsHeld}
use Rattle.image_reader.specs.declared.ImageRead.{ImageRead}
use Rattle.image_reader.specs.declared.Unreadable.{Unreadable}

-- The tables hold these positions, as the scanner relies on it, where their rules never fall.
abbrev pub LexerHeld : List Position → ℕ → List ℕ → Type 0
LexerHeld ps last tables = NeverFalling 0 ps → Prepared ps last tables

-- The tables of an image. The entry of `productions` for a nonterminal n and a rule r stands at n * 32 + r, and word 384 + n of `tables` is
-- the place where the row of n starts in the image's bytes.
pub record ImageTables : Type 0 where
  pub rules : ℕ
  pub skips : ℕ
  pub last : ℕ
  pub first : ℕ
  pub nonterminals : ℕ
  pub empty : ℕ
  pub tables : List ℕ
  pub productions : List ℕ

-- The tables hold an image that stands in these bytes. Left free: the words of positions from the position count on, and the entries of
-- starts and `productions` from the last nonterminal's on; no function reads them.
pub record Decoded (bytes : List ℕ) (t : ImageTables) (i : Image) : Type 0 where
  pub rules : t.rules ≡ length i.skips
  pub most_rules : t.rules ≤ 32
  pub skips : FlagsOf (λ b. b) false t.skips i.skips
  pub positions : LexerHeld i.positions t.last t.tables
  pub positions_below : All (λ p. p.rule < t.rules) i.positions
  pub first : t.first ≡ i.first
  pub some_nonterminals : 1 ≤ t.nonterminals
  pub most_nonterminals : t.nonterminals ≤ 64
  pub rows : RowsHeld bytes t.nonterminals (drop 384 t.tables) t.productions t.empty i.rows

-- The tables out of what reading returns and the arrays that it filled.
abbrev pub tables_of : ImageRead → List ℕ → List ℕ → ImageTables
tables_of r tables productions = record {
  rules = r.rules;
  skips = r.skips;
  last = r.last;
  first = r.first;
  nonterminals = r.nonterminals;
  empty = r.empty;
  tables = tables;
  productions = productions;
}

-- The answer to the reading of an image: all bytes were read, and the tables hold the image; or 13 at
-- its place. The arrays keep their lengths. What their entries are after 13 is left free.
pub record ImageAnswers (bytes : List ℕ) (r : Result ImageRead Unreadable) (tables productions : List ℕ) (x : Reading Image) : Type 0 where
  pub tables_size : length tables ≡ 448
  pub productions_size : length productions ≡ 2048
  pub readable : {read : ImageRead} → r ≡ Ok read
      → (i : Image) × (x ≡ got i (length bytes)) × Decoded bytes (tables_of read tables productions) i
  pub refusal : {e : Unreadable} → r ≡ Err e → x ≡ stop 13 e.place
