-- All that a run relies on: the tables that were made of an image before the text is read.
use Rattle.std.specs.Prelude.{◌≡◌, Some}
use Rattle.image.specs.Image.{Image}
use Rattle.image.specs.ImageRanges.{InRange}
use Rattle.image_reader.specs.Decoded.{ImageTables, tables_of, Decoded}
use Rattle.machine_loop.specs.Built.{Built}
use Rattle.machine_loop.specs.declared.ScannerTable.{ScannerTable}
use Rattle.machine_loop.specs.declared.Machine.{Machine}

-- The tables of an image.
abbrev pub tables_in : Machine → ImageTables
tables_in m = tables_of m.read m.tables.now m.productions.now

-- The image that the machine's tables hold is a readable one, and, for a run by rows, the scanner's table is built.
pub record WithTables (m : Machine) (i : Image) : Type 0 where
  pub decoded : Decoded m.image.now (tables_in m) i
  pub in_range : InRange i
  pub built : {rows : ScannerTable} → m.scanner ≡ Some rows → Built i rows.table.now rows.winners.now
