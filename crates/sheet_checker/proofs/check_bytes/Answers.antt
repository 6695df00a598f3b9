-- `sheet_checker::check_bytes` meets its contract.
use Rattle.sheet_reader.proofs.Told.{passed_on}
use Rattle.sheet_checker.proofs.Endings.{ends_long, ends_unreadable, sheet_read, ends_read}
use Rattle.sheet_checker.proofs.check_bytes.Goals as goal

pub returns-then-sheet-gt-MOST_SHEET_BYTES : goal.returns-then-sheet-gt-MOST_SHEET_BYTES
returns-then-sheet-gt-MOST_SHEET_BYTES c = ends_long c.args.sheet.now c.if-sheet-gt-MOST_SHEET_BYTES.true

pub returns-in_err-read : goal.returns-in_err-read
returns-in_err-read c =
    let e = passed_on _ c.from_residual.ensures.1 in
    rw e (ends_unreadable c.args.sheet.now c.if-sheet-gt-MOST_SHEET_BYTES.false c.read_sheet.ensures c.in_err-read.was)

pub check_rules-requires : goal.check_rules-requires
check_rules-requires c =
    let s = sheet_read _ c.if-sheet-gt-MOST_SHEET_BYTES.false c.read_sheet.ensures (λ i. (c.type_inv.sheet i).fits) c.in_ok-read.was in
    (s.what, s.held)

pub returns : goal.returns
returns c =
    let read = sheet_read _ c.if-sheet-gt-MOST_SHEET_BYTES.false c.read_sheet.ensures (λ i. (c.type_inv.sheet i).fits) c.in_ok-read.was in
    ends_read c.args.sheet.now read.what read.end c.check_rules.result c.if-sheet-gt-MOST_SHEET_BYTES.false read.read
    (c.check_rules.ensures read.what read.held)
