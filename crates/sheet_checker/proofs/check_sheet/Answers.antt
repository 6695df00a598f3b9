-- `sheet_checker::check_sheet` meets its contract.
use Rattle.sheet_checker.proofs.Endings.{work_short, work_enough}
use Rattle.sheet_checker.proofs.check_sheet.Goals as goal

pub returns-then-work-lt-WORK_BYTES : goal.returns-then-work-lt-WORK_BYTES
returns-then-work-lt-WORK_BYTES c = work_short c.args.sheet.now c.args.work.now c.if-work-lt-WORK_BYTES.true

pub returns : goal.returns
returns c =
    work_enough c.args.sheet.now c.args.work.now c.check_bytes.result c.if-work-lt-WORK_BYTES.false c.clear_front.ensures
    c.check_bytes.ensures
