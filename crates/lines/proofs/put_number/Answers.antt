-- `lines::put_number` meets its contract: a blank, and then the digits.
use Rattle.lines.proofs.Writing.{both_put, blank_first}
use Rattle.lines.proofs.put_number.Goals as goal

pub returns : goal.returns
returns c =
    let blank = c.put_byte-next.ensures in
    let digits = c.put_decimal.ensures in
    both_put c.args.buffer.now _ (blank_first _) c.requires blank.0 blank.1 digits.0 digits.1
