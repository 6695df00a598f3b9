-- `number::read_number` meets its contract: past the end, for one group, and for more.
use mathlib.Core.Path.{sym, ◌∙◌}
use Rattle.number.proofs.Reading.{decode-after, turn_end, one_group}
use Rattle.number.proofs.read_number.Goals as goal

pub returns-in_err-get : goal.returns-in_err-get
returns-in_err-get c = c.from_residual.ensures ∙ sym (decode-after _ _ ∙ turn_end _ _ _ _ _ c.in_err-get.ensures.lookup.3)

pub returns-then-byte-lt128 : goal.returns-then-byte-lt128
returns-then-byte-lt128 c =
    let there = c.in_ok-get.ensures.lookup.3 in
    one_group _ _ there.0 (c.from-byte.ensures ∙ there.1 0) c.if-byte-lt128.true
