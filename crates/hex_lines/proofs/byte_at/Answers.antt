-- `hex_lines::byte_at` meets its contract: what stands at the two places is what `digit` made of them.
use Rattle.std.proofs.Common.{sym, ◌∙◌, arith}
use Rattle.hex_lines.proofs.Digits.{none_there, digit_is, no_high, no_low, byte_is}
use Rattle.hex_lines.proofs.laws.DigitLaws.{digit_small}
use Rattle.hex_lines.proofs.byte_at.Goals as goal

pub returns-in_err-get-clause-byte : goal.returns-in_err-get-clause-byte
returns-in_err-get-clause-byte c = c.from_residual.ensures ∙ sym (no_high _ _ (none_there _ _ c.in_err-get.ensures.lookup.3))

pub returns-in_err-high-clause-byte : goal.returns-in_err-high-clause-byte
returns-in_err-high-clause-byte c =
    let there = c.in_ok-get.ensures.lookup.3 in
    c.from_residual-in_err-high.ensures ∙ sym (no_high _ _ (digit_is _ _ there.0 (there.1 _) ∙ sym c.in_err-high.ensures))

pub returns-in_err-get-2-clause-byte : goal.returns-in_err-get-2-clause-byte
returns-in_err-get-2-clause-byte c = c.from_residual-in_err-get-2.ensures ∙ sym (no_low _ _ (none_there _ _ c.in_err-get-2.ensures.lookup.3))

pub returns-in_err-low-clause-byte : goal.returns-in_err-low-clause-byte
returns-in_err-low-clause-byte c =
    let there = c.in_ok-get-2.ensures.lookup.3 in
    c.from_residual-in_err-low.ensures ∙ sym (no_low _ _ (digit_is _ _ there.0 (there.1 _) ∙ sym c.in_err-low.ensures))

pub overflow_mul-result : goal.overflow_mul-result
overflow_mul-result c = omega (arith, digit_small _ (sym c.in_ok-high.ensures))

pub overflow_add-result : goal.overflow_add-result
overflow_add-result c = omega (arith, digit_small _ (sym c.in_ok-high.ensures), digit_small _ (sym c.in_ok-low.ensures))

pub returns-clause-byte : goal.returns-clause-byte
returns-clause-byte c =
    let first = c.in_ok-get.ensures.lookup.3 in
    let second = c.in_ok-get-2.ensures.lookup.3 in
    sym (byte_is _ _ (digit_is _ _ first.0 (first.1 _) ∙ sym c.in_ok-high.ensures) (digit_is _ _ second.0 (second.1 _) ∙ sym c.in_ok-low.ensures))
