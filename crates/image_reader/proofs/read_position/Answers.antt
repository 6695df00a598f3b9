-- `read_position` meets its contract: its five steps are one reading.
use Rattle.std.proofs.Common.{rules, ◌≡◌, Err}
use native.Mathlib.Omega.{arith}
use mathlib.Core.Path.{refl, sym, ◌∙◌}
use Rattle.image_reader.proofs.Fields.{field_range, field-rule, field-set}
use Rattle.image_reader.proofs.Parts.{position_is}
use Rattle.image_reader.proofs.Steps.{flag_reads, flag_stops}
use Rattle.image_reader.proofs.read_position.Goals as goal

pub returns-in_err-low : goal.returns-in_err-low
returns-in_err-low c =
    let up : c.from_residual.result ≡ Err c.in_err-low.field-0.0 = search rules in
    rw (up, position_is, ← c.in_err-low.ensures) refl

pub returns-in_err-high : goal.returns-in_err-high
returns-in_err-high c =
    let up : c.from_residual-in_err-high.result ≡ Err c.in_err-high.field-0.0 = search rules in
    rw (up, position_is, ← c.in_ok-low.ensures, ← c.in_err-high.ensures) refl

pub returns-in_err-rule : goal.returns-in_err-rule
returns-in_err-rule c =
    let up : c.from_residual-in_err-rule.result ≡ Err c.in_err-rule.field-0.0 = search rules in
    let e = sym (field-rule _ _ _ _ c.requires.0) ∙ sym c.in_err-rule.ensures in
    rw (up, position_is, ← c.in_ok-low.ensures, ← c.in_ok-high.ensures, e) refl

pub returns-in_err-last : goal.returns-in_err-last
returns-in_err-last c =
    let up : c.from_residual-in_err-last.result ≡ Err c.in_err-last.field-0.0 = search rules in
    let e = sym (field-rule _ _ _ _ c.requires.0) ∙ sym c.in_ok-rule.ensures in
    rw (up, position_is, ← c.in_ok-low.ensures, ← c.in_ok-high.ensures, e, flag_stops _ _ (sym c.in_err-last.ensures)) refl

pub returns-in_err-follow : goal.returns-in_err-follow
returns-in_err-follow c =
    let up : c.from_residual-in_err-follow.result ≡ Err c.in_err-follow.field-0.0 = search rules in
    let e = sym (field-rule _ _ _ _ c.requires.0) ∙ sym c.in_ok-rule.ensures in
    let f = sym (field-set _ _ _ c.all_below.ensures) ∙ sym c.in_err-follow.ensures in
    rw (up, position_is, ← c.in_ok-low.ensures, ← c.in_ok-high.ensures, e, flag_reads _ _ (sym c.in_ok-last.ensures), f) refl

pub overflow_cast-result : goal.overflow_cast-result
overflow_cast-result c = omega (arith, field_range _ _ _ _ (sym c.in_ok-low.ensures))

pub overflow_cast-result-2 : goal.overflow_cast-result-2
overflow_cast-result-2 c = omega (arith, field_range _ _ _ _ (sym c.in_ok-high.ensures))

pub overflow_cast-result-3 : goal.overflow_cast-result-3
overflow_cast-result-3 c = omega (arith, c.requires.1, field_range _ _ _ _ (sym c.in_ok-rule.ensures))

pub returns : goal.returns
returns c =
    let e = sym (field-rule _ _ _ _ c.requires.0) ∙ sym c.in_ok-rule.ensures in
    let f = sym (field-set _ _ _ c.all_below.ensures) ∙ sym c.in_ok-follow.ensures in record {
      what = _;
      reads = rw (position_is, ← c.in_ok-low.ensures, ← c.in_ok-high.ensures, e, flag_reads _ _ (sym c.in_ok-last.ensures), f) refl;
      holds = record {
        values = refl;
        below = omega (arith, c.requires.0, field_range _ _ _ _ (sym c.in_ok-rule.ensures));
        ordered = (field_range _ _ _ _ (sym c.in_ok-high.ensures)).0;
      };
    }
