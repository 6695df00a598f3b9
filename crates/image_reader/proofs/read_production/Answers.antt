-- `read_production` meets its contract: its steps are one reading.
use Rattle.std.proofs.Common.{rules, ◌≡◌, Err}
use native.Mathlib.Omega.{arith}
use mathlib.Core.Path.{refl, sym, ◌∙◌}
use Rattle.image_reader.proofs.Fields.{field-inside}
use Rattle.image_reader.proofs.Parts.{production_is}
use Rattle.image_reader.proofs.Productions.{field-tested, production_held}
use Rattle.image_reader.proofs.read_production.Goals as goal

pub returns-in_err-rule : goal.returns-in_err-rule
returns-in_err-rule c =
    let up : c.from_residual.result ≡ Err c.in_err-rule.field-0.0 = search rules in
    let e = field-tested _ _ _ _ _ c.requires.rules ∙ sym c.in_err-rule.ensures in
    rw (up, production_is, e) refl

pub returns-in_err-size : goal.returns-in_err-size
returns-in_err-size c =
    let up : c.from_residual-in_err-size.result ≡ Err c.in_err-size.field-0.0 = search rules in
    let e = field-tested _ _ _ _ _ c.requires.rules ∙ sym c.in_ok-rule.ensures in
    rw (up, production_is, e, ← c.in_err-size.ensures) refl

pub read_tail-requires : goal.read_tail-requires
read_tail-requires c = let b = c.requires in (b.nonterminals, b.most_nonterminals, field-inside _ _ _ (sym c.in_ok-size.ensures))

pub returns-in_err-end : goal.returns-in_err-end
returns-in_err-end c =
    let up : c.from_residual-in_err-end.result ≡ Err c.in_err-end.field-0.0 = search rules in
    let e = field-tested _ _ _ _ _ c.requires.rules ∙ sym c.in_ok-rule.ensures in
    rw (up, production_is, e, ← c.in_ok-size.ensures, c.in_err-end.ensures) refl

pub returns : goal.returns
returns c =
    let b = c.requires in
    let e = field-tested _ _ _ _ _ b.rules ∙ sym c.in_ok-rule.ensures in
    let t = c.in_ok-end.ensures in record {
      what = record { head = c.in_ok-rule.rule.value; tail = t.what };
      reads = rw (production_is, e, ← c.in_ok-size.ensures, t.reads) refl;
      holds = production_held _ _ _ _ _ _ (λ i. omega (arith, (c.type_inv.bytes i).fits)) b.most_rules b.rules (sym c.in_ok-rule.ensures)
          (sym c.in_ok-size.ensures) t.holds;
    }
