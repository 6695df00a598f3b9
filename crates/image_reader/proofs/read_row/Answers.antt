-- `read_row` meets its contract: its steps are one reading.
use Rattle.std.proofs.Common.{rules, ◌≡◌, Err}
use native.Mathlib.Omega.{arith}
use mathlib.Core.Path.{refl, sym}
use Rattle.image_reader.proofs.Fields.{field_range}
use Rattle.image_reader.proofs.Parts.{row_is}
use Rattle.image_reader.proofs.Rows.{row_near}
use Rattle.image_reader.proofs.Steps.{flag_reads, flag_stops}
use Rattle.image_reader.proofs.read_row.Goals as goal

pub returns-in_err-empty : goal.returns-in_err-empty
returns-in_err-empty c =
    let up : c.from_residual.result ≡ Err c.in_err-empty.field-0.0 = search rules in
    let e = flag_stops _ _ (sym c.in_err-empty.ensures) in
    rw up (c.requires.2.size, rw (row_is, e) refl)

pub returns-in_err-count : goal.returns-in_err-count
returns-in_err-count c =
    let up : c.from_residual-in_err-count.result ≡ Err c.in_err-count.field-0.0 = search rules in
    let e = flag_reads _ _ (sym c.in_ok-empty.ensures) in
    rw up (c.requires.2.size, rw (row_is, e, ← c.in_err-count.ensures) refl)

pub read_productions-requires : goal.read_productions-requires
read_productions-requires c =
    let p = c.requires in
    let e = sym c.in_ok-count.ensures in
    let near = row_near _ _ (sym c.in_ok-empty.ensures) (λ i. omega (arith, (c.type_inv.bytes i).fits)) e in
    (p.0, near, (field_range _ _ _ _ e).1, p.1, p.2)

pub returns-in_err-end : goal.returns-in_err-end
returns-in_err-end c =
    let up : c.from_residual-in_err-end.result ≡ Err c.in_err-end.field-0.0 = search rules in
    let e = flag_reads _ _ (sym c.in_ok-empty.ensures) in
    let r = c.in_err-end.ensures in
    rw up (r.0, rw (row_is, e, ← c.in_ok-count.ensures, r.1) refl)

pub returns : goal.returns
returns c =
    let e = flag_reads _ _ (sym c.in_ok-empty.ensures) in
    let r = c.in_ok-end.ensures in (
      r.0,
      record {
        what = _;
        reads = rw (row_is, e, ← c.in_ok-count.ensures, r.1.reads) refl;
        holds = record { empty = refl; entered = r.1.holds };
      },
    )
