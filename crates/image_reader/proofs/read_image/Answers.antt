-- `read_image` meets its contract: its steps are the image's reading.
use Rattle.std.proofs.Common.{rules, ◌≡◌, Err}
use native.Mathlib.Omega.{arith}
use borrow.Author.Tests.{eq-eqb, ne_eqb}
use mathlib.Core.Path.{refl, sym, ap, ◌∙◌}
use mathlib.Core.Bool.{Bool}
use mathlib.Core.List.{List}
use Rattle.sheet.specs.Field.{got}
use Rattle.image.specs.Image.{Image}
use Rattle.image_reader.specs.Tables.{held_flags}
use Rattle.image_reader.proofs.Fields.{field_range, field-set}
use Rattle.image_reader.proofs.Flags.{length-listed}
use Rattle.image_reader.proofs.Parts.{end_is, image_is}
use Rattle.image_reader.proofs.Positions.{positions-swept}
use Rattle.image_reader.proofs.Whole.{image_readable, image_refused, rows-swept}
use Rattle.image_reader.proofs.read_image.Goals as goal

pub returns-in_err-version : goal.returns-in_err-version
returns-in_err-version c =
    let up : c.from_residual.result ≡ Err c.in_err-version.field-0.0 = search rules in
    rw up (image_refused c.requires.0 c.requires.2.size (rw (image_is, ← c.in_err-version.ensures) refl))

pub returns-in_err-rules : goal.returns-in_err-rules
returns-in_err-rules c =
    let up : c.from_residual-in_err-rules.result ≡ Err c.in_err-rules.field-0.0 = search rules in
    rw up (image_refused c.requires.0 c.requires.2.size (rw (image_is, ← c.in_ok-version.ensures, ← c.in_err-rules.ensures) refl))

pub read_flags-requires : goal.read_flags-requires
read_flags-requires c = omega (arith, field_range _ _ _ _ (sym c.in_ok-rules.ensures))

pub returns-in_err-skips : goal.returns-in_err-skips
returns-in_err-skips c =
    let up : c.from_residual-in_err-skips.result ≡ Err c.in_err-skips.field-0.0 = search rules in
    rw up (image_refused c.requires.0 c.requires.2.size
    (rw (image_is, ← c.in_ok-version.ensures, ← c.in_ok-rules.ensures, c.in_err-skips.ensures) refl))

pub returns-in_err-count : goal.returns-in_err-count
returns-in_err-count c =
    let up : c.from_residual-in_err-count.result ≡ Err c.in_err-count.field-0.0 = search rules in
    rw up (image_refused c.requires.0 c.requires.2.size
    (rw (image_is, ← c.in_ok-version.ensures, ← c.in_ok-rules.ensures, c.in_ok-skips.ensures.reads, ← c.in_err-count.ensures) refl))

pub read_positions-requires : goal.read_positions-requires
read_positions-requires c =
    let r = field_range _ _ _ _ (sym c.in_ok-rules.ensures) in
    (r.0, r.1, (field_range _ _ _ _ (sym c.in_ok-count.ensures)).1, c.requires.0, c.requires.1)

pub returns-in_err-last : goal.returns-in_err-last
returns-in_err-last c =
    let up : c.from_residual-in_err-last.result ≡ Err c.in_err-last.field-0.0 = search rules in
    let e = c.in_err-last.ensures in
    rw up (image_refused e.0 c.requires.2.size
    (rw (image_is, ← c.in_ok-version.ensures, ← c.in_ok-rules.ensures, c.in_ok-skips.ensures.reads, ← c.in_ok-count.ensures, e.1) refl))

pub all_below-requires : goal.all_below-requires
all_below-requires c = (field_range _ _ _ _ (sym c.in_ok-count.ensures)).1

pub returns-in_err-first : goal.returns-in_err-first
returns-in_err-first c =
    let up : c.from_residual-in_err-first.result ≡ Err c.in_err-first.field-0.0 = search rules in
    let e = c.in_ok-last.ensures in
    let f = sym (field-set _ _ _ c.all_below.ensures) ∙ sym c.in_err-first.ensures in
    rw up (image_refused e.0 c.requires.2.size
    (rw (image_is, ← c.in_ok-version.ensures, ← c.in_ok-rules.ensures, c.in_ok-skips.ensures.reads, ← c.in_ok-count.ensures, e.1.reads, f) refl))

pub returns-in_err-nonterminals : goal.returns-in_err-nonterminals
returns-in_err-nonterminals c =
    let up : c.from_residual-in_err-nonterminals.result ≡ Err c.in_err-nonterminals.field-0.0 = search rules in
    let e = c.in_ok-last.ensures in
    let f = sym (field-set _ _ _ c.all_below.ensures) ∙ sym c.in_ok-first.ensures in
    rw up (image_refused e.0 c.requires.2.size
    (rw (
      image_is,
      ← c.in_ok-version.ensures,
      ← c.in_ok-rules.ensures,
      c.in_ok-skips.ensures.reads,
      ← c.in_ok-count.ensures,
      e.1.reads,
      f,
      ← c.in_err-nonterminals.ensures,
    ) refl))

pub read_rows-requires : goal.read_rows-requires
read_rows-requires c =
    let r = field_range _ _ _ _ (sym c.in_ok-rules.ensures) in
    let n = field_range _ _ _ _ (sym c.in_ok-nonterminals.ensures) in
    (record { rules = r.0; most_rules = r.1; nonterminals = n.0; most_nonterminals = n.1 }, c.in_ok-last.ensures.0, c.requires.2)

pub returns-in_err-empty : goal.returns-in_err-empty
returns-in_err-empty c =
    let up : c.from_residual-in_err-empty.result ≡ Err c.in_err-empty.field-0.0 = search rules in
    let flags = c.in_ok-skips.ensures.reads ∙ ap (λ (l : List Bool). got l c.in_ok-skips.skips.at) c.in_ok-skips.ensures.holds.held in
    let f = sym (field-set _ _ _ c.all_below.ensures) ∙ sym c.in_ok-first.ensures in
    let e = c.in_err-empty.ensures in
    rw up (image_refused e.0 e.2
    (rw (
      image_is,
      ← c.in_ok-version.ensures,
      ← c.in_ok-rules.ensures,
      flags,
      ← c.in_ok-count.ensures,
      c.in_ok-last.ensures.1.reads,
      f,
      ← c.in_ok-nonterminals.ensures,
      e.3,
    ) refl))

pub returns-then-empty-bytes : goal.returns-then-empty-bytes
returns-then-empty-bytes c =
    let flags = c.in_ok-skips.ensures.reads ∙ ap (λ (l : List Bool). got l c.in_ok-skips.skips.at) c.in_ok-skips.ensures.holds.held in
    let f = sym (field-set _ _ _ c.all_below.ensures) ∙ sym c.in_ok-first.ensures in
    let e = c.in_ok-empty.ensures in
    image_refused e.0 e.2
    (rw (
      image_is,
      ← c.in_ok-version.ensures,
      ← c.in_ok-rules.ensures,
      flags,
      ← c.in_ok-count.ensures,
      c.in_ok-last.ensures.1.reads,
      f,
      ← c.in_ok-nonterminals.ensures,
      e.3.reads,
      end_is,
      ne_eqb _ _ c.if-empty-bytes.true,
    ) refl)

pub returns : goal.returns
returns c =
    let flags = c.in_ok-skips.ensures.reads ∙ ap (λ (l : List Bool). got l c.in_ok-skips.skips.at) c.in_ok-skips.ensures.holds.held in
    let f = sym (field-set _ _ _ c.all_below.ensures) ∙ sym c.in_ok-first.ensures in
    let e = c.in_ok-empty.ensures in
    let held = c.in_ok-last.ensures.1.holds in
    let r = field_range _ _ _ _ (sym c.in_ok-rules.ensures) in
    let n = field_range _ _ _ _ (sym c.in_ok-nonterminals.ensures) in
    let count = field_range _ _ _ _ (sym c.in_ok-count.ensures) in
    let image : Image = record {
      skips = held_flags c.in_ok-skips.skips.value c.in_ok-rules.rules.value;
      positions = c.in_ok-last.ensures.1.what;
      first = c.in_ok-first.first.value;
      rows = e.3.what;
    } in
    image_readable c.sweep.ensures.size e.2 image
    (rw (
      image_is,
      ← c.in_ok-version.ensures,
      ← c.in_ok-rules.ensures,
      flags,
      ← c.in_ok-count.ensures,
      c.in_ok-last.ensures.1.reads,
      f,
      ← c.in_ok-nonterminals.ensures,
      e.3.reads,
      end_is,
      eq-eqb _ _ c.if-empty-bytes.false,
    ) (ap (got image) c.if-empty-bytes.false))
    (record {
      rules = sym (length-listed _ 0 c.in_ok-rules.rules.value);
      most_rules = r.1;
      skips = rw (← c.in_ok-skips.ensures.holds.held) c.in_ok-skips.ensures.holds.bits;
      positions = positions-swept _ _ _ _ _ _ _ held count.1 e.1 c.sweep.ensures;
      positions_below = held.below;
      first = refl;
      some_nonterminals = n.0;
      most_nonterminals = n.1;
      rows = rows-swept _ _ _ _ _ _ _ c.sweep.ensures e.3.holds;
    })
