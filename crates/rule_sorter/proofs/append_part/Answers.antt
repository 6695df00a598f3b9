-- `rule_sorter::append_part` meets its contract: nothing, or the part that is copied.
use native.Mathlib.Omega.{arith}
use mathlib.Core.Path.{sym, ap, ◌∙◌}
use mathlib.Core.Bool.{not}
use mathlib.Core.List.{append-nil}
use lib.ListN.{length, take}
use Rattle.rule_sorter.proofs.Parts.{part_unwanted, part_wanted, part-length, appended}
use Rattle.rule_sorter.proofs.append_part.Goals as goal

pub returns-then-not-wanted : goal.returns-then-not-wanted
returns-then-not-wanted c =
    let a = c.args in
    let e = part_unwanted a.wanted a.begin a.end a.from.now (ap not c.if-not-wanted.true) in
    (omega (arith, ap length e), rw e (sym (append-nil (take a.at a.to.now))))

pub slice_bounds-copy_from_slice-end : goal.slice_bounds-copy_from_slice-end
slice_bounds-copy_from_slice-end c =
    let a = c.args in
    omega (arith, part-length a.wanted a.begin a.end a.from.now (ap not c.if-not-wanted.false) c.requires.0 c.requires.1)

pub returns : goal.returns
returns c =
    let a = c.args in
    let n = part-length a.wanted a.begin a.end a.from.now (ap not c.if-not-wanted.false) c.requires.0 c.requires.1 in (
      omega (arith, n),
      appended a.begin a.end a.at a.from.now a.to.now c.copy_from_slice.new.self c.requires.0 c.requires.1 (omega arith)
          c.copy_from_slice.ensures.after ∙ rw (part_wanted a.wanted a.begin a.end a.from.now (ap not c.if-not-wanted.false)),
    )
