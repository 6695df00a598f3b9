-- `sheet_checker::check_expression` meets its contract.
use native.Mathlib.Omega.{arith}
use Rattle.sheet_checker.proofs.Endings.{sheet_expression, fault_entry, ends_untyped, ends_typed}
use Rattle.sheet_checker.proofs.check_expression.Goals as goal

pub check_types-checked-requires : goal.check_types-checked-requires
check_types-checked-requires c = let w = c.requires in sheet_expression w.0 _ _ w.1

pub returns-in-Some : goal.returns-in-Some
returns-in-Some c =
    let k = c.check_types-checked in
    λ d s m. rw (c.from-place.ensures, c.from.ensures) (ends_untyped d c.args.rules c.args.nodes s k.result k.ensures c.in-Some.is)

pub bounds-nodes-from : goal.bounds-nodes-from
bounds-nodes-from c =
    let k = c.check_types-checked in
    omega (arith, c.from.ensures, fault_entry c.requires.0 _ _ c.requires.1 k.result k.ensures c.in-Some.is)

pub returns-in-None : goal.returns-in-None
returns-in-None c =
    let k = c.check_types-checked in
    λ d s m. ends_typed d c.args.rules c.args.nodes s k.result k.ensures m c.in-None.is
