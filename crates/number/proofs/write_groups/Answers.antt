use native.Mathlib.Omega.{arith}
use mathlib.Core.Path.{◌≡◌, refl}
use mathlib.Core.List.{[], ◌∷◌}
use Prim.Native.Nat.{◌+◌, ◌-◌, ◌/◌, ◌%◌}
use lib.ListN.{drop, length-set}
use Rattle.number.specs.Number.{encode_in, encode}
use Rattle.number.proofs.Writing.{left_all, left_next, left_more, left_last}
use Rattle.number.proofs.Writing.{write-inside, write-length, write-more, write-last}
use Rattle.number.proofs.write_groups.Goals as goal
use Rattle.number.proofs.write_groups.Goals.{In-loop-rest, After-loop-rest}

-- The group that a turn writes, and the one after the loop.
next : (c : In-loop-rest)
    → let l = c.loop-rest in
    drop l.i (encode c.args.n) ≡ (128 + l.rest % 128) ∷ encode_in (10 - (l.i + 1)) (l.rest / 128)
next c = left_next _ _ _ c.loop-rest.invariant.0 c.loop-rest-test.true

final : (c : After-loop-rest)
    → let l = c.loop-rest in drop l.i (encode c.args.n) ≡ l.rest ∷ []
final c = left_last _ _ _ c.loop-rest.invariant.0 c.loop-rest-test.false

pub loop-rest-init : goal.loop-rest-init
loop-rest-init c = (left_all _ (omega arith), refl)

pub overflow_add-part : goal.overflow_add-part
overflow_add-part c = omega arith

pub overflow_cast-part : goal.overflow_cast-part
overflow_cast-part c = omega arith

pub bounds-part-i : goal.bounds-part-i
bounds-part-i c =
    let z = c.before.before in
    write-inside z.args.part.now (encode z.args.n) _ _ (next c) c.loop-rest.invariant.1 z.requires

pub overflow_add-i : goal.overflow_add-i
overflow_add-i c = omega arith

pub loop-rest-smaller : goal.loop-rest-smaller
loop-rest-smaller c = omega arith

pub loop-rest-preserved : goal.loop-rest-preserved
loop-rest-preserved c =
    let v = c.loop-rest.invariant in
    (left_more _ _ _ v.0 c.loop-rest-test.true, write-more _ _ _ _ (next c) v.1 c.requires)

pub overflow_cast-part-2 : goal.overflow_cast-part-2
overflow_cast-part-2 c = omega arith

pub bounds-part-i-2 : goal.bounds-part-i-2
bounds-part-i-2 c =
    let z = c.before.before in
    write-inside z.args.part.now (encode z.args.n) _ _ (final c) c.loop-rest.invariant.1 z.requires

pub shape_of-part : goal.shape_of-part
shape_of-part c =
    let z = c.before.before in
    let l = c.loop-rest in
    simp length-set (write-length z.args.part.now (encode z.args.n) _ l.i (final c) l.invariant.1 z.requires)

pub returns : goal.returns
returns c = write-last _ _ _ _ (final c) c.loop-rest.invariant.1 c.requires
