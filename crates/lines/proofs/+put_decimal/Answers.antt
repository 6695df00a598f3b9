-- `lines::put_decimal` meets its contract: all digits but the last, and then the last.
use native.Mathlib.Omega.{arith}
use Rattle.lines.proofs.Writing.{only_room, only_put, higher_digits, first_room, second_room, both_put}
use Rattle.lines.proofs.+put_decimal.Goals as goal

pub put_byte-requires : goal.put_byte-requires
put_byte-requires t c = only_room c.args.buffer.now _ c.args.n c.if-n-lt10.true c.requires

pub returns-then-n-lt10 : goal.returns-then-n-lt10
returns-then-n-lt10 t c =
    let put = c.put_byte.ensures in
    only_put c.args.buffer.now _ c.args.n c.if-n-lt10.true c.requires put.0 put.1

pub put_decimal-last-requires : goal.put_decimal-last-requires
put_decimal-last-requires t c =
    let j = higher_digits c.args.n c.if-n-lt10.false in
    (omega (arith, c.decreases), first_room c.args.buffer.now _ j c.requires)

pub put_byte-requires-2 : goal.put_byte-requires-2
put_byte-requires-2 t c =
    let put = c.put_decimal-last.ensures in
    let j = higher_digits c.args.n c.if-n-lt10.false in
    omega (arith, second_room c.args.buffer.now _ j c.requires put.0 put.1)

pub returns : goal.returns
returns t c =
    let put = c.put_decimal-last.ensures in
    let last = c.put_byte-2.ensures in
    let j = higher_digits c.args.n c.if-n-lt10.false in
    both_put c.args.buffer.now _ j c.requires put.0 put.1 last.0 last.1
