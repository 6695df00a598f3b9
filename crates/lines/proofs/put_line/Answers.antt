-- `lines::put_line` meets its contract: the word, each number in its turn, and the line end.
use mathlib.Core.Path.{sym, ◌∙◌}
use native.Mathlib.Omega.{arith}
use native.Mathlib.Nat.{zero-add}
use Rattle.lines.proofs.Writing.{left_all, left_room, left_next, left_none, word_first, number_at, end_at}
use Rattle.lines.proofs.put_line.Goals as goal

pub loop-n-init : goal.loop-n-init
loop-n-init c =
    let put = c.put_word-at.ensures in
    left_next c.args.buffer.now _ c.requires (word_first c.args.word.now _) (left_all c.args.buffer.now _) (put.0 ∙ sym (zero-add _)) put.1

pub put_number-at-requires : goal.put_number-at-requires
put_number-at-requires c =
    left_room c.args.buffer.now _ c.requires (number_at c.args.numbers.now _ c.loop-n-test.true) c.loop-n.invariant

pub loop-n-preserved : goal.loop-n-preserved
loop-n-preserved c =
    let put = c.put_number-at.ensures in
    left_next c.args.buffer.now _ c.requires (number_at c.args.numbers.now _ c.loop-n-test.true) c.loop-n.invariant put.0 put.1

pub put_byte-requires : goal.put_byte-requires
put_byte-requires c =
    omega (arith, left_room c.args.buffer.now _ c.requires (end_at c.args.numbers.now _ c.loop-n-test.false) c.loop-n.invariant)

pub returns : goal.returns
returns c =
    let put = c.put_byte.ensures in
    left_none c.args.buffer.now _ c.requires
    (left_next c.args.buffer.now _ c.requires (end_at c.args.numbers.now _ c.loop-n-test.false) c.loop-n.invariant put.0 put.1)
